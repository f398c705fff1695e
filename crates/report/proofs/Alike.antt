-- Two benches that differ only in memory that no marking and no trail shows carry out the same commands, turn down the same
-- ones for the same reasons, and are alike afterwards.
use Rattle.std.proofs.Common.{◌≡◌, ℕ, ◌+◌, ◌-◌, ◌<◌, ◌≤◌, ◌⊎◌, Bool, true, false, List, [], ◌∷◌, ◌++◌, length, sym, refl, ap, ◌∙◌, subst, ⊎_elim, arith, length-append, length-set}
use Rattle.term.specs.declared.fault.Fault.{Fault}
use Rattle.term.specs.declared.fault.Fault.TheVariants as fault
use Rattle.net.specs.Nets.{Mode, given, guard_holds, taken, transition}
use Rattle.net.specs.Runs.{Alike, Enabled, Fires, Open}
use Rattle.net.specs.System.{SystemNet, cells}
use Rattle.net.specs.declared.firing.Firing.{Firing}
use Rattle.bench.specs.Calls.{Begun, FireRefused, Fired, Lacking, Lent, Lowest, Nowhere, Passing, WentBack, marking}
use Rattle.bench.specs.Counted.{largest_count}
use Rattle.trace.specs.Carrying.{Does, Fitting, Refuses, firing_of}
use Rattle.trace.specs.Moves.{Move, back, fire, restart}
use Rattle.report.proofs.Below.{below_same_above}

-- the same marking, the same trail, and as much room for it
pub record Same (l k : Lent) : Type 0 where
  pub counts : Alike (marking l) (marking k)
  pub trail : l.trail ≡ k.trail
  pub memory : length l.memory ≡ length k.memory

pub same_back : (l k : Lent) → Same l k → Same k l
same_back l k s = record { counts = λ c h. sym (s.counts c h); trail = sym s.trail; memory = sym s.memory }

not_both : (i j : ℕ) → i ≤ j → j < i → ⊥
not_both i j a b = omega arith

not_true : (b : Bool) → b ≡ false → b ≡ true → ⊥
not_true b p q = cc

-- the last of two equal lists, and what stands before it
last_of : Firing → List Firing → Firing
last_of f [] = f
last_of f (g ∷ fs) = last_of g fs

last_added : (d : Firing) (fs : List Firing) (f : Firing) → last_of d (fs ++ f ∷ []) ≡ f
unfolding last_of
last_added d [] f = refl
last_added d (g ∷ fs) f = last_added g fs f

front_of : Firing → List Firing → List Firing
front_of d [] = []
front_of d (f ∷ fs) = d ∷ front_of f fs

front_added : (d : Firing) (fs : List Firing) (f : Firing) → front_of d (fs ++ f ∷ []) ≡ d ∷ fs
unfolding front_of
front_added d [] f = refl
front_added d (g ∷ fs) f = ap (λ (xs : List Firing). d ∷ xs) (front_added g fs f)

tail_of : List Firing → List Firing
tail_of [] = []
tail_of (f ∷ fs) = fs

same_last : (fs gs : List Firing) (f g : Firing) → fs ++ f ∷ [] ≡ gs ++ g ∷ [] → f ≡ g
same_last fs gs f g e = sym (last_added f fs f) ∙ ap (last_of f) e ∙ last_added f gs g

same_front : (fs gs : List Firing) (f g : Firing) → fs ++ f ∷ [] ≡ gs ++ g ∷ [] → fs ≡ gs
unfolding tail_of
same_front fs gs f g e = ap tail_of (sym (front_added f fs f) ∙ ap (front_of f) e ∙ front_added f gs g)

-- begun anew
pub begun_same : (n : SystemNet) (l k x y : Lent) → length l.memory ≡ length k.memory → Begun n l x → Begun n k y → Same x y
begun_same n l k x y e p q = record {
  counts = λ c h. p.counts c h ∙ sym (q.counts c h);
  trail = p.trail ∙ sym q.trail;
  memory = ap length p.memory ∙ e ∙ sym (ap length q.memory);
}

fired_same : (n : SystemNet) (f : Firing) (l k x y : Lent) → Same l k → Fired n f l x → Fired n f k y → Same x y
fired_same n f l k x y s p q = record {
  counts = λ c h. p.fires.new c h ∙ ap (λ (i : ℕ). i - taken n f.transition f.mode c + given n f.transition f.mode c) (s.counts c h) ∙ sym (q.fires.new c h);
  trail = p.trail ∙ ap (λ (fs : List Firing). fs ++ f ∷ []) s.trail ∙ sym q.trail;
  memory = ap length p.memory ∙ length-set l.memory (length l.trail) f ∙ s.memory ∙ sym (ap length q.memory ∙ length-set k.memory (length k.trail) f);
}

taken_back : (x y t g l k : ℕ) → t ≤ x → t ≤ y → l ≡ x - t + g → k ≡ y - t + g → l ≡ k → x ≡ y
taken_back x y t g l k a b c d e = omega arith

back_same : (n : SystemNet) (f g : Firing) (l k x y : Lent) → Same l k → WentBack n f l x → WentBack n g k y → Same x y
back_same n f g l k x y s p q =
    let both : x.trail ++ f ∷ [] ≡ y.trail ++ g ∷ [] = sym p.trail ∙ s.trail ∙ q.trail in
    let one : g ≡ f = sym (same_last x.trail y.trail f g both) in
    let fires : Fires n f.transition f.mode (marking y) (marking k) = subst (λ (h : Firing). Fires n h.transition h.mode (marking y) (marking k)) one q.fires in
    record {
      counts = λ c h. taken_back (marking x c) (marking y c) (taken n f.transition f.mode c) (given n f.transition f.mode c) (marking l c) (marking k c) (p.fires.enabled.enough c h) (fires.enabled.enough c h) (p.fires.new c h) (fires.new c h) (s.counts c h);
      trail = same_front x.trail y.trail f g both;
      memory = ap length p.memory ∙ s.memory ∙ sym (ap length q.memory);
    }

-- a command carried out on both leaves them alike
pub does_same : (n : SystemNet) (m : Move) (l k x y : Lent) → Same l k → Does n m l x → Does n m k y → Same x y
does_same n (fire t a b c d) l k x y s p q = fired_same n (firing_of t a b c d) l k x y s p q
does_same n back l k x y s p q = back_same n p.0 q.0 l k x y s p.1 q.1
does_same n restart l k x y s p q = begun_same n l k x y s.memory p q

-- the reasons for which a firing is refused
data Reason (n : SystemNet) (f : Firing) (l : Lent) : Fault → Type 0 where
  no_transition : length n.transitions ≤ f.transition → Reason n f l fault.NoTransition
  no_mode : f.transition < length n.transitions → (Mode (transition n f.transition).sizes f.mode → ⊥) → Reason n f l fault.Mode
  no_guard : f.transition < length n.transitions → Mode (transition n f.transition).sizes f.mode → guard_holds n f.transition f.mode ≡ false → Reason n f l fault.Guard
  lacks : (c : ℕ) → Open n f.transition f.mode → Lowest (Lacking n f (marking l)) c → Reason n f l (fault.Lacks c)
  full : (c : ℕ) → Enabled n f.transition f.mode (marking l) → Lowest (Passing n f (marking l)) c → Reason n f l (fault.Full c)
  trail_full : Enabled n f.transition f.mode (marking l) → Nowhere (Passing n f (marking l)) → length l.trail ≡ length l.memory → Reason n f l fault.TrailFull

reason_of : (n : SystemNet) (f : Firing) (l : Lent) (e : Fault) → FireRefused n f l e → Reason n f l e
reason_of n f l (fault.Lacks c) h = lacks c h.0 h.1
reason_of n f l (fault.Full c) h = full c h.0 h.1
reason_of n f l fault.TrailFull h = trail_full h.0 h.1 h.2
reason_of n f l fault.NoTransition h = no_transition h
reason_of n f l fault.Mode h = no_mode h.0 h.1
reason_of n f l fault.Guard h = no_guard h.0 h.1 h.2
reason_of n f l e h = elim h [ ]

module _ (n : SystemNet) (f : Firing) (l k : Lent) (s : Same l k) where
  lacks_too : (c : ℕ) → c < cells → Lacking n f (marking k) c → Lacking n f (marking l) c
  lacks_too c h p = subst (λ (i : ℕ). i < taken n f.transition f.mode c) (sym (s.counts c h)) p

  passes_too : (c : ℕ) → c < cells → Passing n f (marking k) c → Passing n f (marking l) c
  passes_too c h p = subst (λ (i : ℕ). largest_count < (i - taken n f.transition f.mode c) + given n f.transition f.mode c) (sym (s.counts c h)) p

  lacks_from : (c : ℕ) → c < cells → Lacking n f (marking l) c → Lacking n f (marking k) c
  lacks_from c h p = subst (λ (i : ℕ). i < taken n f.transition f.mode c) (s.counts c h) p

  passes_from : (c : ℕ) → c < cells → Passing n f (marking l) c → Passing n f (marking k) c
  passes_from c h p = subst (λ (i : ℕ). largest_count < (i - taken n f.transition f.mode c) + given n f.transition f.mode c) (s.counts c h) p

  same_lowest : (P Q : ℕ → Type 0) → ((c : ℕ) → c < cells → Q c → P c) → ((c : ℕ) → c < cells → P c → Q c) → (c d : ℕ) → Lowest P c → Lowest Q d → c ≡ d
  same_lowest P Q to from c d p q = ⊎_elim
      (λ (h : c < d). absurd (q.lower c h (from c p.within p.here)))
      (λ (r : (c ≡ d) ⊎ (d < c)). ⊎_elim (λ (e : c ≡ d). e) (λ (h : d < c). absurd (p.lower d h (to d q.within q.here))) r)
      (below_same_above c d)

  -- where there is a reason on both, it is one
  one_reason : (d e : Fault) → Reason n f l d → Reason n f k e → d ≡ e
  one_reason d e (no_transition a) (no_transition b) = refl
  one_reason d e (no_transition a) (no_mode b x) = absurd (not_both _ _ a b)
  one_reason d e (no_transition a) (no_guard b x y) = absurd (not_both _ _ a b)
  one_reason d e (no_transition a) (lacks c o x) = absurd (not_both _ _ a o.there)
  one_reason d e (no_transition a) (full c o x) = absurd (not_both _ _ a o.is_open.there)
  one_reason d e (no_transition a) (trail_full o x y) = absurd (not_both _ _ a o.is_open.there)
  one_reason d e (no_mode a x) (no_transition b) = absurd (not_both _ _ b a)
  one_reason d e (no_mode a x) (no_mode b y) = refl
  one_reason d e (no_mode a x) (no_guard b y z) = absurd (x y)
  one_reason d e (no_mode a x) (lacks c o y) = absurd (x o.mode)
  one_reason d e (no_mode a x) (full c o y) = absurd (x o.is_open.mode)
  one_reason d e (no_mode a x) (trail_full o y z) = absurd (x o.is_open.mode)
  one_reason d e (no_guard a x y) (no_transition b) = absurd (not_both _ _ b a)
  one_reason d e (no_guard a x y) (no_mode b z) = absurd (z x)
  one_reason d e (no_guard a x y) (no_guard b z u) = refl
  one_reason d e (no_guard a x y) (lacks c o z) = absurd (not_true _ y o.guard)
  one_reason d e (no_guard a x y) (full c o z) = absurd (not_true _ y o.is_open.guard)
  one_reason d e (no_guard a x y) (trail_full o z u) = absurd (not_true _ y o.is_open.guard)
  one_reason d e (lacks c o x) (no_transition b) = absurd (not_both _ _ b o.there)
  one_reason d e (lacks c o x) (no_mode b z) = absurd (z o.mode)
  one_reason d e (lacks c o x) (no_guard b z u) = absurd (not_true _ u o.guard)
  one_reason d e (lacks c o x) (lacks i p y) = ap fault.Lacks (same_lowest _ _ lacks_too lacks_from c i x y)
  one_reason d e (lacks c o x) (full i p z) = absurd (not_both _ _ (p.enough c x.within) (lacks_from c x.within x.here))
  one_reason d e (lacks c o x) (trail_full p y z) = absurd (not_both _ _ (p.enough c x.within) (lacks_from c x.within x.here))
  one_reason d e (full c o y) (no_transition b) = absurd (not_both _ _ b o.is_open.there)
  one_reason d e (full c o y) (no_mode b z) = absurd (z o.is_open.mode)
  one_reason d e (full c o y) (no_guard b z u) = absurd (not_true _ u o.is_open.guard)
  one_reason d e (full c o y) (lacks i p z) = absurd (not_both _ _ (o.enough i z.within) (lacks_too i z.within z.here))
  one_reason d e (full c o y) (full i p u) = ap fault.Full (same_lowest _ _ passes_too passes_from c i y u)
  one_reason d e (full c o y) (trail_full p z u) = absurd (z c y.within (passes_from c y.within y.here))
  one_reason d e (trail_full o x y) (no_transition b) = absurd (not_both _ _ b o.is_open.there)
  one_reason d e (trail_full o x y) (no_mode b z) = absurd (z o.is_open.mode)
  one_reason d e (trail_full o x y) (no_guard b z u) = absurd (not_true _ u o.is_open.guard)
  one_reason d e (trail_full o x y) (lacks i p z) = absurd (not_both _ _ (o.enough i z.within) (lacks_too i z.within z.here))
  one_reason d e (trail_full o x y) (full i p u) = absurd (x i u.within (passes_too i u.within u.here))
  one_reason d e (trail_full o x y) (trail_full p z u) = refl

  -- what is carried out on the second is refused on the first for no reason
  no_reason : (e : Fault) (x : Lent) → Reason n f l e → Fired n f k x → Fitting x → ⊥
  no_reason e x (no_transition a) h t = not_both _ _ a h.fires.enabled.is_open.there
  no_reason e x (no_mode a y) h t = y h.fires.enabled.is_open.mode
  no_reason e x (no_guard a y z) h t = not_true _ z h.fires.enabled.is_open.guard
  no_reason e x (lacks c o y) h t = not_both _ _ (h.fires.enabled.enough c y.within) (lacks_from c y.within y.here)
  no_reason e x (full c o z) h t = too_many c (t.small c z.within) (h.fires.new c z.within) (passes_from c z.within z.here)
    where
      too_many : (c : ℕ) → marking x c ≤ largest_count → marking x c ≡ marking k c - taken n f.transition f.mode c + given n f.transition f.mode c → Passing n f (marking k) c → ⊥
      too_many c a b p = omega arith
  no_reason e x (trail_full o y z) h t =
      let a = ap length h.trail ∙ length-append k.trail (f ∷ []) in
      let b = ap length h.memory ∙ length-set k.memory (length k.trail) f in
      let i = ap length s.trail in
      let j = s.memory in
      let r = t.room in
      omega (arith, a, b, i, j, r, z)

-- a command that both turn down they turn down for one reason
pub one_fault : (n : SystemNet) (m : Move) (l k : Lent) (d e : Fault) → Same l k → Refuses n m l d → Refuses n m k e → d ≡ e
one_fault n (fire t a b c d) l k e g s p q = one_reason n (firing_of t a b c d) l k s e g (reason_of n (firing_of t a b c d) l e p) (reason_of n (firing_of t a b c d) k g q)
one_fault n back l k d e s p q = p.0 ∙ sym q.0
one_fault n restart l k d e s p q = absurd p

-- what one turns down the other does not carry out
pub never_both : (n : SystemNet) (m : Move) (l k x : Lent) (e : Fault) → Same l k → Refuses n m l e → Does n m k x → Fitting x → ⊥
never_both n (fire t a b c d) l k x e s p q fits = no_reason n (firing_of t a b c d) l k s e x (reason_of n (firing_of t a b c d) l e p) q fits
never_both n back l k x e s p q fits =
    let a = ap length q.1.trail ∙ length-append x.trail (q.0 ∷ []) in
    let b = ap length s.trail in
    let c = ap length p.1 in
    omega (arith, a, b, c)
never_both n restart l k x e s p q fits = p
