-- Firing, computed: the firings before lead to the marking computed and to no other, and there the contract of fire
-- allows a result that shows the answer, and none that shows another.
use Rattle.std.proofs.Common.{◌≡◌, ℕ, ◌+◌, ◌-◌, ◌<◌, Bool, true, false, cond, ◌&&◌, eqb, ltb, List, [], ◌∷◌, ◌++◌, length, map, get_or, slice_set, Some, None, Ok, Err, Option, Result, sym, refl, ap, ◌∙◌, true≢false, zero-add, arith, ltb-false, ltb-true, eqb-true}
use Rattle.std.specs.List.{range_with_len}
use Rattle.std.proofs.lemmas.List.FromFn.{get_or-map-range_with_len}
use Rattle.term.specs.Worth.{Marking}
use Rattle.term.specs.declared.fault.Fault.{Fault}
use Rattle.term.specs.declared.fault.Fault.TheVariants as fault
use Rattle.net.specs.Nets.{given, guard_holds, taken, transition}
use Rattle.net.specs.Runs.{Alike, Enabled, Fires, Open, Run, initial}
use Rattle.net.specs.System.{SystemNet, cells}
use Rattle.net.specs.declared.firing.Firing.{Firing}
use Rattle.bench.specs.Calls.{FireCalled, Lacking, Lent, Lowest, Nowhere, Passing, marking}
use Rattle.bench.specs.Counted.{largest_count}
use Rattle.worked.specs.Rows.{Answer, Leads, Replies, StandsAt, fire_shown, fired, refusal}
use Rattle.worked.proofs.First.{IsFirst, first, first_is, order}
use Rattle.worked.proofs.Verdicts.{Sound, both_true}

abbrev in_mode : List ℕ → List ℕ → Bool
in_mode ns m = ltb (get_or m 0 0) (get_or ns 0 0) && (ltb (get_or m 1 0) (get_or ns 1 0) && (ltb (get_or m 2 0) (get_or ns 2 0) && ltb (get_or m 3 0) (get_or ns 3 0)))

-- the net has the transition, and the mode with a true guard
abbrev opens : SystemNet → Firing → Bool
opens n f =
    ltb f.transition (length n.transitions) && (eqb (length f.mode) 4 && (in_mode (transition n f.transition).sizes f.mode && guard_holds n f.transition f.mode))

abbrev next : SystemNet → Firing → Marking → Marking
next n f x c = x c - taken n f.transition f.mode c + given n f.transition f.mode c

abbrev lacks : SystemNet → Firing → Marking → ℕ → Bool
lacks n f x c = ltb (x c) (taken n f.transition f.mode c)

abbrev passes : SystemNet → Firing → Marking → ℕ → Bool
passes n f x c = ltb largest_count (next n f x c)

-- a marking found, unless a cell lacks tokens
abbrev unless : {A : Type 0} → Option ℕ → Option A → Option A
unless (Some c) o = None
unless None o = o

-- the marking to which firings lead
abbrev run_to : SystemNet → Marking → List Firing → Option Marking
run_to n x [] = Some x
run_to n x (f ∷ fs) = cond (opens n f) (unless (first (lacks n f x) cells) (run_to n (next n f x) fs)) None

-- the answer of fire, by the first cell that lacks tokens and the first that would hold too many; of the latter none is
-- given, since lent memory holds numbers of any size as far as the contract says
abbrev replied : Option ℕ → Option ℕ → Option Answer
replied (Some c) o = Some (refusal (fault.Lacks c))
replied None (Some c) = None
replied None None = Some fired

abbrev reply : SystemNet → Firing → Option Marking → Option Answer
reply n f None = None
reply n f (Some x) = replied (first (lacks n f x) cells) (first (passes n f x) cells)

abbrev pub replying : SystemNet → List Firing → Firing → Option Answer
replying n fs f = cond (opens n f) (reply n f (run_to n (initial n) fs)) None

opened : (n : SystemNet) (f : Firing) → opens n f ≡ true → Open n f.transition f.mode
opened n f e =
    let a = both_true _ _ e in
    let b = both_true _ _ a.1 in
    let c = both_true _ _ b.1 in
    let p = both_true _ _ c.0 in
    let q = both_true _ _ p.1 in
    let r = both_true _ _ q.1 in
    record {
      there = ltb-true _ _ a.0;
      mode = record { four = eqb-true _ _ b.0; first = ltb-true _ _ p.0; second = ltb-true _ _ q.0; third = ltb-true _ _ r.0; fourth = ltb-true _ _ r.1 };
      guard = c.1;
    }

-- what the first cells are, on a marking that is alike
module _ (n : SystemNet) (f : Firing) (a x : Marking) (same : Alike a x) where
  able : Open n f.transition f.mode → IsFirst (lacks n f x) cells None → Enabled n f.transition f.mode a
  able o g = record { is_open = o; enough = λ c h. let e = same c h in let z = ltb-false _ _ (g c h) in omega arith }

  short : (c : ℕ) → IsFirst (lacks n f x) cells (Some c) → Lowest (Lacking n f a) c
  short c (h, holds, fails) = record {
    within = h;
    here = let e = same c h in let z = ltb-true _ _ holds in omega arith;
    lower = λ k l p. let e = same k (omega arith) in let z = ltb-false _ _ (fails k l) in omega arith;
  }

  after : (c : ℕ) → c < cells → next n f a c ≡ next n f x c
  after c h = ap (λ (z : ℕ). z - taken n f.transition f.mode c + given n f.transition f.mode c) (same c h)

  room : IsFirst (passes n f x) cells None → Nowhere (Passing n f a)
  room g c h p = let e = after c h in let z = ltb-false _ _ (g c h) in omega (arith, e, z, p)

module _ (n : SystemNet) where
  -- the marking found is one to which the firings lead
  abbrev Found : Marking → List Firing → Option Marking → Type 0
  Found x fs None = Unit {0}
  Found x fs (Some y) = Run n x fs y

  found : (x : Marking) (fs : List Firing) → Found x fs (run_to n x fs)
  found x [] = λ c h. refl
  found x (f ∷ fs) = by_open (opens n f) refl (found (next n f x) fs)
    where
      onward : (o : Option Marking) → Fires n f.transition f.mode x (next n f x) → Found (next n f x) fs o → Found x (f ∷ fs) o
      onward None g r = tt
      onward (Some z) g r = (next n f x, (g, r))

      by_lack : (o : Option ℕ) → IsFirst (lacks n f x) cells o → opens n f ≡ true → Found (next n f x) fs (run_to n (next n f x) fs) → Found x (f ∷ fs) (unless o (run_to n (next n f x) fs))
      by_lack (Some c) g e r = tt
      by_lack None g e r = onward (run_to n (next n f x) fs) (record { enabled = able n f x x (λ c h. refl) (opened n f e) g; new = λ c h. refl }) r

      by_open : (b : Bool) → opens n f ≡ b → Found (next n f x) fs (run_to n (next n f x) fs) → Found x (f ∷ fs) (cond b (unless (first (lacks n f x) cells) (run_to n (next n f x) fs)) None)
      by_open false e r = tt
      by_open true e r = by_lack (first (lacks n f x) cells) (first_is (lacks n f x) cells) e r

  -- the firings lead to no other marking
  abbrev Alone : Marking → Option Marking → Type 0
  Alone b None = Unit {0}
  Alone b (Some y) = Alike b y

  alone : (x a b : Marking) (fs : List Firing) → Alike a x → Run n a fs b → Alone b (run_to n x fs)
  alone x a b [] same r = λ c h. sym (r c h) ∙ same c h
  alone x a b (f ∷ fs) same r = by_open (opens n f) (alone (next n f x) r.0 b fs (λ c h. r.1.0.new c h ∙ after n f a x same c h) r.1.1)
    where
      by_lack : (o : Option ℕ) → Alone b (run_to n (next n f x) fs) → Alone b (unless o (run_to n (next n f x) fs))
      by_lack (Some c) z = tt
      by_lack None z = z

      by_open : (p : Bool) → Alone b (run_to n (next n f x) fs) → Alone b (cond p (unless (first (lacks n f x) cells) (run_to n (next n f x) fs)) None)
      by_open false z = tt
      by_open true z = by_lack (first (lacks n f x) cells) z

-- memory after a firing: the counts are those of the marking to which it leads
module _ (n : SystemNet) (f : Firing) (l : Lent) where
  abbrev led : ℕ → List ℕ
  led k = map (next n f (marking l)) (range_with_len 0 k)

  led_is : (k c : ℕ) → c < k → get_or (led k) c 0 ≡ next n f (marking l) c
  led_is k c h = get_or-map-range_with_len (next n f (marking l)) 0 k c c 0 h (zero-add c)

  goes_on : Enabled n f.transition f.mode (marking l) → (k : Lent) × FireCalled n f l k (Ok tt)
  goes_on e =
      let k : Lent = record { counts = led cells; trail = l.trail ++ f ∷ []; memory = slice_set l.memory (length l.trail) f } in
      (k, record { fires = record { enabled = e; new = led_is cells }; trail = refl; memory = refl })

module _ (n : SystemNet) (f : Firing) (l : Lent) where
  -- what a call can answer where the transition is open and the trail has room
  data Case : Result (Unit {0}) Fault → Type 0 where
    goes : {u : Unit {0}} → Enabled n f.transition f.mode (marking l) → Case (Ok u)
    lacking : {c : ℕ} → Lowest (Lacking n f (marking l)) c → Case (Err (fault.Lacks c))
    filled : {c : ℕ} → Enabled n f.transition f.mode (marking l) → Lowest (Passing n f (marking l)) c → Case (Err (fault.Full c))

  case_of : Open n f.transition f.mode → length l.trail < length l.memory → (k : Lent) (r : Result (Unit {0}) Fault) → FireCalled n f l k r → Case r
  case_of o room k (Ok u) a = goes a.fires.enabled
  case_of o room k (Err fault.NoTransition) a = let h = a.0 in let g = o.there in absurd (omega arith)
  case_of o room k (Err fault.Mode) a = absurd (a.0.1 o.mode)
  case_of o room k (Err fault.Guard) a = absurd (true≢false (sym o.guard ∙ a.0.2))
  case_of o room k (Err (fault.Lacks c)) a = lacking a.0.1
  case_of o room k (Err (fault.Full c)) a = filled a.0.0 a.0.1
  case_of o room k (Err fault.TrailFull) a = let e = a.0.2 in absurd (omega arith)
  case_of o room k (Err e) a = absurd a.0

  -- where a firing is enabled, no cell lacks tokens
  able_lacks : {P : Type 0} (c : ℕ) → Enabled n f.transition f.mode (marking l) → Lowest (Lacking n f (marking l)) c → P
  able_lacks c e w = let g = e.enough c w.within in let h = w.here in absurd (omega (arith, g, h))

  -- where a cell lacks tokens, the lowest such cell is named
  lacking_only : (c : ℕ) (r : Result (Unit {0}) Fault) → Lowest (Lacking n f (marking l)) c → Case r → refusal (fault.Lacks c) ≡ fire_shown r
  lacking_only c r w (goes g) = able_lacks c g w
  lacking_only c r w (lacking {c = e} v) = ap (λ (x : ℕ). refusal (fault.Lacks x)) (order c e (λ h. v.lower c h w.here) (λ h. w.lower e h v.here))
  lacking_only c r w (filled g v) = able_lacks c g w

  -- where it is enabled and no cell would hold too many, it fires
  fired_only : (r : Result (Unit {0}) Fault) → Enabled n f.transition f.mode (marking l) → Nowhere (Passing n f (marking l)) → Case r → fired ≡ fire_shown r
  fired_only r g h (goes u) = refl
  fired_only r g h (lacking v) = able_lacks _ g v
  fired_only r g h (filled u v) = absurd (h _ v.within v.here)

-- the answer computed is the answer
module _ (n : SystemNet) (fs : List Firing) (f : Firing) where
  module _ (o : Open n f.transition f.mode) (x : Marking) (run : Leads n fs x) (same : (y : Marking) → Leads n fs y → Alike y x) where
    at : (y : Marking) (l : Lent) → Leads n fs y → StandsAt y l → Alike (marking l) x
    at y l r s c h = s.marked c h ∙ same y r c h

    replied_sound : (p q : Option ℕ) → IsFirst (lacks n f x) cells p → IsFirst (passes n f x) cells q → Sound (Replies n fs f) (replied p q)
    replied_sound (Some c) q g h = record {
      leads = (x, run);
      some = λ y l r s. (l, (Err (fault.Lacks c), (((o, short n f (marking l) x (at y l r s) c g), refl), refl)));
      only = λ y l k r u s a. lacking_only n f l c r (short n f (marking l) x (at y l u s) c g) (case_of n f l o s.room k r a);
    }
    replied_sound None (Some c) g h = tt
    replied_sound None None g h = record {
      leads = (x, run);
      some = λ y l r s. let k = goes_on n f l (able n f (marking l) x (at y l r s) o g) in (k.0, (Ok tt, (k.1, refl)));
      only = λ y l k r u s a. fired_only n f l r (able n f (marking l) x (at y l u s) o g) (room n f (marking l) x (at y l u s) h) (case_of n f l o s.room k r a);
    }

  pub replying_sound : Sound (Replies n fs f) (replying n fs f)
  replying_sound = by_open (opens n f) refl
    where
      by_run : (p : Option Marking) → Found n (initial n) fs p → ((y : Marking) → Leads n fs y → Alone n y p) → opens n f ≡ true → Sound (Replies n fs f) (reply n f p)
      by_run None r s e = tt
      by_run (Some x) r s e =
          replied_sound (opened n f e) x r s (first (lacks n f x) cells) (first (passes n f x) cells) (first_is (lacks n f x) cells) (first_is (passes n f x) cells)

      by_open : (b : Bool) → opens n f ≡ b → Sound (Replies n fs f) (cond b (reply n f (run_to n (initial n) fs)) None)
      by_open false e = tt
      by_open true e = by_run (run_to n (initial n) fs) (found n (initial n) fs) (λ y r. alone n (initial n) (initial n) y fs (λ c h. refl) r) e
