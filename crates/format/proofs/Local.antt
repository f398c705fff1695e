-- A term or a bag is read from its own bytes alone: what follows it makes no difference.
use Rattle.std.proofs.Common.{◌≡◌, ℕ, zero, suc, ◌+◌, ◌-◌, ◌<◌, ◌≤◌, Bool, true, false, cond, ◌&&◌, eqb, ltb, List, [], length, get_or, take, drop, sym, refl, ap, ◌∙◌, zero-add, arith, length-drop, length-take, get_or-take, drop-drop, ltb-true}
use Rattle.std.proofs.lemmas.List.{drop-take}
use Rattle.std.proofs.lemmas.Bool.Decides.{nat_tests}
use Rattle.term.specs.Meaning.{Sig, apply, bag_sorted, both, constant, empty, equal, flexible, negate, operation, single, sorted, sum, variable}
use Rattle.term.specs.declared.signature.Arguments.{Arguments}
use Rattle.term.specs.declared.signature.Arguments.TheVariants as arguments
use Rattle.term.specs.Prefix.{Read, ReadBag, applied, bag_at, bag_front, begins, front, missing, term_at, two}
use Rattle.term.specs.Shape.{Passed, PassedBag}
use Rattle.format.specs.Format.{front_of}

-- p takes some first bytes of bs, at least n, and reads the same where fewer bytes follow those
record Cut {X : Type 0} (p : List ℕ → X × List ℕ) (n : ℕ) (bs : List ℕ) : Type 0 where
  used : ℕ
  least : n ≤ used
  within : used ≤ length bs
  rest : (p bs).1 ≡ drop used bs
  same : (e : ℕ) → p (take (used + e) bs) ≡ ((p bs).0, take e (drop used bs))

stop : {X : Type 0} (x : X) (bs : List ℕ) → Cut (λ l. (x, l)) 0 bs
stop x bs = record { used = 0; least = omega arith; within = omega arith; rest = refl; same = λ e. ap (λ k. (x, take k bs)) (zero-add e) }

leaf : {X : Type 0} (a : ℕ) (x : X) (bs : List ℕ) → a ≤ length bs → Cut (λ l. (x, drop a l)) a bs
leaf a x bs h = record { used = a; least = omega arith; within = h; rest = refl; same = λ e. ap (λ l. (x, l)) (drop-take a e bs) }

-- first p after a bytes, then g
seq : {X Y : Type 0} (a : ℕ) (p : List ℕ → X × List ℕ) (g : X → List ℕ → Y × List ℕ) (bs : List ℕ) → a ≤ length bs
    → Cut p 0 (drop a bs) → Cut (g (p (drop a bs)).0) 0 (p (drop a bs)).1 → Cut (λ l. g (p (drop a l)).0 (p (drop a l)).1) a bs
seq {X} {Y} a p g bs h c d =
    let m = c.used in
    let n = d.used in
    let left : drop n (p (drop a bs)).1 ≡ drop (a + (m + n)) bs = ap (drop n) c.rest ∙ drop-drop n m (drop a bs) ∙ drop-drop (m + n) a bs in
    record {
      used = a + (m + n);
      least = omega arith;
      within = omega (arith, c.within, d.within, ap length c.rest, length-drop m (drop a bs), length-drop a bs);
      rest = d.rest ∙ left;
      same = λ e.
          let k : a + (m + n) + e ≡ a + (m + (n + e)) = omega arith in
          ap (λ j. g (p (drop a (take j bs))).0 (p (drop a (take j bs))).1) k
          ∙ ap (λ l. g (p l).0 (p l).1) (drop-take a (m + (n + e)) bs)
          ∙ ap (λ (z : X × List ℕ). g z.0 z.1) (c.same (n + e))
          ∙ ap (λ l. g (p (drop a bs)).0 (take (n + e) l)) (sym c.rest)
          ∙ d.same e
          ∙ ap (λ l. ((g (p (drop a bs)).0 (p (drop a bs)).1).0, take e l)) left;
    }

one_cut : {X Y : Type 0} (a : ℕ) (p : List ℕ → X × List ℕ) (f : X → Y) (bs : List ℕ) → a ≤ length bs → ((l : List ℕ) → Cut p 0 l) → Cut (λ l. (f (p (drop a l)).0, (p (drop a l)).1)) a bs
one_cut a p f bs h c = seq a p (λ x l. (f x, l)) bs h (c (drop a bs)) (stop (f (p (drop a bs)).0) (p (drop a bs)).1)

two_cut : {X Y : Type 0} (a : ℕ) (p : List ℕ → X × List ℕ) (f : X → X → Y) (bs : List ℕ) → a ≤ length bs → ((l : List ℕ) → Cut p 0 l)
    → Cut (λ l. (f (p (drop a l)).0 (p (p (drop a l)).1).0, (p (p (drop a l)).1).1)) a bs
two_cut a p f bs h c = seq a p (λ x l. (f x (p l).0, (p l).1)) bs h (c (drop a bs)) (one_cut 0 p (f (p (drop a bs)).0) (p (drop a bs)).1 (omega arith) c)

-- a byte among those taken is the same
at_byte : {X : Type 0} (i n : ℕ) (f : ℕ → List ℕ → X × List ℕ) (bs : List ℕ) → i < n → Cut (f (get_or bs i 0)) n bs → Cut (λ l. f (get_or l i 0) l) n bs
at_byte i n f bs h c = record {
  used = c.used;
  least = c.least;
  within = c.within;
  rest = c.rest;
  same = λ e. let less : i < c.used + e = omega (arith, c.least) in ap (λ v. f v (take (c.used + e) bs)) (get_or-take (c.used + e) bs i 0 less) ∙ c.same e;
}

same_test : (n j : ℕ) (l : List ℕ) → n < j → ltb n (length (take j l)) ≡ ltb n (length l)
same_test n j l h = grind (arith, nat_tests, length-take j l)

-- enough bytes begin as all of them do
kept : (k n j : ℕ) (bs : List ℕ) → n < j → begins k n (take j bs) ≡ begins k n bs
kept k n j bs h =
    let z : 0 < j = omega arith in
    ap (λ t. t && eqb (get_or (take j bs) 0 0) k) (same_test n j bs h) ∙ ap (λ v. ltb n (length bs) && eqb v k) (get_or-take j bs 0 0 z)

not_kept : (k n j : ℕ) (bs : List ℕ) (b : Bool) → ltb n (length (take j bs)) ≡ b → begins k n bs ≡ false → begins k n (take j bs) ≡ false
not_kept k n j bs true t e = let h : n < j = omega (arith, ltb-true n (length (take j bs)) t, length-take j bs) in kept k n j bs h ∙ e
not_kept k n j bs false t e = ap (λ v. v && eqb (get_or (take j bs) 0 0) k) t

longer : (b c : Bool) → b && c ≡ true → b ≡ true
longer true c e = refl
longer false c e = e

choose_by : {X : Type 0} {f g : List ℕ → X × List ℕ} (k n : ℕ) (bs : List ℕ) (b : Bool) → begins k n bs ≡ b → (suc n ≤ length bs → Cut f (suc n) bs) → Cut g 0 bs → Cut (λ l. cond (begins k n l) (f l) (g l)) 0 bs
choose_by {X} {f} {g} k n bs true e c d =
    let h : n < length bs = ltb-true n (length bs) (longer (ltb n (length bs)) (eqb (get_or bs 0 0) k) e) in
    let x : Cut f (suc n) bs = c h in
    record {
      used = x.used;
      least = omega arith;
      within = x.within;
      rest = ap (λ b. (cond b (f bs) (g bs)).1) e ∙ x.rest;
      same = λ j.
          let more : n < x.used + j = omega (arith, x.least) in
          ap (λ b. cond b (f (take (x.used + j) bs)) (g (take (x.used + j) bs))) (kept k n (x.used + j) bs more ∙ e)
          ∙ x.same j
          ∙ ap (λ b. ((cond b (f bs) (g bs)).0, take j (drop x.used bs))) (sym e);
    }
choose_by {X} {f} {g} k n bs false e c d = record {
  used = d.used;
  least = d.least;
  within = d.within;
  rest = ap (λ b. (cond b (f bs) (g bs)).1) e ∙ d.rest;
  same = λ j.
      ap (λ b. cond b (f (take (d.used + j) bs)) (g (take (d.used + j) bs))) (not_kept k n (d.used + j) bs (ltb n (length (take (d.used + j) bs))) refl e)
      ∙ d.same j
      ∙ ap (λ b. ((cond b (f bs) (g bs)).0, take j (drop d.used bs))) (sym e);
}

-- a choice by the first byte
choose : {X : Type 0} {f g : List ℕ → X × List ℕ} (k n : ℕ) (bs : List ℕ) → (suc n ≤ length bs → Cut f (suc n) bs) → Cut g 0 bs → Cut (λ l. cond (begins k n l) (f l) (g l)) 0 bs
choose k n bs c d = choose_by k n bs (begins k n bs) refl c d

applied_cut : (p : List ℕ → Read) (k : ℕ) (a : Arguments) (bs : List ℕ) → 2 ≤ length bs → ((l : List ℕ) → Cut p 0 l) → Cut (λ l. applied p k a (drop 2 l)) 2 bs
applied_cut p k arguments.None bs h c = leaf 2 (apply k missing missing) bs h
applied_cut p k (arguments.One a) bs h c = one_cut 2 p (λ x. apply k x missing) bs h c
applied_cut p k (arguments.Two a b) bs h c = two_cut 2 p (apply k) bs h c
applied_cut p k (arguments.More a b) bs h c = two_cut 2 p (apply k) bs h c

front_cut : (s : Sig) (p : List ℕ → Read) → ((l : List ℕ) → Cut p 0 l) → (bs : List ℕ) → Cut (front s p) 0 bs
front_cut s p c bs =
    choose 0x20 1 bs (λ h. at_byte 1 2 (λ v l. (variable v, drop 2 l)) bs (omega arith) (leaf 2 (variable (get_or bs 1 0)) bs h))
    (choose 0x21 2 bs (λ h. at_byte 1 3 (λ v l. (constant v (get_or l 2 0), drop 3 l)) bs (omega arith) (at_byte 2 3 (λ w l. (constant (get_or bs 1 0) w, drop 3 l)) bs (omega arith) (leaf 3 (constant (get_or bs 1 0) (get_or bs 2 0)) bs h)))
    (choose 0x22 1 bs (λ h. at_byte 1 2 (λ v l. applied p v (operation s v).arguments (drop 2 l)) bs (omega arith) (applied_cut p (get_or bs 1 0) (operation s (get_or bs 1 0)).arguments bs h c))
    (choose 0x23 1 bs (λ h. at_byte 1 2 (λ v l. two p (equal v) (drop 2 l)) bs (omega arith) (two_cut 2 p (equal (get_or bs 1 0)) bs h c))
    (choose 0x24 0 bs (λ h. one_cut 1 p negate bs h c)
    (choose 0x25 0 bs (λ h. two_cut 1 p both bs h c) (stop missing bs))))))

term_cut : (s : Sig) (d : ℕ) (bs : List ℕ) → Cut (term_at s d) 0 bs
unfolding term_at
term_cut s zero bs = stop missing bs
term_cut s (suc d) bs = front_cut s (term_at s d) (term_cut s d) bs

bag_front_cut : (p : List ℕ → Read) (q : List ℕ → ReadBag) → ((l : List ℕ) → Cut p 0 l) → ((l : List ℕ) → Cut q 0 l) → (bs : List ℕ) → Cut (bag_front p q) 0 bs
bag_front_cut p q c d bs =
    choose 0x30 0 bs (λ h. leaf 1 empty bs h)
    (choose 0x31 0 bs (λ h. one_cut 1 p single bs h c)
    (choose 0x32 0 bs (λ h. two_cut 1 q sum bs h d)
    (choose 0x33 1 bs (λ h. at_byte 1 2 (λ v l. (flexible v (p (drop 2 l)).0, (p (drop 2 l)).1)) bs (omega arith) (one_cut 2 p (flexible (get_or bs 1 0)) bs h c)) (stop empty bs))))

bag_cut : (s : Sig) (d : ℕ) (bs : List ℕ) → Cut (bag_at s d) 0 bs
unfolding bag_at
bag_cut s zero bs = stop empty bs
bag_cut s (suc d) bs = bag_front_cut (term_at s d) (bag_at s d) (term_cut s d) (bag_cut s d) bs

-- from the bytes that it took alone p reads the same, and nothing is left
whole : {X : Type 0} (p : List ℕ → X × List ℕ) (bs r : List ℕ) → Cut p 0 bs → r ≡ (p bs).1 → p (front_of bs r) ≡ ((p bs).0, [])
whole p bs r c e =
    let k : length bs - length r ≡ c.used + 0 = omega (arith, c.within, ap length (e ∙ c.rest), length-drop c.used bs) in
    ap (λ j. p (take j bs)) k ∙ c.same 0

-- what passed the check passes it on its own
pub passed_alone : (s : Sig) (vars : List ℕ) (d want : ℕ) (bs r : List ℕ) → Passed s vars d want bs r → Passed s vars d want (front_of bs r) []
passed_alone s vars d want bs r h =
    let w = whole (term_at s d) bs r (term_cut s d bs) h.0 in
    (sym (ap (λ (z : Read). z.1) w), ap (λ (z : Read). sorted s vars want z.0) w ∙ h.1)

pub passed_bag_alone : (s : Sig) (vars : List ℕ) (d want : ℕ) (bs r : List ℕ) → PassedBag s vars d want bs r → PassedBag s vars d want (front_of bs r) []
passed_bag_alone s vars d want bs r h =
    let w = whole (bag_at s d) bs r (bag_cut s d bs) h.0 in
    (sym (ap (λ (z : ReadBag). z.1) w), ap (λ (z : ReadBag). bag_sorted s vars want z.0) w ∙ h.1)
