-- A term of a sort has an element of that sort as its value, and a bag over a sort has nothing outside it.
use Rattle.std.proofs.Common.{◌≡◌, ℕ, zero, suc, ◌+◌, ◌*◌, ◌<◌, ◌≤◌, Bool, true, false, ◌&&◌, eqb, ltb, List, length, get_or, drop, refl, sym, ap, ◌∙◌, subst, arith, eqb-true, le-ltb, ltb-true, ne_eqb}
use Rattle.std.specs.List.{All}
use Rattle.std.proofs.lemmas.Nat.{mul-add-lt}
use Rattle.std.proofs.lemmas.Bool.{and_parts, cond_both}
use Rattle.format.specs.Format.{combinations}
use Rattle.term.specs.Meaning.{Bag, Sig, Term, apply, bag_operation, bag_sorted, constant, count, each, flexible, no_operation, operation, result, single, size, sorted, sum, truth, value, variable, width}
use Rattle.term.specs.Prefix.{Read, ReadBag, applied, bag_at, begins, missing, term_at}
use Rattle.term.specs.declared.signature.Arguments.{Arguments}
use Rattle.term.specs.declared.signature.Arguments.TheVariants as arguments
use Rattle.net.specs.WellFormed.{ArgumentsDeclared, WellFormedOperation}

-- values of the arguments that there are, 0 for the others
abbrev Among : Sig → Arguments → ℕ → ℕ → Type 0
Among s arguments.None x y = (x ≡ 0) × (y ≡ 0)
Among s (arguments.One a) x y = (x < size s a) × (y ≡ 0)
Among s (arguments.Two a b) x y = (x < size s a) × (y < size s b)
Among s (arguments.More a b) x y = (x < size s a) × (y < size s b)

-- there are at most two
abbrev Few : Arguments → Type 0
Few (arguments.More a b) = ⊥
Few a = Unit {0}

few : (sizes : List ℕ) (a : Arguments) → ArgumentsDeclared sizes a → Few a
few sizes arguments.None d = tt
few sizes (arguments.One a) d = tt
few sizes (arguments.Two a b) d = tt
few sizes (arguments.More a b) d = d

-- they name a result
inside : (s : Sig) (a : Arguments) (x y : ℕ) → Few a → Among s a x y → x * width s a + y < combinations s.sizes a
inside s arguments.None x y d h = let p = h.0 in let q = h.1 in omega arith
inside s (arguments.One a) x y d h = let p = h.0 in let q = h.1 in omega arith
inside s (arguments.Two a b) x y d h = omega (arith, mul-add-lt x (size s b) y (size s a) h.0 h.1)
inside s (arguments.More a b) x y d h = absurd d

pub truth_below : (t : Bool) → truth t < 2
truth_below true = omega arith
truth_below false = omega arith

module _ (s : Sig) (well_formed : All (WellFormedOperation s.sizes s.tables) s.operations) (truths : 2 ≤ size s 0) (vars m : List ℕ) (mode : (v : ℕ) → v < length vars → get_or m v 0 < size s (get_or vars v 0)) where
  result_below : (k : ℕ) → k < length s.operations → (a : Arguments) → (operation s k).arguments ≡ a → (x y : ℕ) → Among s a x y → result s (operation s k) x y < size s (operation s k).result
  result_below k there a z x y h =
      let o = well_formed k no_operation there in
      let at = x * width s (operation s k).arguments + y in
      let e = ap (λ l. x * width s l + y) z in
      let f = ap (combinations s.sizes) z in
      let i = inside s a x y (few s.sizes a (subst (ArgumentsDeclared s.sizes) z o.arguments)) h in
      o.results at (omega (arith, e, f, i))

  -- if it is of the sort, its value is one of the sort's elements
  abbrev Kept : ℕ → Term → Type 0
  Kept w t = sorted s vars w t ≡ true → value s m t < size s w

  kept_variable : (w v : ℕ) → Kept w (variable v)
  kept_variable w v e =
      let p = and_parts _ _ e in
      let h = mode v (ltb-true _ _ p.0) in
      rw (eqb-true _ _ p.1) at h

  kept_constant : (w sort x : ℕ) → Kept w (constant sort x)
  kept_constant w sort x e =
      let p = and_parts _ _ e in
      let h : x < size s sort = ltb-true _ _ p.1 in
      let is : sort ≡ w = eqb-true _ _ p.0 in
      rw is at h

  kept_truth : (w : ℕ) (t rest : Bool) → (eqb w 0 && rest) ≡ true → truth t < size s w
  kept_truth w t rest e =
      let z : w ≡ 0 = eqb-true _ _ (and_parts _ _ e).0 in
      let h = truth_below t in
      rw z (omega arith)

  kept_apply : (w k : ℕ) (a : Arguments) → (operation s k).arguments ≡ a → (x y : Term) → (each (λ v. sorted s vars v x) (λ v. sorted s vars v y) a ≡ true → Among s a (value s m x) (value s m y)) → Kept w (apply k x y)
  kept_apply w k a z x y h e =
      let p = and_parts _ _ e in
      let q = and_parts _ _ p.1 in
      let r = result_below k (ltb-true _ _ p.0) a z (value s m x) (value s m y) (h (sym (ap (each (λ v. sorted s vars v x) (λ v. sorted s vars v y)) z) ∙ q.1)) in
      rw (eqb-true _ _ q.0) at r

  kept_applied : (p : List ℕ → Read) → ((v : ℕ) (l : List ℕ) → Kept v (p l).0) → (w k : ℕ) (r : List ℕ) (a : Arguments) → (operation s k).arguments ≡ a → Kept w (applied p k a r).0
  kept_applied p f w k r arguments.None z = kept_apply w k _ z missing missing (λ e. (omega arith, omega arith))
  kept_applied p f w k r (arguments.One a) z = kept_apply w k _ z (p r).0 missing (λ e. (f a r e, omega arith))
  kept_applied p f w k r (arguments.Two a b) z = kept_apply w k _ z (p r).0 (p (p r).1).0 (λ e. let q = and_parts _ _ e in (f a r q.0, f b (p r).1 q.1))
  kept_applied p f w k r (arguments.More a b) z = kept_apply w k _ z (p r).0 (p (p r).1).0 (λ e. let q = and_parts _ _ e in (f a r q.0, f b (p r).1 q.1))

  -- the term of at most the given depth that bytes begin with
  pub below : (d w : ℕ) (bs : List ℕ) → Kept w (term_at s d bs).0
  unfolding term_at
  below zero w bs = kept_constant w 0 0
  below (suc d) w bs =
      let P : Read → Type 0 = λ r. Kept w r.0 in
      let k = get_or bs 1 0 in
      cond_both (begins 0x20 1 bs) _ _ P (λ _. kept_variable w k) (λ _.
      cond_both (begins 0x21 2 bs) _ _ P (λ _. kept_constant w k (get_or bs 2 0)) (λ _.
      cond_both (begins 0x22 1 bs) _ _ P (λ _. kept_applied (term_at s d) (below d) w k (drop 2 bs) (operation s k).arguments refl) (λ _.
      cond_both (begins 0x23 1 bs) _ _ P (λ _ e. kept_truth w _ _ e) (λ _.
      cond_both (begins 0x24 0 bs) _ _ P (λ _ e. kept_truth w _ _ e) (λ _.
      cond_both (begins 0x25 0 bs) _ _ P (λ _ e. kept_truth w _ _ e) (λ _. kept_constant w 0 0))))))

  -- where it is over the sort, none of what is outside the sort is in it
  abbrev Within : ℕ → ℕ → Bag → Type 0
  Within w e b = bag_sorted s vars w b ≡ true → count s m b e ≡ 0

  within_single : (w e : ℕ) (t : Term) → size s w ≤ e → Kept w t → Within w e (single t)
  within_single w e t h k o = let l = k o in let f : eqb (value s m t) e ≡ false = ne_eqb _ _ (λ x. omega arith) in rw f

  within_sum : (w e : ℕ) (a b : Bag) → Within w e a → Within w e b → Within w e (sum a b)
  within_sum w e a b x y o = let p = and_parts _ _ o in let u = x p.0 in let v = y p.1 in omega arith

  within_flexible : (w e k : ℕ) (t : Term) → size s w ≤ e → Within w e (flexible k t)
  within_flexible w e k t h o =
      let p = and_parts _ _ o in
      let q = and_parts _ _ p.1 in
      let is : (bag_operation s k).result ≡ w = eqb-true _ _ q.0 in
      let f : ltb e (size s (bag_operation s k).result) ≡ false = rw is (le-ltb _ _ h) in
      rw f

  -- the bag of at most the given depth that bytes begin with
  pub outside : (d w e : ℕ) (bs : List ℕ) → size s w ≤ e → Within w e (bag_at s d bs).0
  unfolding bag_at
  outside zero w e bs h = λ _. refl
  outside (suc d) w e bs h =
      let P : ReadBag → Type 0 = λ r. Within w e r.0 in
      let q = bag_at s d in
      cond_both (begins 0x30 0 bs) _ _ P (λ _ _. refl) (λ _.
      cond_both (begins 0x31 0 bs) _ _ P (λ _. within_single w e _ h (below d w (drop 1 bs))) (λ _.
      cond_both (begins 0x32 0 bs) _ _ P (λ _. within_sum w e _ _ (outside d w e (drop 1 bs) h) (outside d w e (q (drop 1 bs)).1 h)) (λ _.
      cond_both (begins 0x33 1 bs) _ _ P (λ _. within_flexible w e _ _ h) (λ _ _. refl))))
