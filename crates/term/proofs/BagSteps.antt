-- One turn of the check of a bag, by its code.
use Rattle.std.proofs.Common.{◌≡◌, ℕ, zero, suc, ◌-◌, ◌<◌, ◌≤◌, Bool, true, false, ◌&&◌, eqb, ltb, leb, List, length, get_or, drop, sym, ap, ◌∙◌, subst, arith, lt-ltb, eq-eqb}
use Rattle.std.proofs.lemmas.Bool.Decides.{nat_tests}
use Rattle.term.specs.declared.check.Checker.{Checker}
use Rattle.term.specs.declared.fault.Fault.TheVariants as fault
use Rattle.term.specs.Check.{Checked, bad, bag_front, check_bag, check_term, done, flexible_at, in_term, spot, then}
use Rattle.term.specs.Meaning.{Sig, of, bag_operation, bag_sorted, sorted}
use Rattle.term.specs.Prefix.{bag_at, term_at}
use Rattle.term.specs.Shape.{Flexible, Passed, PassedBag}
use Rattle.term.proofs.Shapes.{both_true}
use Rattle.term.proofs.Turns.{at_empty, at_flexible, at_single, at_sum}

module _ (s : Sig) (t : ℕ → List ℕ → Checked) (b : List ℕ → Checked) (deep : Bool) (want : ℕ) (bs : List ℕ) (ends : ℕ) where
  front_ends : length bs ≡ 0 → bag_front s t b deep want bs ends ≡ bad (in_term fault.Ends ends)
  front_ends h = let e : ltb 0 (length bs) ≡ false = grind (arith, nat_tests) in rw e

  front_unknown : 0 < length bs → (0x30 ≤ get_or bs 0 0 → get_or bs 0 0 ≤ 0x33 → ⊥) → bag_front s t b deep want bs ends ≡ bad (in_term fault.NoCommand (spot bs ends 0))
  front_unknown h n =
      let f : (leb 0x30 (get_or bs 0 0) && leb (get_or bs 0 0) 0x33) ≡ false = grind (arith, nat_tests) in
      rw (lt-ltb 0 (length bs) h, f)

module _ (k : Checker) (want : ℕ) (bs : List ℕ) where
  abbrev s : Sig
  s = of k.signature

  abbrev vars : List ℕ
  vars = k.variables.now

  abbrev ends : ℕ
  ends = k.ends

  abbrev check : ℕ → List ℕ → Checked
  check d = check_bag s vars ends d want

  pub turn : (d : ℕ) → 0 < d → check d bs ≡ bag_front s (check_term s vars ends (d - 1)) (check (d - 1)) false want bs ends
  unfolding check_bag
  turn zero h = let z : ⊥ = omega arith in absurd z
  turn (suc d) h = let e : d ≡ suc d - 1 = omega arith in ap (λ n. bag_front s (check_term s vars ends n) (check n) false want bs ends) e

  pub ends_here : (d : ℕ) → length bs ≡ 0 → bad (in_term fault.Ends ends) ≡ check d bs
  unfolding check_bag
  ends_here zero h = sym (front_ends s (λ t r. done r) (λ r. done r) true want bs ends h)
  ends_here (suc d) h = sym (front_ends s (check_term s vars ends d) (check d) false want bs ends h)

  pub unknown : (d : ℕ) → 0 < length bs → (0x30 ≤ get_or bs 0 0 → get_or bs 0 0 ≤ 0x33 → ⊥) → bad (in_term fault.NoCommand (spot bs ends 0)) ≡ check d bs
  unfolding check_bag
  unknown zero h n = sym (front_unknown s (λ t r. done r) (λ r. done r) true want bs ends h n)
  unknown (suc d) h n = sym (front_unknown s (check_term s vars ends d) (check d) false want bs ends h n)

  pub too_deep : (d : ℕ) → d ≡ 0 → 0 < length bs → 0x30 ≤ get_or bs 0 0 → get_or bs 0 0 ≤ 0x33 → bad (in_term fault.Deep (spot bs ends 0)) ≡ check d bs
  unfolding check_bag
  too_deep zero e h l u = let f : (leb 0x30 (get_or bs 0 0) && leb (get_or bs 0 0) 0x33) ≡ true = grind (arith, nat_tests) in sym (rw (lt-ltb 0 (length bs) h, f))
  too_deep (suc d) e h l u = let z : ⊥ = omega arith in absurd z

  module _ (d : ℕ) (deep : 0 < d) (h : 0 < length bs) where
    within : (c : ℕ) → 0x30 ≤ c → c ≤ 0x33 → get_or bs 0 0 ≡ c → (leb 0x30 (get_or bs 0 0) && leb (get_or bs 0 0) 0x33) ≡ true
    within c l u e = grind (arith, nat_tests)

    other : (c k : ℕ) → get_or bs 0 0 ≡ c → (c ≡ k → ⊥) → eqb (get_or bs 0 0) k ≡ false
    other c k e n = grind (arith, nat_tests)

    pub empty_bag : (r : List ℕ) → r ≡ drop 1 bs → get_or bs 0 0 ≡ 0x30 → done r ≡ check d bs
    empty_bag r cut e = ap done cut ∙ sym (turn d deep ∙ rw (lt-ltb 0 (length bs) h, within 0x30 (omega arith) (omega arith) e, eq-eqb _ _ e))

    pub single_bag : (r : List ℕ) → r ≡ drop 1 bs → get_or bs 0 0 ≡ 0x31 → check_term s vars ends (d - 1) want r ≡ check d bs
    single_bag r cut e =
        ap (check_term s vars ends (d - 1) want) cut
        ∙ sym (turn d deep ∙ rw (lt-ltb 0 (length bs) h, within 0x31 (omega arith) (omega arith) e, other 0x31 0x30 e (λ x. omega arith), eq-eqb _ _ e))

    -- the first of two bags was checked
    pub sum_bag : (r : List ℕ) (x : Checked) → r ≡ drop 1 bs → get_or bs 0 0 ≡ 0x32 → x ≡ check (d - 1) r → then x (check (d - 1)) ≡ check d bs
    sum_bag r x cut e first =
        ap (λ y. then y (check (d - 1))) (first ∙ ap (check (d - 1)) cut)
        ∙ sym (turn d deep ∙ rw (lt-ltb 0 (length bs) h, within 0x32 (omega arith) (omega arith) e, other 0x32 0x30 e (λ x. omega arith), other 0x32 0x31 e (λ x. omega arith), eq-eqb _ _ e))

    pub flexible_bag : get_or bs 0 0 ≡ 0x33 → flexible_at s (check_term s vars ends (d - 1)) want bs ends ≡ check d bs
    flexible_bag e =
        sym (turn d deep ∙ rw (lt-ltb 0 (length bs) h, within 0x33 (omega arith) (omega arith) e, other 0x33 0x30 e (λ x. omega arith), other 0x33 0x31 e (λ x. omega arith), other 0x33 0x32 e (λ x. omega arith)))

    pub passed_empty : (r : List ℕ) → r ≡ drop 1 bs → get_or bs 0 0 ≡ 0x30 → PassedBag s vars d want bs r
    passed_empty r cut e = let q = at_empty s d bs deep h e in (cut ∙ sym (ap (λ y. y.1) q), ap (λ y. bag_sorted s vars want y.0) q)

    pub passed_single : (r u : List ℕ) → r ≡ drop 1 bs → get_or bs 0 0 ≡ 0x31 → Passed s vars (d - 1) want r u → PassedBag s vars d want bs u
    passed_single r u cut e p =
        let q = at_single s d bs deep h e in
        let v = subst (λ (x : List ℕ). Passed s vars (d - 1) want x u) cut p in
        (v.0 ∙ sym (ap (λ y. y.1) q), ap (λ y. bag_sorted s vars want y.0) q ∙ v.1)

    pub passed_sum : (r u t : List ℕ) → r ≡ drop 1 bs → get_or bs 0 0 ≡ 0x32 → PassedBag s vars (d - 1) want r u → PassedBag s vars (d - 1) want u t → PassedBag s vars d want bs t
    passed_sum r u t cut e p v =
        let q = at_sum s d bs deep h e in
        let w = subst (λ (x : List ℕ). PassedBag s vars (d - 1) want x u) cut p in
        let same = w.0 in (
          v.0 ∙ ap (λ y. (bag_at s (d - 1) y).1) same ∙ sym (ap (λ y. y.1) q),
          ap (λ y. bag_sorted s vars want y.0) q ∙ both_true _ _ w.1 (ap (λ y. bag_sorted s vars want (bag_at s (d - 1) y).0) (sym same) ∙ v.1),
        )

    pub passed_flexible : (a : ℕ) (r u : List ℕ) → get_or bs 0 0 ≡ 0x33 → Flexible s want bs a r → Passed s vars (d - 1) a r u → PassedBag s vars d want bs u
    passed_flexible a r u e f p =
        let q = at_flexible s d bs deep f.long e in
        let same = f.rest in (
          p.0 ∙ ap (λ y. (term_at s (d - 1) y).1) same ∙ sym (ap (λ y. y.1) q),
          ap (λ y. bag_sorted s vars want y.0) q
              ∙ both_true _ _ (lt-ltb _ _ f.known) (both_true _ _ (eq-eqb _ _ f.over)
              (ap (λ y. sorted s vars (bag_operation s (get_or bs 1 0)).argument (term_at s (d - 1) y).0) (sym same) ∙ ap (λ y. sorted s vars y (term_at s (d - 1) r).0) (sym f.argument) ∙ p.1)),
        )
