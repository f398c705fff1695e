-- The front of a term that passed the check, by its code.
use Rattle.std.proofs.Common.{◌≡◌, ℕ, suc, ◌-◌, ◌<◌, Bool, true, false, cond, ◌&&◌, eqb, ltb, leb, List, length, get_or, drop, refl, sym, ap, ◌∙◌, subst, arith, ltb-true, eqb-true}
use Rattle.std.proofs.lemmas.Bool.{cond_both}
use Rattle.std.proofs.lemmas.Bool.Decides.{nat_tests}
use Rattle.term.specs.declared.fault.FileFault.{FileFault}
use Rattle.term.specs.declared.signature.Arguments.{Arguments}
use Rattle.term.specs.declared.signature.Arguments.TheVariants as arguments
use Rattle.term.specs.declared.signature.Operation.{Operation}
use Rattle.term.specs.Check.{Front, none, application_at, constant_at, equality_at, head_at, logic_at, variable_at}
use Rattle.term.specs.Check as check
use Rattle.term.specs.Meaning.{Sig, Term, variable, constant, apply, equal, negate, both, each, operation, size, sorted}
use Rattle.term.specs.Prefix.{Read, applied, front, missing, one, term_at, two}
use Rattle.term.specs.Shape.{Passed}
use Rattle.term.proofs.Cuts.{shorter_by}
use Rattle.term.proofs.Turns.{front_apply, front_both, front_constant, front_equal, front_negate, front_variable, turn}

pub both_true : (a b : Bool) → a ≡ true → b ≡ true → (a && b) ≡ true
both_true a b p q = rw (p, q)

-- with two parts at r, of the sorts a and b, the term that is read by p is of sort want
abbrev pub BegunTwo : Sig → List ℕ → ℕ → (List ℕ → Read) → Read → ℕ → ℕ → List ℕ → Type 0
BegunTwo s vars want p read a b r =
    (f : Term → Term → Term) × (read ≡ two p f r) × ((x y : Term) → sorted s vars a x ≡ true → sorted s vars b y ≡ true → sorted s vars want (f x y) ≡ true)

-- with the parts at r, each of its sort, the term that is read by p is of sort want
abbrev pub Begun : Sig → List ℕ → ℕ → (List ℕ → Read) → Read → Arguments → List ℕ → Type 0
Begun s vars want p read arguments.None r = (t : Term) × (read ≡ (t, r)) × (sorted s vars want t ≡ true)
Begun s vars want p read (arguments.One a) r =
    (f : Term → Term) × (read ≡ one p f r) × ((x : Term) → sorted s vars a x ≡ true → sorted s vars want (f x) ≡ true)
Begun s vars want p read (arguments.Two a b) r = BegunTwo s vars want p read a b r
Begun s vars want p read (arguments.More a b) r = BegunTwo s vars want p read a b r

-- parts of the given sorts follow at r; with them the term is of sort want
pub record Shape (s : Sig) (vars : List ℕ) (want : ℕ) (bs : List ℕ) (parts : Arguments) (r : List ℕ) : Type 0 where
  pub shorter : length r < length bs
  pub begun : (p : List ℕ → Read) → Begun s vars want p (front s p bs) parts r

module _ (s : Sig) (vars : List ℕ) (want : ℕ) (bs : List ℕ) where
  -- a front has its shape; of a fault nothing is said
  unfoldable Found : Front → Type 0
  Found (check.front a r) = Shape s vars want bs a r
  Found (none e) = Unit {0}

  fault : (e : FileFault) → Found (none e)
  unfolding Found
  fault e = tt

  tested : (ok : Bool) (f : Front) (e : FileFault) → (ok ≡ true → Found f) → Found (cond ok f (none e))
  tested true f e h = h refl
  tested false f e h = fault e

  -- a front of n + 1 bytes
  begun : (n : ℕ) (a : Arguments) → n < length bs → ((p : List ℕ → Read) → Begun s vars want p (front s p bs) a (drop (suc n) bs)) → Found (check.front a (drop (suc n) bs))
  unfolding Found
  begun n a long terms = record { shorter = shorter_by (suc n) bs _ refl (omega arith) long; begun = terms }

  variable_found : (ends : ℕ) → get_or bs 0 0 ≡ 0x20 → Found (variable_at vars want bs ends)
  variable_found ends e =
      let v = get_or bs 1 0 in
      tested (ltb 1 (length bs)) _ _ (λ h. tested (ltb v (length vars)) _ _ (λ there. tested (eqb (get_or vars v 0) want) _ _ (λ over.
      let long = ltb-true 1 (length bs) h in
      begun 1 arguments.None long (λ p. (variable v, front_variable s p bs long e, both_true _ _ there over)))))

  constant_found : (ends : ℕ) → get_or bs 0 0 ≡ 0x21 → Found (constant_at s want bs ends)
  constant_found ends e =
      let t = get_or bs 1 0 in
      let v = get_or bs 2 0 in
      tested (ltb 1 (length bs)) _ _ (λ h. tested (ltb t (length s.sizes)) _ _ (λ there. tested (eqb t want) _ _ (λ over. tested (ltb 2 (length bs)) _ _ (λ h. tested (ltb v (size s t)) _ _ (λ known.
      let long = ltb-true 2 (length bs) h in
      begun 2 arguments.None long (λ p. (constant t v, front_constant s p bs long e, both_true _ _ over known)))))))

  abbrev o : Operation
  o = operation s (get_or bs 1 0)

  module _ (e : get_or bs 0 0 ≡ 0x22) (long : 1 < length bs) (there : ltb (get_or bs 1 0) (length s.operations) ≡ true) (over : eqb o.result want ≡ true) where
    fits : (a : Arguments) → o.arguments ≡ a → (x y : Term) → each (λ v. sorted s vars v x) (λ v. sorted s vars v y) a ≡ true → sorted s vars want (apply (get_or bs 1 0) x y) ≡ true
    fits a z x y t = both_true _ _ there (both_true _ _ over (ap (each (λ v. sorted s vars v x) (λ v. sorted s vars v y)) z ∙ t))

    opens : (p : List ℕ → Read) (a : Arguments) → o.arguments ≡ a → front s p bs ≡ applied p (get_or bs 1 0) a (drop 2 bs)
    opens p a z = front_apply s p bs long e ∙ ap (λ x. applied p (get_or bs 1 0) x (drop 2 bs)) z

    takes : (p : List ℕ → Read) (a : Arguments) → o.arguments ≡ a → Begun s vars want p (front s p bs) a (drop 2 bs)
    takes p arguments.None z = (apply (get_or bs 1 0) missing missing, opens p _ z, fits _ z missing missing refl)
    takes p (arguments.One a) z = ((λ x. apply (get_or bs 1 0) x missing), opens p _ z, λ x t. fits _ z x missing t)
    takes p (arguments.Two a b) z = (apply (get_or bs 1 0), opens p _ z, λ x y t u. fits _ z x y (both_true _ _ t u))
    takes p (arguments.More a b) z = (apply (get_or bs 1 0), opens p _ z, λ x y t u. fits _ z x y (both_true _ _ t u))

  application_found : (ends : ℕ) → get_or bs 0 0 ≡ 0x22 → Found (application_at s want bs ends)
  application_found ends e =
      tested (ltb 1 (length bs)) _ _ (λ h. tested (ltb (get_or bs 1 0) (length s.operations)) _ _ (λ there. tested (eqb o.result want) _ _ (λ over.
      let long = ltb-true 1 (length bs) h in
      begun 1 o.arguments long (λ p. takes e long there over p _ refl))))

  equality_found : (ends : ℕ) → get_or bs 0 0 ≡ 0x23 → Found (equality_at s want bs ends)
  equality_found ends e =
      let t = get_or bs 1 0 in
      tested (eqb want 0) _ _ (λ over. tested (ltb 1 (length bs)) _ _ (λ h. tested (ltb t (length s.sizes)) _ _ (λ there.
      let long = ltb-true 1 (length bs) h in
      begun 1 (arguments.Two t t) long (λ p. (equal t, front_equal s p bs long e, λ x y a b. both_true _ _ over (both_true _ _ there (both_true _ _ a b)))))))

  negation_found : (ends : ℕ) → 0 < length bs → get_or bs 0 0 ≡ 0x24 → Found (logic_at (arguments.One 0) want bs ends)
  negation_found ends long e = tested (eqb want 0) _ _ (λ over. begun 0 (arguments.One 0) long (λ p. (negate, front_negate s p bs long e, λ x a. both_true _ _ over a)))

  both_found : (ends : ℕ) → 0 < length bs → get_or bs 0 0 ≡ 0x25 → Found (logic_at (arguments.Two 0 0) want bs ends)
  both_found ends long e = tested (eqb want 0) _ _ (λ over. begun 0 (arguments.Two 0 0) long (λ p. (both, front_both s p bs long e, λ x y a b. both_true _ _ over (both_true _ _ a b))))

  head_found : (deep : Bool) (ends : ℕ) → Found (head_at s vars deep want bs ends)
  head_found deep ends =
      let c = get_or bs 0 0 in
      tested (ltb 0 (length bs)) _ _ (λ h. tested (leb 0x20 c && leb c 0x25) _ _ (λ known. cond_both deep _ _ Found (λ d. fault _) (λ d.
      cond_both (eqb c 0x20) _ _ Found (λ e. variable_found ends (eqb-true _ _ e)) (λ e0.
      cond_both (eqb c 0x21) _ _ Found (λ e. constant_found ends (eqb-true _ _ e)) (λ e1.
      cond_both (eqb c 0x22) _ _ Found (λ e. application_found ends (eqb-true _ _ e)) (λ e2.
      cond_both (eqb c 0x23) _ _ Found (λ e. equality_found ends (eqb-true _ _ e)) (λ e3.
      cond_both (eqb c 0x24) _ _ Found (λ e. negation_found ends (ltb-true _ _ h) (eqb-true _ _ e)) (λ e4.
      both_found ends (ltb-true _ _ h) (grind (arith, nat_tests))))))))))

  -- whatever front the check finds has its shape
  pub head_shape : (deep : Bool) (ends : ℕ) (a : Arguments) (r : List ℕ) → check.front a r ≡ head_at s vars deep want bs ends → Shape s vars want bs a r
  unfolding Found
  head_shape deep ends a r is = subst Found (sym is) (head_found deep ends)

-- one turn of the check
module _ (s : Sig) (vars : List ℕ) (d want : ℕ) (bs r : List ℕ) (deep : 0 < d) where
  pub passed_leaf : Shape s vars want bs arguments.None r → Passed s vars d want bs r
  passed_leaf shape =
      let x = shape.begun (term_at s (d - 1)) in
      let e = turn s d bs deep ∙ x.1 in
      (sym (ap (λ y. y.1) e), ap (λ y. sorted s vars want y.0) e ∙ x.2)

  pub passed_one : (a : ℕ) (q : List ℕ) → Shape s vars want bs (arguments.One a) r → Passed s vars (d - 1) a r q → Passed s vars d want bs q
  passed_one a q shape p =
      let x = shape.begun (term_at s (d - 1)) in
      let e = turn s d bs deep ∙ x.1 in
      (p.0 ∙ sym (ap (λ y. y.1) e), ap (λ y. sorted s vars want y.0) e ∙ x.2 _ p.1)

  pub passed_two : (a b : ℕ) (q t : List ℕ) → Shape s vars want bs (arguments.Two a b) r → Passed s vars (d - 1) a r q → Passed s vars (d - 1) b q t → Passed s vars d want bs t
  passed_two a b q t shape p u =
      let x = shape.begun (term_at s (d - 1)) in
      let e = turn s d bs deep ∙ x.1 in
      let same = p.0 in (
        u.0 ∙ ap (λ y. (term_at s (d - 1) y).1) same ∙ sym (ap (λ y. y.1) e),
        ap (λ y. sorted s vars want y.0) e ∙ x.2 _ _ p.1 (ap (λ y. sorted s vars b (term_at s (d - 1) y).0) (sym same) ∙ u.1),
      )
