-- The value of a marking, computed from the codes that are not 0.
use Rattle.std.proofs.Common.{◌≡◌, ℕ, zero, suc, ◌+◌, Bool, true, false, cond, eqb, List, [], ◌∷◌, length, get_or, ℤ, pos, negsuc, sym, refl, ap, ◌∙◌, subst, add-zero, zero-add, arith, eqb-true}
use Rattle.domain.specs.Meaning.{Laws, Meaning, copies}
use Rattle.term.specs.Worth.{Marking, value_of, value_to}
use Rattle.term.specs.Adding.{value_holds}

abbrev nought : ℤ → Bool
nought (pos n) = eqb n 0
nought (negsuc n) = false

module _ {V : Type 0} (d : Meaning V) (m : Marking) where
  -- v with the cell c of the code x; a cell of the code 0 is passed over
  abbrev pub weighed : V → ℕ → ℤ → V
  weighed v c x = cond (nought x) v (d.plus v (copies d (m c) (d.weight x)))

  -- v with the cells from c on, of the given codes
  abbrev pub walk : V → ℕ → List ℤ → V
  walk v c [] = v
  walk v c (x ∷ xs) = walk (weighed v c x) (suc c) xs

-- the value of a marking
abbrev pub worth : {V : Type 0} → Meaning V → List ℤ → Marking → V
worth d codes m = walk d m d.nil 0 codes

module _ {V : Type 0} {d : Meaning V} (l : Laws d) where
  plus_nil : (v : V) → d.holds v → d.plus v d.nil ≡ v
  plus_nil v h = l.comm v d.nil h l.nil_holds ∙ l.neutral v h

  copies_nil : (n : ℕ) → copies d n d.nil ≡ d.nil
  copies_nil zero = refl
  copies_nil (suc n) = ap (d.plus d.nil) (copies_nil n) ∙ l.neutral d.nil l.nil_holds

  nought_adds : (n : ℕ) (v : V) → d.holds v → v ≡ d.plus v (copies d n (d.weight (pos 0)))
  nought_adds n v h = sym (ap (λ (w : V). d.plus v (copies d n w)) l.weight_zero ∙ ap (d.plus v) (copies_nil n) ∙ plus_nil v h)

  weighed_is : (m : Marking) (v : V) (c : ℕ) (x : ℤ) → d.holds v → weighed d m v c x ≡ d.plus v (copies d (m c) (d.weight x))
  weighed_is m v c (negsuc k) h = refl
  weighed_is m v c (pos k) h = by (eqb k 0) refl
    where
      by : (b : Bool) → eqb k 0 ≡ b → cond b v (d.plus v (copies d (m c) (d.weight (pos k)))) ≡ d.plus v (copies d (m c) (d.weight (pos k)))
      by false e = refl
      by true e = subst (λ (j : ℕ). v ≡ d.plus v (copies d (m c) (d.weight (pos j)))) (sym (eqb-true k 0 e)) (nought_adds (m c) v h)

  module _ (codes : List ℤ) (m : Marking) where
    walked : (xs : List ℤ) (c : ℕ) (v : V) → ((j : ℕ) → get_or xs j (pos 0) ≡ get_or codes (c + j) (pos 0)) → v ≡ value_to d codes m c → walk d m v c xs ≡ value_to d codes m (c + length xs)
    walked [] c v rest is = is ∙ ap (value_to d codes m) (sym (add-zero c))
    walked (x ∷ xs) c v rest is =
        walked xs (suc c) (weighed d m v c x) (λ j. rest (suc j) ∙ ap (λ (k : ℕ). get_or codes k (pos 0)) (omega arith)) next ∙ ap (value_to d codes m) (omega arith)
      where
        holds : d.holds v
        holds = subst d.holds (sym is) (value_holds l codes m c)

        here : x ≡ get_or codes c (pos 0)
        here = rest 0 ∙ ap (λ (k : ℕ). get_or codes k (pos 0)) (add-zero c)

        next : weighed d m v c x ≡ value_to d codes m (suc c)
        next = weighed_is m v c x holds ∙ ap (λ (y : V). d.plus y (copies d (m c) (d.weight x))) is ∙ ap (λ (z : ℤ). d.plus (value_to d codes m c) (copies d (m c) (d.weight z))) here

    pub worth_is : worth d codes m ≡ value_of d codes m
    worth_is = walked codes 0 d.nil (λ j. ap (λ (k : ℕ). get_or codes k (pos 0)) (sym (zero-add j))) refl ∙ ap (value_to d codes m) (zero-add (length codes))
