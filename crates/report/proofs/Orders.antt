-- One number more in an order.
use Rattle.std.proofs.Common.{◌≡◌, ℕ, ◌+◌, List, [], ◌∷◌, ◌++◌, refl, sym, ap, ◌∙◌, append_assoc, add-one}
use Rattle.report.specs.Report.{in_order}

append_nil : (xs : List ℕ) → xs ++ [] ≡ xs
append_nil [] = refl
append_nil (x ∷ xs) = ap (λ (ys : List ℕ). x ∷ ys) (append_nil xs)

-- a text with nothing behind it
pub none_added : (f : ℕ → List ℕ) (text : List ℕ) → text ≡ text ++ in_order f 0
unfolding in_order
none_added f text = sym (append_nil text)

-- and with what f gives for one number more
pub one_added : (f : ℕ → List ℕ) (k : ℕ) (first so_far next : List ℕ) → so_far ≡ first ++ in_order f k → next ≡ so_far ++ f k → next ≡ first ++ in_order f (k + 1)
unfolding in_order
one_added f k first so_far next a b = rw add-one (b ∙ ap (λ (xs : List ℕ). xs ++ f k) a ∙ append_assoc first (in_order f k) (f k))
