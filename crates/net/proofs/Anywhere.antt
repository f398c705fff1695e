-- What holds of each of a list and of what stands for one that is missing.
use Rattle.std.proofs.Common.{ℕ, ◌<◌, ◌≤◌, List, length, get_or, sym, subst, ⊎_elim}
use Rattle.std.specs.List.{All}
use Rattle.std.proofs.lemmas.List.{get_or_past}
use Rattle.std.proofs.lemmas.Bool.{cases_lt}

pub anywhere : {X : Type 0} (P : X → Type 0) (xs : List X) (d : X) → All P xs → P d → (i : ℕ) → P (get_or xs i d)
anywhere P xs d all none i = ⊎_elim (λ (h : i < length xs). all i d h) (λ (h : length xs ≤ i). subst P (sym (get_or_past xs i d h)) none) (cases_lt i (length xs))
