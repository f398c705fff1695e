-- What holds of a list after a change of what stands last.
use Rattle.std.proofs.Common.{ℕ, ◌+◌, ◌-◌, ◌≤◌, List, [], ◌∷◌, length, arith}
use Rattle.std.specs.List.{All, sum_by}
use Rattle.std.proofs.lemmas.List.Elements.{All-nil, All-set}
use Rattle.std.proofs.lemmas.List.Sums.{sum_by-set}
use Rattle.net.specs.Reading.{newest, renew}

module _ {X : Type 0} (none : X) (g : X → X) where
  pub renew_all : (P : X → Type 0) (xs : List X) → All P xs → (P (newest xs none) → P (g (newest xs none))) → All P (renew xs none g)
  renew_all P [] a f = All-nil P
  renew_all P (x ∷ xs) a f =
      let l : List X = x ∷ xs in
      All-set P l (length l - 1) (g (newest l none)) (f (a (length l - 1) none (omega arith))) a

  -- a sum grows by no more than the changed part does
  pub renew_sum : (f : X → ℕ) (xs : List X) (k : ℕ) → f (g (newest xs none)) ≤ f (newest xs none) + k → sum_by f (renew xs none g) ≤ sum_by f xs + k
  renew_sum f [] k h = omega arith
  renew_sum f (x ∷ xs) k h =
      let l : List X = x ∷ xs in
      let s = sum_by-set f l (length l - 1) (g (newest l none)) none (omega arith) in
      omega (arith, s, h)
