-- Copies of a truth value.
use Rattle.std.specs.Prelude.{◌≡◌, ℕ, zero, suc, ◌<◌, Bool, true, false, refl}
use Rattle.std.proofs.Common.{arith}
use Rattle.domain.specs.Meaning.{copies}
use Rattle.domain.specs.Domains.{siphon}

pub copies_false : (n : ℕ) → copies siphon n false ≡ false
copies_false zero = refl
copies_false (suc n) = copies_false n

pub copies_truth : (n : ℕ) (w : Bool) → 0 < n → copies siphon n w ≡ w
copies_truth zero w h = grind arith
copies_truth (suc n) true h = refl
copies_truth (suc n) false h = copies_false n
