-- Copies of a residue.
use Rattle.std.specs.Prelude.{◌≡◌, ℕ, zero, suc, ◌+◌, ◌*◌, ◌%◌, ◌≤◌}
use Rattle.std.proofs.Common.{sym, ap, ◌∙◌, arith}
use Rattle.std.proofs.Math.Nat.{add-mod-mod}
use Rattle.domain.specs.Meaning.{copies}
use Rattle.domain.specs.Domains.{modulo}

pub copies_residue : (k n w : ℕ) → 2 ≤ k → copies (modulo k) n w ≡ (n * w) % k
copies_residue k zero w h = grind arith
copies_residue k (suc n) w h =
    ap (λ x. (w + x) % k) (copies_residue k n w h) ∙ add-mod-mod w (n * w) k ∙ ap (λ x. x % k) (omega arith)

pub added : (k v n w : ℕ) → 2 ≤ k → (v + n * w) % k ≡ (modulo k).plus v (copies (modulo k) n w)
added k v n w h = sym (ap (λ x. (v + x) % k) (copies_residue k n w h) ∙ add-mod-mod v (n * w) k)
