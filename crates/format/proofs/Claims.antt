-- The kinds of claims and the moduli that fit them.
use Rattle.std.proofs.Common.{◌≡◌, ℕ, zero, suc, ◌≤◌, true, false, refl, arith, le-leb, ne_eqb}
use borrow.Author.Tests.{lt-leb}
use Rattle.domain.specs.Kinds.{Numbered}
use Rattle.domain.specs.declared.kind.Kind.{Kind}
use Rattle.domain.specs.declared.kind.Kind.TheVariants.{Equal, NeverRises, NeverFalls, Modulo, Trap, Siphon}
use Rattle.format.specs.Format.{modulus_fits}

-- where there is no kind of a number, the modulus does not fit
pub no_kind : (n m : ℕ) → 1 ≤ n → n ≤ 6 → m ≤ 65535 → ((x : Kind) → Numbered x n m → ⊥) → modulus_fits n m ≡ false
no_kind zero m a b c f = let z : ⊥ = omega arith in absurd z
no_kind (suc zero) m a b c f = ne_eqb m 0 (λ e. f Equal (refl, e))
no_kind (suc (suc zero)) m a b c f = ne_eqb m 0 (λ e. f NeverRises (refl, e))
no_kind (suc (suc (suc zero))) m a b c f = ne_eqb m 0 (λ e. f NeverFalls (refl, e))
no_kind (suc (suc (suc (suc zero)))) m a b c f =
    let none : 2 ≤ m → ⊥ = λ h. f (Modulo (record { k = m; ok = (h, c) })) (refl, refl) in
    lt-leb 2 m (omega arith)
no_kind (suc (suc (suc (suc (suc zero))))) m a b c f = ne_eqb m 0 (λ e. f Trap (refl, e))
no_kind (suc (suc (suc (suc (suc (suc zero)))))) m a b c f = ne_eqb m 0 (λ e. f Siphon (refl, e))
no_kind (suc (suc (suc (suc (suc (suc (suc n))))))) m a b c f = let z : ⊥ = omega arith in absurd z

-- the modulus of a kind fits its number
pub kind_fits : (x : Kind) (n m : ℕ) → Numbered x n m → modulus_fits n m ≡ true
kind_fits Equal n m h = rw (h.0, h.1)
kind_fits NeverRises n m h = rw (h.0, h.1)
kind_fits NeverFalls n m h = rw (h.0, h.1)
kind_fits (Modulo k) n m h = rw (h.0, h.1) (le-leb 2 k.k k.ok.0)
kind_fits Trap n m h = rw (h.0, h.1)
kind_fits Siphon n m h = rw (h.0, h.1)
