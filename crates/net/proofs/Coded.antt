-- The codes of a place's elements, one after the other.
use Rattle.std.proofs.Common.{◌≡◌, ℕ, suc, ◌+◌, ◌*◌, List, set, ℤ, ap}
use Rattle.format.specs.Commands.{element_weight}
use Rattle.net.specs.declared.parts.Claim.{Claim}
use Rattle.net.specs.Nets.{no_claim}
use Rattle.net.specs.Reading.{add, coded, put_row, weighted}
use Rattle.net.specs.System.{SystemNet}
use Rattle.net.proofs.Renewed.{anew_twice, same_anew}

pub row_none : (n : SystemNet) (p : ℕ) (c : ℤ) → n ≡ weighted n (put_row p 0 c)
row_none n p c = ap (λ (ks : List Claim). record n { claims = ks }) (same_anew n.claims no_claim)

pub row_more : (n : SystemNet) (p k : ℕ) (c : ℤ) → add (weighted n (put_row p k c)) (element_weight p k c) ≡ weighted n (put_row p (suc k) c)
row_more n p k c = ap (λ (ks : List Claim). record n { claims = ks }) (anew_twice n.claims no_claim (coded (put_row p k c)) (coded (λ xs. set xs (64 * p + k) c)))
