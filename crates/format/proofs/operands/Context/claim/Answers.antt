use Rattle.std.proofs.Common.{◌≡◌, ℕ, ◌+◌, ◌*◌, ◌≤◌, get_or, sym, ◌∙◌, arith, lit<, rules}
use Rattle.std.proofs.lemmas.Bool.Decides.{nat_tests}
use Rattle.domain.proofs.Numbers.{kind_is}
use Rattle.domain.specs.Kinds.{Numbered}
use Rattle.term.proofs.Cuts.{tail, tail_shorter}
use Rattle.format.proofs.Claims.{kind_fits, no_kind}
use Rattle.format.proofs.operands.Context.claim.Goals as goal

pub returns-in_default-from_number : goal.returns-in_default-from_number
returns-in_default-from_number c =
    let low : 1 ≤ get_or c.args.bytes.now 1 0 = search rules in
    let high : get_or c.args.bytes.now 1 0 ≤ 6 = search rules in
    let small : c.from_be_bytes-modulus.result ≤ 65535 = search rules in
    (grind (arith, nat_tests, no_kind (get_or c.args.bytes.now 1 0) c.from_be_bytes-modulus.result low high small c.in_default-from_number.ensures), tt, tt)

pub returns-in-Some : goal.returns-in-Some
returns-in-Some c =
    let bs = c.args.bytes.now in
    let x = c.in-Some.kind in
    let n : ℕ = get_or bs 1 0 in
    let m : ℕ = get_or bs 2 0 * 256 + get_or bs 3 0 in
    let same : c.from_be_bytes-modulus.result ≡ m = search rules in
    let h : Numbered x n m = (c.in-Some.ensures.0, sym same ∙ c.in-Some.ensures.1) in
    let low : 1 ≤ n = search rules in
    let high : n ≤ 6 = search rules in
    (grind (arith, nat_tests, kind_is x n m h, kind_fits x n m h, tail 4 bs), omega (arith, tail_shorter 4 bs (lit< tt) (search rules)), tt)
