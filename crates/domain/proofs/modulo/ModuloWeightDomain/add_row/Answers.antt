use Rattle.std.proofs.Common.{◌≡◌, ◌+◌, ◌*◌, ◌%◌, ◌≤◌, length, get_or, pos, ap, ◌∙◌, mul-le-mul_left, arith, w32, SFits, rules}
use Rattle.std.proofs.lemmas.Int.{to_z-of_z}
use Rattle.std.proofs.lemmas.List.{length_push}
use Rattle.domain.specs.Domains.{residue_weight}
use Rattle.domain.specs.Residues.{weight_holds}
use Rattle.domain.proofs.Pairs.{Turn, end, turn}
use Rattle.domain.proofs.Rows.{residue_all, residue_next}
use Rattle.domain.proofs.modulo.ModuloWeightDomain.add_row.Goals as goal

here : (c : goal.After-residue) → Turn c.args.counts.now c.args.codes.now (length c.loop-count.yielded) c.in-Some.count.now c.in-Some.code.now
here c = turn c.args.counts.now c.args.codes.now c.loop-count.yielded _ _ c.next.new.self _ (cc) (cc) c.loop-count.yielded_by _ c.in-Some.is c.next.ensures.steps

weight : (c : goal.After-residue) → c.residue.result ≡ residue_weight c.args.self.now.k (get_or c.args.codes.now (length c.loop-count.yielded) (pos 0))
weight c =
    let t = here c in
    let code = get_or c.args.codes.now (length c.loop-count.yielded) (pos 0) in
    let fits : SFits w32 code = search rules in
    simp to_z-of_z at (rw t.code at c.residue.ensures)

-- the row of one entry more, not reduced, is small too
grows : (c : goal.After-residue) → c.loop-count.row + c.from.result * c.residue.result ≤ 255 * 65535 * (length c.loop-count.yielded + 1)
grows c =
    let t = here c in
    let k = length c.loop-count.yielded in
    let w = c.residue.result in
    let few = (c.type_inv.counts k).fits in
    let light : w ≤ 65535 = omega (arith, weight c, weight_holds c.args.self.now.k (get_or c.args.codes.now k (pos 0)) c.args.self.now.ok.0, c.args.self.now.ok.1) in
    let load : c.from.result * w ≤ c.from.result * 65535 = mul-le-mul_left c.from.result light in
    omega (arith, t.count, c.from.ensures, c.loop-count.invariant.1)

pub overflow_add-row : goal.overflow_add-row
overflow_add-row c = let t = here c in record { fits = omega (arith, grows c, t.short) }

pub loop-count-preserved : goal.loop-count-preserved
loop-count-preserved c =
    let t = here c in
    rw length_push (residue_next c.args.self.now.k c.args.self.now.ok.0 c.args.counts.now c.args.codes.now _ _ _ c.loop-count.row (c.from.ensures ∙ t.count) (weight c) c.loop-count.invariant.0, grows c)

pub overflow_add-from : goal.overflow_add-from
overflow_add-from c =
    let e = end c.args.counts.now c.args.codes.now c.loop-count.yielded _ _ c.next.new.self _ (cc) (cc) c.loop-count.yielded_by c.in-None.is c.next.ensures.steps in
    record { fits = omega (arith, e, c.loop-count.invariant.1, c.from-2.type_inv) }

pub returns : goal.returns
returns c =
    let k = c.args.self.now.k in
    let e = end c.args.counts.now c.args.codes.now c.loop-count.yielded _ _ c.next.new.self _ (cc) (cc) c.loop-count.yielded_by c.in-None.is c.next.ensures.steps in
    residue_all k c.args.self.now.ok.0 c.args.counts.now c.args.codes.now _ c.args.v.now c.loop-count.row c.reduce.result
    e c.loop-count.invariant.0 (c.reduce.ensures ∙ ap (λ v. (v + c.from-3.result) % k) c.from-2.ensures ∙ ap (λ r. (c.args.v.now + r) % k) c.from-3.ensures)
