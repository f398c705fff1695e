use Rattle.std.proofs.Common.{length, get_or, pos, ap, ◌∙◌, w32, SFits, rules}
use Rattle.std.proofs.lemmas.Int.{to_z-of_z}
use Rattle.std.proofs.lemmas.List.{length_push}
use Rattle.domain.specs.Domains.{equal}
use Rattle.domain.specs.Meaning.{row_to}
use Rattle.domain.proofs.Pairs.{Turn, end, turn}
use Rattle.domain.proofs.Rows.{Entry, next, product, sum}
use Rattle.domain.proofs.whole.row.Goals as goal

here : (c : goal.After-weight) → Turn c.args.counts.now c.args.codes.now (length c.loop-count.yielded) c.in-Some.count.now c.in-Some.code.now
here c = turn c.args.counts.now c.args.codes.now c.loop-count.yielded _ _ c.next.new.self _ (cc) (cc) c.loop-count.yielded_by _ c.in-Some.is c.next.ensures.steps

entry : (c : goal.After-weight) → Entry c.args.counts.now c.args.codes.now (length c.loop-count.yielded) c.from.result c.weight.result
entry c =
    let t = here c in
    let code = get_or c.args.codes.now (length c.loop-count.yielded) (pos 0) in
    let fits : SFits w32 code = search rules in
    record {
      short = t.short;
      bytes = λ j. (c.type_inv.counts j).fits;
      count = c.from.ensures ∙ ap pos t.count;
      count_fits = record { sfits = c.from.type_inv };
      weight = simp to_z-of_z at (rw t.code at c.weight.ensures);
      weight_fits = record { sfits = c.weight.type_inv };
    }

pub overflow_mul-row : goal.overflow_mul-row
overflow_mul-row c = product (entry c) c.loop-count.invariant

pub overflow_add-row : goal.overflow_add-row
overflow_add-row c = sum (entry c) c.loop-count.invariant

pub loop-count-preserved : goal.loop-count-preserved
loop-count-preserved c = rw length_push (next (entry c) c.loop-count.invariant)

pub returns : goal.returns
returns c =
    c.loop-count.invariant
    ∙ ap (row_to equal c.args.counts.now c.args.codes.now) (end c.args.counts.now c.args.codes.now c.loop-count.yielded _ _ c.next.new.self _ (cc) (cc) c.loop-count.yielded_by c.in-None.is c.next.ensures.steps)
