use Rattle.std.proofs.Common.{◌<◌, ◌≤◌, ℕ, Bool, cond, length, refl, ap, ◌∙◌, subst, sym, arith, rules}
use Rattle.std.proofs.lemmas.List.Elements.{All-from_get_or}
use Rattle.std.proofs.lemmas.Result.{err_from_is_err_and}
use Rattle.format.specs.declared.section.Section.{Section}
use Rattle.net.specs.Held.{HoldsNoMore, Ready}
use Rattle.net.specs.Reading.{last, next, told}
use Rattle.net.specs.System.{longest_file, told_by}
use Rattle.net.specs.WellFormed.{Bytes}
use Rattle.net.proofs.Turns.{TellsOn, begins, ends_well, fails, goes}
use Rattle.net.proofs.reader.fill.Goals as goal

pub loop-init : goal.loop-init
loop-init c =
    let file = c.args.file.now in
    let n = told_by c.args.parts.now in
    let held = c.args.parts.now.transitions in
    let short : length file ≤ longest_file = search rules in
    let bytes : Bytes file = All-from_get_or (λ b. b < 256) file 0 (λ i h. omega (arith, c.type_inv.file i)) in
    let Starts : Section → Type 0 = λ s. TellsOn (length file) s n file (told file) × Bytes file × Ready s n.transitions × (HoldsNoMore held → HoldsNoMore held) in
    subst Starts (sym c.new.ensures) (begins file n short c.requires, bytes, tt, λ h. h)

pub returns-in_err-step-clause-told : goal.returns-in_err-step-clause-told
returns-in_err-step-clause-told c =
    let p = err_from_is_err_and c.from_residual.result c.from_residual.ensures.1 in
    let r = c.loop.reader in
    let now = c.step.new.self in
    let file = c.args.file.now in
    rw (p.1, p.2) (fails r.ends r.order.section (told_by c.loop.parts) r.rest.now (told file) c.in_err-step.field-0.0 file now.order.section (told_by c.step.new.parts) now.rest.now refl c.in_err-step.ensures.value c.loop.invariant.0)

pub loop-preserved : goal.loop-preserved
loop-preserved c =
    let r = c.loop.reader in
    let m = told_by c.step.new.parts in
    let now = c.step.new.self in
    let v = told c.args.file.now in
    let i = c.loop.invariant in
    let e = c.in_ok-step.ensures in (
      subst (λ (e : ℕ). TellsOn e now.order.section m now.rest.now v) (sym e.ends)
          (goes r.ends r.order.section (told_by c.loop.parts) r.rest.now v now.order.section m now.rest.now
          (e.value ∙ ap (λ (b : Bool). cond b (next now.order.section m now.rest.now) (last m)) c.if-branch.true) e.shorter i.0),
      e.bytes i.1,
      e.ready i.1 i.2,
      λ h. e.no_more i.1 i.2 (i.3 h),
    )

pub returns-clause-told : goal.returns-clause-told
returns-clause-told c =
    let r = c.loop.reader in
    let m = told_by c.step.new.parts in
    let now = c.step.new.self in
    ends_well r.ends r.order.section (told_by c.loop.parts) r.rest.now (told c.args.file.now) m
    (c.in_ok-step.ensures.value ∙ ap (λ (b : Bool). cond b (next now.order.section m now.rest.now) (last m)) c.if-branch.false) c.loop.invariant.0

pub returns-clause-no_more : goal.returns-clause-no_more
returns-clause-no_more c h = let i = c.loop.invariant in c.in_ok-step.ensures.no_more i.1 i.2 (i.3 h)
