use Rattle.std.proofs.Common.{ℕ, refl, sym, ap, ◌∙◌, add-one}
use Rattle.std.proofs.lemmas.Int.{to_z-of_z}
use Rattle.format.specs.Commands.{element_weight}
use Rattle.net.specs.Reading.{add, put_row, weighted}
use Rattle.net.specs.System.{SystemNet, told_by}
use Rattle.net.proofs.Coded.{row_more, row_none}
use Rattle.net.proofs.parts.Parts.set_codes.Goals as goal

pub loop-element-init : goal.loop-element-init
loop-element-init c = (row_none (told_by c.args.self.now) c.args.place c.args.code, refl)

pub loop-element-preserved : goal.loop-element-preserved
loop-element-preserved c =
    let n = told_by c.args.self.now in
    let p = c.args.place in
    let e = c.loop-element.element in
    let k = c.args.code in
    let fits = c.ranges.code in
    let now = simp to_z-of_z at c.set_code.ensures.told in
    let was = simp to_z-of_z at c.loop-element.invariant.0 in
    (simp to_z-of_z (now ∙ ap (λ (z : SystemNet). add z (element_weight p e k)) was ∙ row_more n p e k ∙ ap (λ (j : ℕ). weighted n (put_row p j k)) (sym (add-one e))), c.set_code.ensures.others ∙ c.loop-element.invariant.1)
