use Rattle.std.proofs.Common.{◌≡◌, length, get_or, pos, ap, ◌∙◌, arith, w32, SFits, rules}
use Rattle.std.proofs.lemmas.Int.{to_z-of_z}
use Rattle.std.proofs.lemmas.List.{length_push}
use Rattle.std.proofs.lemmas.Slice.Zip.{zip_end, zip_turn}
use Rattle.domain.specs.Meaning.{Grown}
use Rattle.term.specs.Worth.{value_to}
use Rattle.net.specs.Runs.{initial}
use Rattle.judge.specs.Calls.{net_of}
use Rattle.judge.proofs.Limits.{summed_more}
use Rattle.judge.proofs.judging.Judge.initial_value.Goals as goal

pub loop-code-init : goal.loop-code-init
loop-code-init g c =
    let law = g.met.D.WeightDomain.lawful c.args.d.now in
    (c.zero-sum.ensures, omega (arith, ap (g.D.WeightDomain.meaning c.args.d.now).size c.zero-sum.ensures, law.size_nil))

pub loop-code-preserved : goal.loop-code-preserved
loop-code-preserved g c =
    let codes = c.args.self.now.codes.now in
    let counts = (net_of c.args.self.now).initial in
    let i = length c.loop-code.yielded in
    let turn = zip_turn codes counts c.loop-code.yielded _ _ c.next.new.self _ (cc) (cc) c.loop-code.yielded_by _ c.in-Some.is c.next.ensures.steps in
    let fits : SFits w32 c.in-Some.code.now = search rules in
    let grown : Grown (g.D.WeightDomain.meaning c.args.d.now) c.loop-code.sum c.from.result (get_or codes i (pos 0)) c.add_weight-sum.result = rw (turn.2 (pos 0)) at (simp to_z-of_z at c.add_weight-sum.ensures) in
    rw length_push (summed_more (g.met.D.WeightDomain.lawful c.args.d.now) codes (initial (net_of c.args.self.now)) i c.from.result c.loop-code.sum c.add_weight-sum.result
    (omega (arith, turn.0, c.requires)) (c.from.ensures ∙ turn.3 0) (search rules) c.loop-code.invariant grown)

pub returns : goal.returns
returns g c =
    let codes = c.args.self.now.codes.now in
    let counts = (net_of c.args.self.now).initial in
    let long : length counts ≡ 1024 = search rules in
    let all : length c.loop-code.yielded ≡ length codes = omega (arith, zip_end codes counts c.loop-code.yielded _ _ c.next.new.self _ (cc) (cc) c.loop-code.yielded_by c.in-None.is c.next.ensures.steps, c.requires) in
    c.loop-code.invariant.0 ∙ ap (value_to (g.D.WeightDomain.meaning c.args.d.now) codes (initial (net_of c.args.self.now))) all
