use Rattle.std.proofs.Common.{◌≡◌, ℕ, ◌+◌, length, refl, subst, arith, below_none}
use Rattle.judge.specs.Calls.{net_of}
use Rattle.judge.proofs.Turns.{Over, over_more, true_modes_small, true_modes_to_none}
use Rattle.judge.proofs.judging.Judge.judge_all.Goals as goal

pub loop-t-init : goal.loop-t-init
loop-t-init g c = (true_modes_to_none (net_of c.args.self.now), below_none _)

pub overflow_add-seen : goal.overflow_add-seen
overflow_add-seen g c =
    let n = c.args.self.now.net.now in
    let t = c.loop-t.t in
    let more = over_more (g.D.WeightDomain.meaning c.args.d.now) c.args.self.now.codes.now (net_of c.args.self.now) t c.loop-t.seen c.in_ok-seen.field-0 _ refl c.loop-t.invariant c.in_ok-seen.ensures in
    let few = true_modes_small n (t + 1) (omega (arith, c.transitions-t-end.ensures)) in
    omega (arith, more.0, few)

pub loop-t-preserved : goal.loop-t-preserved
loop-t-preserved g c = over_more (g.D.WeightDomain.meaning c.args.d.now) c.args.self.now.codes.now (net_of c.args.self.now) c.loop-t.t c.loop-t.seen c.in_ok-seen.field-0 _ refl c.loop-t.invariant c.in_ok-seen.ensures

pub returns : goal.returns
returns g c =
    let d = g.D.WeightDomain.meaning c.args.d.now in
    let n = net_of c.args.self.now in
    let all : c.loop-t.t ≡ length n.transitions = omega (arith, c.transitions-t-end.ensures) in
    subst (λ (k : ℕ). Over d c.args.self.now.codes.now n k c.loop-t.seen) all c.loop-t.invariant
