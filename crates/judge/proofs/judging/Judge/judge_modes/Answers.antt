use Rattle.std.proofs.Common.{ℕ, ◌+◌, sym, refl, ◌∙◌, subst, arith, below_none}
use Rattle.judge.specs.Calls.{net_of}
use Rattle.judge.proofs.Turns.{Turned, kept, passed, true_modes_few, true_modes_none}
use Rattle.judge.proofs.judging.Judge.judge_modes.Goals as goal
use Rattle.judge.proofs.judging.Judge.judge_modes.Goals.{then-guard+else-not-relates, else-guard}

pub loop-i-init : goal.loop-i-init
loop-i-init g c = (true_modes_none (net_of c.args.self.now) c.args.t, below_none _)

pub overflow_add-seen : goal.overflow_add-seen
overflow_add-seen g c =
    let few = true_modes_few (net_of c.args.self.now) c.args.t c.loop-i.i in
    let is = c.loop-i.invariant.0 in
    omega (arith, few, is)

pub loop-i-preserved : goal.loop-i-preserved
loop-i-preserved g c =
    let d = g.D.WeightDomain.meaning c.args.d.now in
    let n = net_of c.args.self.now in
    let t = c.args.t in
    let m = c.mode.result in
    elim c.if-guard.branch [
      | then-guard+else-not-relates w ↦ subst (λ (k : ℕ). Turned d c.args.self.now.codes.now n t (c.loop-i.i + 1) k) (sym w.seen-is)
          (kept d c.args.self.now.codes.now n t c.loop-i.i c.loop-i.seen _ m w.sums-before.result.0 w.sums-before.result.1 c.mode.ensures
          (sym c.guard.ensures ∙ w.if-guard.true) (rw c.codes.ensures at w.sums-before.ensures.before) (rw c.codes.ensures at w.sums-before.ensures.after) w.if-not-relates.ensures refl c.loop-i.invariant)
      | else-guard w ↦ subst (λ (k : ℕ). Turned d c.args.self.now.codes.now n t (c.loop-i.i + 1) k) (sym w.seen-is)
          (passed d c.args.self.now.codes.now n t c.loop-i.i c.loop-i.seen m c.mode.ensures (sym c.guard.ensures ∙ w.if-guard.false) c.loop-i.invariant)
    ]
