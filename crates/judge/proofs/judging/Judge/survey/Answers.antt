use Rattle.std.proofs.Common.{◌≡◌, ℕ, ◌<◌, ◌++◌, ◌∷◌, [], length, set, subst, arith, rules, length-take}
use Rattle.lent.specs.Held.{held, memory}
use Rattle.judge.specs.Calls.{lent, net_of}
use Rattle.judge.specs.Surveys.{AllJudged}
use Rattle.judge.proofs.Refusals.{refused, still_fits}
use Rattle.judge.proofs.Sheets.{added_more, added_none, still_room}
use Rattle.judge.proofs.judging.Judge.survey.Goals as goal

pub loop-claim-init : goal.loop-claim-init
loop-claim-init c =
    let sheet = c.args.sheet.now in
    record {
      same = search rules;
      named = search rules;
      ready = record { fits = c.if-not-is_measured.ensures; room = omega (arith, length-take sheet.len (memory sheet)) };
      added = added_none (net_of c.args.self.now) (lent c.args.self.now) sheet;
    }

pub returns-in_err-outcome-clause-surveyed : goal.returns-in_err-outcome-clause-surveyed
returns-in_err-outcome-clause-surveyed c =
    let n = net_of c.args.self.now in
    let i = c.loop-claim.claim in
    let inv = c.loop-claim.invariant in
    let there : i < length n.claims = omega (arith, c.claims-claim-end.ensures) in
    absurd (refused n i (lent c.loop-claim.self) (lent c.judge_by_kind.new.self) (still_fits _ _ inv.same inv.ready.fits) there c.in_err-outcome.field-0.0
    (rw inv.same.net at c.in_err-outcome.ensures.called) c.in_err-outcome.ensures.weighed)

pub loop-claim-preserved : goal.loop-claim-preserved
loop-claim-preserved c =
    let n = net_of c.args.self.now in
    let i = c.loop-claim.claim in
    let inv = c.loop-claim.invariant in
    let s = c.loop-claim.sheet in
    let t = c.push.new.self in
    let there : i < length n.claims = omega (arith, c.claims-claim-end.ensures) in
    let room : length (held s) < length (memory s) = still_room n (lent c.args.self.now) c.args.sheet.now (lent c.loop-claim.self) s i inv.ready inv.added there in
    let behind : held t ≡ held s ++ c.in_ok-outcome.outcome ∷ [] = search rules in
    let written : memory t ≡ set (memory s) (length (held s)) c.in_ok-outcome.outcome = search rules in
    record {
      same = search rules;
      named = search rules;
      ready = inv.ready;
      added = added_more n (lent c.args.self.now) c.args.sheet.now (lent c.loop-claim.self) _ s t i _ inv.added
          (rw inv.same.net at c.in_ok-outcome.ensures.called) behind written;
    }

pub returns-clause-surveyed : goal.returns-clause-surveyed
returns-clause-surveyed c =
    let n = net_of c.args.self.now in
    let inv = c.loop-claim.invariant in
    let all : c.loop-claim.claim ≡ length n.claims = omega (arith, c.claims-claim-end.ensures) in
    (inv.ready, subst (λ (i : ℕ). AllJudged n (lent c.args.self.now) (lent c.loop-claim.self) c.args.sheet.now c.loop-claim.sheet i) all inv.added)
