use Rattle.std.proofs.Common.{◌≡◌, ◌<◌, ℕ, true, false, Err, Ok, is_err, length, ℤ, List, sym, ◌∙◌, subst, true≢false, rules}
use Rattle.domain.specs.Meaning.{Meaning}
use Rattle.net.specs.Nets.{codes_of}
use Rattle.net.specs.System.{SystemNet}
use Rattle.judge.specs.declared.verdict.Breach.{Breach}
use Rattle.judge.specs.Calls.{AllWeigh, Fits, JudgeCalled, Memory, VerdictOn, lent, net_of}
use Rattle.judge.specs.Caps.{AllPlain}
use Rattle.judge.specs.Judged.{Verdict}
use Rattle.judge.proofs.Limits.{limits}
use Rattle.judge.proofs.judging.Judge.cap.Goals as goal

-- a verdict that is an error is one by some breach, and one that is none accepts so many modes
broken : {V : Type 0} (P : Verdict V → Type 0) (r : Verdict V) → is_err r ≡ true → P r → (x : Breach V) × P (Err x)
broken P (Ok c) e p = absurd (true≢false (sym e))
broken P (Err x) e p = (x, p)

accepted : {V : Type 0} (P : Verdict V → Type 0) (r : Verdict V) → is_err r ≡ false → P r → (c : ℕ) × P (Ok c)
accepted P (Ok c) e p = (c, p)
accepted P (Err x) e p = absurd (true≢false e)

-- the codes of the claim were judged, and still stand there
called : {V : Type 0} (d : Meaning V) (n : SystemNet) (claim : ℕ) (m k : Memory) (codes : List ℤ) (r : Verdict V) → Fits m → claim < length n.claims → k.codes ≡ codes → codes ≡ codes_of n claim → AllWeigh d codes
    → VerdictOn d codes n r k.before k.after → JudgeCalled d n claim m k (Ok r)
called d n claim m k codes r fits there same loaded weigh verdict =
    (fits, there, same ∙ loaded, subst (AllWeigh d) (sym same) weigh, subst (λ (xs : List ℤ). VerdictOn d xs n r k.before k.after) (sym same) verdict)

pub returns-then-is_err-clause-asked : goal.returns-then-is_err-clause-asked
returns-then-is_err-clause-asked g c =
    let d = g.M.WeightDomain.meaning c.args.m.now in
    let plain = g.M.Measuring.plain c.args.m.now in
    let n = net_of c.args.self.now in
    let k = lent c.judge_codes.new.self in
    let r = c.judge_codes.result in
    let begun = c.in_ok-begin_cap.ensures in
    let loaded = c.in_ok-load_codes.ensures.loaded in
    let same = c.judge_codes.ensures.codes in
    let verdict = rw c.in_ok-load_codes.ensures.same.net at c.judge_codes.ensures.verdict in (
      begun.2,
      subst (AllPlain d plain) (sym same) c.if-not-are_plain.ensures,
      broken (λ v. JudgeCalled d n c.args.claim (lent c.args.self.now) k (Ok v)) r (sym c.is_err.ensures.value ∙ c.if-is_err.true)
          (called d n c.args.claim (lent c.args.self.now) k _ r begun.0 begun.1 same loaded.0 loaded.1 verdict),
    )

pub returns-clause-asked : goal.returns-clause-asked
returns-clause-asked g c =
    let d = g.M.WeightDomain.meaning c.args.m.now in
    let plain = g.M.Measuring.plain c.args.m.now in
    let n = net_of c.args.self.now in
    let k = lent c.judge_codes.new.self in
    let r = c.judge_codes.result in
    let begun = c.in_ok-begin_cap.ensures in
    let loaded = c.in_ok-load_codes.ensures.loaded in
    let same = c.judge_codes.ensures.codes in
    let are_plain : AllPlain d plain c.load_codes.new.self.codes.now = search rules in
    let agreed : is_err r ≡ false = search rules in
    let verdict = rw c.in_ok-load_codes.ensures.same.net at c.judge_codes.ensures.verdict in (
      begun.2,
      subst (AllPlain d plain) (sym same) are_plain,
      accepted (λ v. JudgeCalled d n c.args.claim (lent c.args.self.now) k (Ok v)) r agreed
          (called d n c.args.claim (lent c.args.self.now) k _ r begun.0 begun.1 same loaded.0 loaded.1 verdict),
      rw (c.judge_codes.ensures.same.net ∙ c.in_ok-load_codes.ensures.same.net) at c.room.ensures,
    )

pub returns-clause-limits : goal.returns-clause-limits
returns-clause-limits g c =
    let m = c.args.m.now in
    let k = c.judge_codes.new.self in
    let n = net_of c.args.self.now in
    limits (g.met.M.WeightDomain.lawful m) (g.met.M.Measuring.measured m) n c.args.claim c.args.cell (lent c.args.self.now) (lent k) c.room.result
    (c.judge_codes.ensures.same.codes.long ∙ c.in_ok-load_codes.ensures.same.codes.long ∙ c.in_ok-begin_cap.ensures.0.codes_long) (returns-clause-asked g c)
