use Rattle.std.proofs.Common.{◌≡◌, ℕ, List, length, replicate, ap, ◌∙◌}
use Rattle.net.specs.Nets.{given, taken}
use Rattle.net.proofs.Tallied.{counted_zeros}
use Rattle.judge.specs.Calls.{net_of, no_tokens}
use Rattle.judge.proofs.judging.Judge.leave.Goals as goal

-- what was filled with 0 is all 0
cleared : (xs ys : List ℕ) → ys ≡ replicate (length xs) 0 → length xs ≡ 1024 → ys ≡ no_tokens
cleared xs ys e l = e ∙ ap (λ (k : ℕ). replicate k 0) l

pub returns-in-Err-clause-left : goal.returns-in-Err-clause-left
returns-in-Err-clause-left g c =
    let n = net_of c.args.self.now in
    let t = c.in-Err.breach.firing.transition in
    let m = c.in-Err.breach.firing.mode in
    let b = cleared c.args.self.now.before.now c.fill.new.self (c.fill.ensures.after (λ y h. h)) c.requires.before_long in
    let a = cleared c.args.self.now.after.now c.fill-2.new.self (c.fill-2.ensures.after (λ y h. h)) c.requires.after_long in
    rw c.in-Err.is (counted_zeros _ c.count.new.counts (taken n t m) b c.count.ensures.exact, counted_zeros _ c.count-in-Err.new.counts (given n t m) a c.count-in-Err.ensures.exact)

pub returns-in_default-clause-left : goal.returns-in_default-clause-left
returns-in_default-clause-left g c =
    let b = cleared c.args.self.now.before.now c.fill.new.self (c.fill.ensures.after (λ y h. h)) c.requires.before_long in
    let a = cleared c.args.self.now.after.now c.fill-2.new.self (c.fill-2.ensures.after (λ y h. h)) c.requires.after_long in
    rw c.in_default.is (b, a)
