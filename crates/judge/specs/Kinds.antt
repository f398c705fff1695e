-- Judging by kind: the verdict under the kind's domain, without its values.
use Rattle.std.specs.Prelude.{ℕ, Ok, Err, Result, ◌≢◌}
use Rattle.domain.specs.Meaning.{Meaning}
use Rattle.domain.specs.Domains.{equal, modulo, never_rises, siphon, turned}
use Rattle.domain.specs.declared.kind.Kind.{Kind}
use Rattle.domain.specs.declared.kind.Kind.TheVariants as kind
use Rattle.term.specs.declared.fault.Fault.{Fault}
use Rattle.term.specs.declared.fault.Fault.TheVariants as fault
use Rattle.net.specs.System.{SystemNet}
use Rattle.net.specs.Nets.{claim_of}
use Rattle.net.specs.declared.firing.Firing.{Firing}
use Rattle.judge.specs.Calls.{JudgeCalled, Memory}

-- the number of modes with a true guard, or the firing by which the claim breaks
abbrev pub Outcome : Type 0
Outcome = Result ℕ Firing

-- no code is found to be no weight: in every net the codes of a claim are weights of its kind
abbrev pub NeverNoWeight : {A : Type 0} → Result A Fault → Type 0
NeverNoWeight r = r ≢ Err fault.NoWeight

-- what judging under a domain answers, without the values of a broken verdict
abbrev pub KindCalled : {V : Type 0} → Meaning V → SystemNet → ℕ → Memory → Memory → Result Outcome Fault → Type 0
KindCalled d n claim m k (Ok (Ok c)) = JudgeCalled d n claim m k (Ok (Ok c))
KindCalled {V} d n claim m k (Ok (Err f)) = (v : V) × ((w : V) × JudgeCalled d n claim m k (Ok (Err (record { firing = f; before = v; after = w }))))
KindCalled d n claim m k (Err e) = JudgeCalled d n claim m k (Err e)

-- what judging by kind answers: what judging under the domain of the kind does
abbrev pub ByKind : Kind → SystemNet → ℕ → Memory → Memory → Result Outcome Fault → Type 0
ByKind kind.Equal n claim m k r = KindCalled equal n claim m k r
ByKind kind.NeverRises n claim m k r = KindCalled never_rises n claim m k r
ByKind kind.NeverFalls n claim m k r = KindCalled (turned never_rises) n claim m k r
ByKind (kind.Modulo x) n claim m k r = KindCalled (modulo x.k) n claim m k r
ByKind kind.Trap n claim m k r = KindCalled (turned siphon) n claim m k r
ByKind kind.Siphon n claim m k r = KindCalled siphon n claim m k r

-- judging a claim by the kind that it has; one that the net does not have is refused under any kind
abbrev pub ByItsKind : SystemNet → ℕ → Memory → Memory → Result Outcome Fault → Type 0
ByItsKind n claim m k r = ByKind (claim_of n claim).kind n claim m k r
