-- Caps: how many tokens a cell can ever hold by an accepted claim, why a cap is refused, and what the caller's memory
-- holds afterwards.
use Rattle.std.specs.Prelude.{◌≡◌, ℕ, ◌<◌, List, length, ℤ, pos, ◌≤ℤ◌, Ok, Err, Result, Option, Some}
use Rattle.domain.specs.Domains.{equal, never_rises, siphon}
use Rattle.domain.specs.Meaning.{Meaning}
use Rattle.domain.specs.Measure.{Largest}
use Rattle.domain.specs.declared.kind.Kind.{Kind}
use Rattle.domain.specs.declared.kind.Kind.TheVariants as kind
use Rattle.term.specs.Worth.{value_of, weight_of}
use Rattle.term.specs.declared.fault.Fault.{Fault}
use Rattle.term.specs.declared.fault.Fault.TheVariants as fault
use Rattle.net.specs.System.{SystemNet}
use Rattle.net.specs.Nets.{HasCell, claim_of, codes_of}
use Rattle.net.specs.Runs.{Bounded, initial}
use Rattle.judge.specs.declared.verdict.Breach.{Breach}
use Rattle.judge.specs.Calls.{AllWeigh, CanBegin, Fits, JudgeCalled, Memory}

-- every weight is plain
abbrev pub AllPlain : {V : Type 0} → Meaning V → (V → Type 0) → List ℤ → Type 0
AllPlain d plain codes = (c : ℕ) → c < length codes → plain (weight_of d codes c)

-- the largest number of copies of the cell's weight for which the initial marking's value has room
abbrev pub CapIs : {V : Type 0} → Meaning V → (V → Type 0) → List ℤ → SystemNet → ℕ → Option ℕ → Type 0
CapIs d plain codes n cell most = Largest d plain (value_of d codes (initial n)) (weight_of d codes cell) most

-- whether a call for a cap can begin: as a call of judge, and the net has the cell
abbrev pub CanBeginAt : SystemNet → ℕ → ℕ → Memory → Result (Unit {0}) Fault → Type 0
CanBeginAt n claim cell m (Ok u) = Fits m × (claim < length n.claims) × HasCell n cell
CanBeginAt n claim cell m (Err fault.NoCell) = Fits m × (claim < length n.claims) × (HasCell n cell → ⊥)
CanBeginAt n claim cell m (Err e) = CanBegin n claim m (Err e)

-- what a call for a cap answers, from the memory m to the memory k: a cap only by an accepted claim with plain weights
abbrev pub CapCalled : {V : Type 0} → Meaning V → (V → Type 0) → SystemNet → ℕ → ℕ → Memory → Memory → Result (Option ℕ) Fault → Type 0
CapCalled d plain n claim cell m k (Ok most) =
    HasCell n cell × AllPlain d plain k.codes × ((c : ℕ) × JudgeCalled d n claim m k (Ok (Ok c))) × CapIs d plain k.codes n cell most
CapCalled d plain n claim cell m k (Err fault.NoCell) = CanBeginAt n claim cell m (Err fault.NoCell) × (k ≡ m)
CapCalled d plain n claim cell m k (Err fault.NoWeight) = HasCell n cell × JudgeCalled d n claim m k (Err fault.NoWeight)
CapCalled d plain n claim cell m k (Err fault.NotPlain) =
    Fits m × (claim < length n.claims) × HasCell n cell × (k.codes ≡ codes_of n claim) × AllWeigh d k.codes × (AllPlain d plain k.codes → ⊥) × (k.before ≡ m.before) × (k.after ≡ m.after)
CapCalled {V} d plain n claim cell m k (Err fault.NotAccepted) = HasCell n cell × AllPlain d plain k.codes × ((x : Breach V) × JudgeCalled d n claim m k (Ok (Err x)))
CapCalled d plain n claim cell m k (Err e) = JudgeCalled d n claim m k (Err e)

-- the same by a kind that does not measure: never a cap
abbrev pub NoCapCalled : SystemNet → ℕ → ℕ → Memory → Memory → Result (Option ℕ) Fault → Type 0
NoCapCalled n claim cell m k (Ok most) = ⊥
NoCapCalled n claim cell m k (Err fault.NotPlain) = Fits m × HasCell n cell × (k.codes ≡ codes_of n claim) × (k.before ≡ m.before) × (k.after ≡ m.after)
NoCapCalled n claim cell m k (Err e) = CanBeginAt n claim cell m (Err e) × (k ≡ m)

-- the same by kind
abbrev pub AskedByKind : Kind → SystemNet → ℕ → ℕ → Memory → Memory → Result (Option ℕ) Fault → Type 0
AskedByKind kind.Equal n claim cell m k r = CapCalled equal (λ v. pos 0 ≤ℤ v) n claim cell m k r
AskedByKind kind.NeverRises n claim cell m k r = CapCalled never_rises (λ v. pos 0 ≤ℤ v) n claim cell m k r
AskedByKind kind.Siphon n claim cell m k r = CapCalled siphon (λ v. Unit {0}) n claim cell m k r
AskedByKind x n claim cell m k r = NoCapCalled n claim cell m k r

-- asking for a cap by the kind that the claim has
abbrev pub AskedByItsKind : SystemNet → ℕ → ℕ → Memory → Memory → Result (Option ℕ) Fault → Type 0
AskedByItsKind n claim cell m k r = AskedByKind (claim_of n claim).kind n claim cell m k r

-- a number answered is a bound of the cell in every marking that can be reached
abbrev pub Limits : SystemNet → ℕ → Result (Option ℕ) Fault → Type 0
Limits n cell (Ok (Some k)) = Bounded n cell k
Limits n cell r = Unit {0}
