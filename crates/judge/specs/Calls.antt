-- What a caller's memory holds after a call of the judge, and why a call is refused.
use Rattle.std.specs.Prelude.{◌≡◌, ℕ, ◌<◌, ◌≤◌, true, List, length, replicate, ℤ, pos, Ok, Err, Result, slice_index_or}
use Rattle.std.specs.Borrow.{MutBor}
use Rattle.domain.specs.Meaning.{Meaning}
use Rattle.term.specs.declared.fault.Fault.{Fault}
use Rattle.term.specs.declared.fault.Fault.TheVariants as fault
use Rattle.net.specs.Of.{system}
use Rattle.net.specs.System.{SystemNet, cells}
use Rattle.net.specs.Nets.{codes_of, given, taken}
use Rattle.net.specs.Runs.{Counted}
use Rattle.judge.specs.Judged.{Judged, Verdict}
use Rattle.judge.specs.Theorem.{Exactly, Keeps}
use Rattle.judge.specs.declared.judging.Judge.{Judge}

-- the counts of a marking without tokens: 0 in every cell
abbrev pub no_tokens : List ℕ
no_tokens = replicate cells 0

-- the counts after judging: t− and t+ of the mode named if broken, else all 0
abbrev pub Left : {V : Type 0} → SystemNet → Verdict V → List ℕ → List ℕ → Type 0
Left n (Ok c) b a = (b ≡ no_tokens) × (a ≡ no_tokens)
Left n (Err x) b a = Counted b (taken n x.firing.transition x.firing.mode) × Counted a (given n x.firing.transition x.firing.mode)

-- every code is a weight
abbrev pub AllWeigh : {V : Type 0} → Meaning V → List ℤ → Type 0
AllWeigh d codes = (c : ℕ) → c < length codes → d.weighs (slice_index_or codes c (pos 0)) ≡ true

-- what judging the codes in memory answers: the verdict defined, right for every marking and every run
pub record VerdictOn {V : Type 0} (d : Meaning V) (codes : List ℤ) (n : SystemNet) (r : Verdict V) (b a : List ℕ) : Type 0 where
  pub judged : Judged d codes n r
  pub exactly : Exactly d codes n r
  pub keeps : Keeps d codes n r
  pub left : Left n r b a

-- the memory of a call: codes, counts before and counts after
pub record Memory : Type 0 where
  pub codes : List ℤ
  pub before : List ℕ
  pub after : List ℕ

-- the net of a judge
abbrev pub net_of : Judge → SystemNet
net_of w = system w.net.now

-- what the memory lent to a judge holds
abbrev pub lent : Judge → Memory
lent w = record { codes = w.codes.now; before = w.before.now; after = w.after.now }

-- memory for a code of each cell, and for two counts of each
pub record Fits (m : Memory) : Type 0 where
  pub codes_long : length m.codes ≡ cells
  pub before_long : length m.before ≡ cells
  pub after_long : length m.after ≡ cells

-- the same loan as before, of the same length: its owner gets back what was written there
pub record SameLoan {A : Type 0} (v w : MutBor (List A)) : Type 0 where
  pub named : w.ghost_name ≡ v.ghost_name
  pub long : length w.now ≡ length v.now

-- a call leaves a judge its net and its three loans
pub record SameLoans (v w : Judge) : Type 0 where
  pub net : w.net ≡ v.net
  pub codes : SameLoan v.codes w.codes
  pub before : SameLoan v.before w.before
  pub after : SameLoan v.after w.after

-- whether a call can begin: memory that fits, and a claim that the net has
abbrev pub CanBegin : SystemNet → ℕ → Memory → Result (Unit {0}) Fault → Type 0
CanBegin n claim m (Ok u) = Fits m × (claim < length n.claims)
CanBegin n claim m (Err fault.Memory) = Fits m → ⊥
CanBegin n claim m (Err fault.NoClaim) = Fits m × (length n.claims ≤ claim)
CanBegin n claim m (Err e) = ⊥

-- what a call of judge answers, from the memory m to the memory k
abbrev pub JudgeCalled : {V : Type 0} → Meaning V → SystemNet → ℕ → Memory → Memory → Result (Verdict V) Fault → Type 0
JudgeCalled d n claim m k (Ok r) =
    Fits m × (claim < length n.claims) × (k.codes ≡ codes_of n claim) × AllWeigh d k.codes × VerdictOn d k.codes n r k.before k.after
JudgeCalled d n claim m k (Err fault.Memory) = CanBegin n claim m (Err fault.Memory) × (k ≡ m)
JudgeCalled d n claim m k (Err fault.NoClaim) = CanBegin n claim m (Err fault.NoClaim) × (k ≡ m)
JudgeCalled d n claim m k (Err fault.NoWeight) =
    Fits m × (claim < length n.claims) × (k.codes ≡ codes_of n claim) × (AllWeigh d k.codes → ⊥) × (k.before ≡ m.before) × (k.after ≡ m.after)
JudgeCalled d n claim m k (Err e) = ⊥

-- the codes of a claim are in memory, each a weight
abbrev pub Loaded : {V : Type 0} → Meaning V → SystemNet → ℕ → Memory → Memory → Result (Unit {0}) Fault → Type 0
Loaded d n claim m k (Ok u) = (k.codes ≡ codes_of n claim) × AllWeigh d k.codes × (k.before ≡ m.before) × (k.after ≡ m.after)
Loaded d n claim m k (Err e) = JudgeCalled d n claim m k (Err e)
