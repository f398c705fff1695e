-- What an accepted claim says of the marking on a bench.
use Rattle.std.specs.Prelude.{◌≡◌, ℕ, ◌≤◌, List, ℤ, length, Ok, Some}
use Rattle.domain.specs.Meaning.{Meaning}
use Rattle.term.specs.Worth.{Marking, value_of}
use Rattle.net.specs.System.{SystemNet, cells}
use Rattle.net.specs.Runs.{initial}
use Rattle.judge.specs.Caps.{AllPlain, CapIs}
use Rattle.judge.specs.Judged.{Judged}

-- under codes of 1,024 cells that the domain accepts for the net, the initial marking's value relates to that of a
abbrev pub Related : {V : Type 0} → Meaning V → SystemNet → Marking → Type 0
Related d n a = (codes : List ℤ) (modes : ℕ) → length codes ≡ cells → Judged d codes n (Ok modes) → d.rel (value_of d codes (initial n)) (value_of d codes a)

-- under codes of 1,024 cells that the domain accepts for the net, all of them plain weights, no cell of a has more tokens
-- than its cap
abbrev pub Capped : {V : Type 0} → Meaning V → (V → Type 0) → SystemNet → Marking → Type 0
Capped d plain n a =
    (codes : List ℤ) (modes cell k : ℕ) → length codes ≡ cells → Judged d codes n (Ok modes) → AllPlain d plain codes → CapIs d plain codes n cell (Some k) → a cell ≤ k
