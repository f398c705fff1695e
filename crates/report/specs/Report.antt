-- Which text is the report on a net file and a trace.
use Rattle.std.specs.Prelude.{◌≡◌, ℕ, zero, suc, ◌<◌, List, [], ◌∷◌, ◌++◌, length, Ok, Err}
use Rattle.net.specs.Reading.{Told, told}
use Rattle.net.specs.System.{SystemNet, cells}
use Rattle.judge.specs.Calls.{Memory}
use Rattle.judge.specs.Kinds.{ByItsKind, Outcome}
use Rattle.bench.specs.Calls.{Lent, marking}
use Rattle.trace.specs.Replaying.{Played}
use Rattle.trace.specs.declared.replays.Replayed.{Replayed}
use Rattle.report.specs.Lines.{cell_line, claim_line, fault_line, replay_line}

-- a line with the line feed that ends it
abbrev pub line : List ℕ → List ℕ
line text = text ++ 10 ∷ []

-- what f gives for the numbers below k, in their order
unfoldable pub in_order : (ℕ → List ℕ) → ℕ → List ℕ
in_order f zero = []
in_order f (suc k) = in_order f k ++ f k

-- the line of a cell, if it holds tokens
abbrev pub cell_shown : ℕ → ℕ → List ℕ
cell_shown cell zero = []
cell_shown cell count = line (cell_line cell count)

-- the outcome of a claim by its kind, judged from some memory
abbrev pub Answers : SystemNet → ℕ → Outcome → Type 0
Answers n claim o = (m : Memory) × ((k : Memory) × ByItsKind n claim m k (Ok o))

-- a line for each claim of the net, in their order, with its verdict by its kind, from whatever memory it is judged
pub record AreClaimLines (n : SystemNet) (text : List ℕ) : Type 0 where
  pub outcome : ℕ → Outcome
  pub judged : (i : ℕ) → i < length n.claims → Answers n i (outcome i)
  pub lines : text ≡ in_order (λ i. line (claim_line i (outcome i))) (length n.claims)

-- a line for how the replay of the trace ended, on a new bench whose trail has room for 8,192 firings, and a line for each
-- cell that is not 0 in the marking left, cells rising
pub record AreReplayLines (n : SystemNet) (trace text : List ℕ) : Type 0 where
  pub before : Lent
  pub after : Lent
  pub replayed : Replayed
  pub room : length before.memory ≡ 8192
  pub played : Played n trace before after replayed
  pub lines : text ≡ line (replay_line replayed) ++ in_order (λ c. cell_shown c (marking after c)) cells

-- the report on a net and a trace: the claims, and then the replay
pub record IsNetReport (n : SystemNet) (trace text : List ℕ) : Type 0 where
  pub claims : List ℕ
  pub replay : List ℕ
  pub are_claims : AreClaimLines n claims
  pub are_replay : AreReplayLines n trace replay
  pub whole : text ≡ claims ++ replay

-- the report by what the net file tells: its fault has one line, and the trace then plays no part
abbrev pub IsReportOf : Told → List ℕ → List ℕ → Type 0
IsReportOf (Ok n) trace text = IsNetReport n trace text
IsReportOf (Err e) trace text = text ≡ line (fault_line e)

-- the report on a net file and a trace
abbrev pub IsReport : List ℕ → List ℕ → List ℕ → Type 0
IsReport file trace text = IsReportOf (told file) trace text

-- the report on a net file and a trace, and no other text is
pub record IsTheReport (file trace text : List ℕ) : Type 0 where
  pub is : IsReport file trace text
  pub only : (other : List ℕ) → IsReport file trace other → other ≡ text

-- a text with lines added behind it of which P holds
abbrev pub Adds : (List ℕ → Type 0) → List ℕ → List ℕ → Type 0
Adds P old new = (lines : List ℕ) × P lines × (new ≡ old ++ lines)
