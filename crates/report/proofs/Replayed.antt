-- The lines of a replay, from what it did and left.
use Rattle.std.proofs.Common.{◌≡◌, ℕ, List, ◌++◌, length, get_or, ap}
use Rattle.net.specs.System.{SystemNet}
use Rattle.bench.specs.Calls.{Lent}
use Rattle.trace.specs.Replaying.{Played}
use Rattle.trace.specs.declared.replays.Replayed.{Replayed}
use Rattle.report.specs.Lines.{replay_line}
use Rattle.report.specs.Report.{Adds, AreReplayLines, cell_shown, in_order, line}

-- the lines of a replay that ended so and left these counts
abbrev pub lines_of : Replayed → List ℕ → List ℕ
lines_of r counts = line (replay_line r) ++ in_order (λ c. cell_shown c (get_or counts c 0)) (length counts)

-- are those of its trace
pub all_replayed : (n : SystemNet) (trace : List ℕ) (l k : Lent) (r : Replayed) (old new : List ℕ) → length l.memory ≡ 8192 → length k.counts ≡ 1024
    → Played n trace l k r → new ≡ old ++ lines_of r k.counts → Adds (AreReplayLines n trace) old new
all_replayed n trace l k r old new room long p e =
    let cells : ℕ → List ℕ = λ c. cell_shown c (get_or k.counts c 0) in (
      lines_of r k.counts,
      record {
        before = l;
        after = k;
        replayed = r;
        room = room;
        played = p;
        lines = ap (λ (c : ℕ). line (replay_line r) ++ in_order cells c) long;
      },
      e,
    )
