use Rattle.std.proofs.Common.{length}
use Rattle.net.specs.Held.{HoldsNoMore, Ready}
use Rattle.net.specs.Reading.{told}
use Rattle.net.specs.System.{told_by}
use Rattle.net.specs.WellFormed.{Bytes}
use Rattle.net.proofs.Turns.{TellsOn}
use Rattle.net.proofs.reader.fill.Given as goal

-- the rest of the file, which is of bytes, tells what the whole file tells; the section has what it asks for, and the lists
-- hold no more if they held no more
abbrev pub invariant-loop : goal.invariant-loop
invariant-loop l =
    TellsOn l.reader.ends l.reader.order.section (told_by l.parts) l.reader.rest.now (told l.file)
    × Bytes l.reader.rest.now
    × Ready l.reader.order.section (told_by l.parts).transitions
    × (HoldsNoMore l.initial.parts.transitions → HoldsNoMore l.parts.transitions)

abbrev pub decreases-loop : goal.decreases-loop
decreases-loop l = length l.reader.rest.now
