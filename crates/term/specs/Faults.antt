-- The number of each fault and the word for each stage, as reports print them.
use Rattle.std.specs.Prelude.{ℕ, List, codes}
use Rattle.term.specs.declared.fault.Fault.{Fault}
use Rattle.term.specs.declared.fault.Fault.TheVariants as fault
use Rattle.term.specs.declared.fault.Stage.{Stage}
use Rattle.term.specs.declared.fault.Stage.TheVariants as stage

abbrev pub number_of : Fault → ℕ
number_of fault.TooLong = 1
number_of fault.Ends = 2
number_of fault.NoCommand = 3
number_of fault.Order = 4
number_of fault.Limit = 5
number_of fault.Range = 6
number_of fault.Deep = 7
number_of fault.Sort = 8
number_of fault.Modes = 9
number_of fault.Trailing = 10
number_of fault.Memory = 11
number_of fault.NoClaim = 12
number_of fault.NoCell = 13
number_of fault.NoWeight = 14
number_of fault.NotPlain = 15
number_of fault.NotAccepted = 16
number_of fault.NoTransition = 17
number_of fault.Mode = 18
number_of fault.Guard = 19
number_of (fault.Lacks cell) = 20
number_of (fault.Full cell) = 21
number_of fault.TrailFull = 22
number_of fault.TrailEmpty = 23
number_of fault.RecordingFull = 24

abbrev pub word_of : Stage → List ℕ
word_of stage.File = codes "file"
word_of stage.Command = codes "command"
word_of stage.Term = codes "term"
