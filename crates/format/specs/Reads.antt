-- What reading a command from the front of some bytes answers.
use Rattle.std.specs.Prelude.{◌≡◌, ◌<◌, ℕ, List, length, IfOk, Result}
use Rattle.std.specs.Borrow.{Bor}
use Rattle.term.specs.Meaning.{of}
use Rattle.term.specs.declared.fault.FileFault.{FileFault}
use Rattle.format.specs.Commands.{Read, said_of, seen}
use Rattle.format.specs.Sorted.{SaidSorted}
use Rattle.format.specs.declared.command.Command.{Command}
use Rattle.format.specs.declared.operands.Context.{Context}

-- r is the command or the fault that is to be read from bs; a command takes a byte at least, and its term or bag is of its sort
abbrev pub Reads : Context → List ℕ → Result (Command × Bor (List ℕ)) FileFault → Read → Type 0
Reads x bs r want =
    (seen r ≡ want) × IfOk r (λ y. length y.1.now < length bs) × IfOk r (λ y. SaidSorted (of x.checker.signature) x.places.now x.checker.variables.now (said_of y.0))
