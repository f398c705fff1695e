-- The commands of a net file as plain values.
use Rattle.std.specs.Prelude.{ℕ, cond, ◌==◌, List, ℤ, Ok, Err, Result}
use Rattle.std.specs.Borrow.{Bor}
use Rattle.domain.specs.declared.kind.Kind.{Kind}
use Rattle.term.specs.declared.fault.FileFault.{FileFault}
use Rattle.term.specs.declared.signature.Arguments.{Arguments}
use Rattle.term.specs.declared.signature.Arguments.TheVariants as arguments
use Rattle.format.specs.declared.command.Command.{Command}
use Rattle.format.specs.declared.command.Command.TheVariants as command
use Rattle.format.specs.declared.command.Direction.{Direction}

-- a command, its table, term or bag as a list of bytes
pub data Said : Type 0 where
  sort : ℕ → Said
  operation : Arguments → ℕ → List ℕ → Said
  bag_operation : ℕ → ℕ → List ℕ → Said
  place : ℕ → Said
  tokens : ℕ → ℕ → ℕ → Said
  transition : List ℕ → Said
  guard : List ℕ → Said
  arc : Direction → ℕ → List ℕ → Said
  claim : Kind → Said
  place_weight : ℕ → ℤ → Said
  element_weight : ℕ → ℕ → ℤ → Said
  end : Said

-- a command and the bytes that follow it, or a fault
pub data Read : Type 0 where
  said : Said → List ℕ → Read
  fault : FileFault → Read

-- so many arguments, of the sorts a and b
abbrev pub arguments_of : ℕ → ℕ → ℕ → Arguments
arguments_of n a b = cond (n == 0) arguments.None (cond (n == 1) (arguments.One a) (cond (n == 2) (arguments.Two a b) (arguments.More a b)))

-- what a command says
abbrev pub said_of : Command → Said
said_of (command.Sort n) = sort n
said_of (command.Operation a r t) = operation a r t.now
said_of (command.BagOperation a r t) = bag_operation a r t.now
said_of (command.Place s) = place s
said_of (command.Tokens p e n) = tokens p e n
said_of (command.Transition s) = transition s.now
said_of (command.Guard t) = guard t.now
said_of (command.Arc d p b) = arc d p b.now
said_of (command.Claim k) = claim k
said_of (command.PlaceWeight p c) = place_weight p c
said_of (command.ElementWeight p e c) = element_weight p e c
said_of command.End = end

-- what was read
abbrev pub seen : Result (Command × Bor (List ℕ)) FileFault → Read
seen (Ok x) = said (said_of x.0) x.1.now
seen (Err e) = fault e
