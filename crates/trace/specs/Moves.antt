-- The commands of a trace, and the bytes that they are written in.
use Rattle.std.specs.Prelude.{ℕ, List, [], ◌∷◌, ◌++◌, slice_index}
use Rattle.trace.specs.declared.commands.Command.{Command}
use Rattle.trace.specs.declared.commands.Command.TheVariants as command

-- how many bytes a trace may have
abbrev pub longest_trace : ℕ
longest_trace = 65536

-- what a handset did on the bench: fired a transition in the mode of four numbers, went back, or restarted
pub data Move : Type 0 where
  fire : ℕ → ℕ → ℕ → ℕ → ℕ → Move
  back : Move
  restart : Move

-- the move that a command stands for
abbrev pub move_of : Command → Move
move_of (command.Fire t mode) = fire t (slice_index mode 0) (slice_index mode 1) (slice_index mode 2) (slice_index mode 3)
move_of command.Back = back
move_of command.Restart = restart

-- the bytes of a command: its code, then its operands
abbrev pub move_bytes : Move → List ℕ
move_bytes (fire t a b c d) = 0x40 ∷ t ∷ a ∷ b ∷ c ∷ d ∷ []
move_bytes back = 0x41 ∷ []
move_bytes restart = 0x42 ∷ []

-- the bytes of commands, one after the other
abbrev pub written : List Move → List ℕ
written [] = []
written (m ∷ ms) = move_bytes m ++ written ms

-- the bytes of the end
abbrev pub end_bytes : List ℕ
end_bytes = 0x4F ∷ []

-- a whole trace: the commands and then the end
abbrev pub trace_of : List Move → List ℕ
trace_of ms = written ms ++ end_bytes
