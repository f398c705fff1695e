-- The code bytes of commands.
use Rattle.std.specs.Prelude.{◌≡◌, ℕ, cond, Some, None, Ok, Err, Option, Result, ◌==◌}
use Rattle.format.specs.declared.command.Code.{Code}
use Rattle.format.specs.declared.command.Code.TheVariants as code
use Rattle.format.specs.declared.command.NoCode.{NoCode}

-- the command that a code byte stands for
abbrev pub code_of : ℕ → Option Code
code_of b =
    cond (b == 0x01) (Some code.Sort)
    (cond (b == 0x02) (Some code.Operation)
    (cond (b == 0x03) (Some code.BagOperation)
    (cond (b == 0x04) (Some code.Place)
    (cond (b == 0x05) (Some code.Tokens)
    (cond (b == 0x06) (Some code.Transition)
    (cond (b == 0x07) (Some code.Guard)
    (cond (b == 0x08) (Some code.InArc)
    (cond (b == 0x09) (Some code.OutArc)
    (cond (b == 0x0A) (Some code.Claim)
    (cond (b == 0x0B) (Some code.PlaceWeight)
    (cond (b == 0x0C) (Some code.ElementWeight)
    (cond (b == 0x0F) (Some code.End) None))))))))))))

-- r is the command of a byte, or that byte, where it stands for none
abbrev pub Coded : ℕ → Result Code NoCode → Type 0
Coded b (Ok c) = code_of b ≡ Some c
Coded b (Err e) = (code_of b ≡ None) × (e.0 ≡ b)
