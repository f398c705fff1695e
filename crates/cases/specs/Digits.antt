-- Hexadecimal digits, in which the examples' files are written.
use Rattle.std.specs.Prelude.{ℕ, ◌-◌, cond, ◌&&◌, Some, None, Option, nat_le}

-- the value of the character c, if it is a digit: 0 to 9 or A to F
abbrev pub hex_digit : ℕ → Option ℕ
hex_digit c = cond (nat_le 0x30 c && nat_le c 0x39) (Some (c - 0x30)) (cond (nat_le 0x41 c && nat_le c 0x46) (Some (c - 0x37)) None)
