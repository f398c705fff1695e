use Rattle.std.proofs.Common.{◌≡◌}
use Rattle.net.specs.Reading.{put_row, weighted}
use Rattle.net.specs.System.{told_by}
use Rattle.net.proofs.parts.Parts.set_codes.Given as goal

-- the elements so far have their code, and transitions stay
abbrev pub invariant-loop-element : goal.invariant-loop-element
invariant-loop-element l = (told_by l.self ≡ weighted (told_by l.initial.self) (put_row l.place l.element l.code)) × (l.self.transitions ≡ l.initial.self.transitions)
