-- The worked examples on the small net.
use Rattle.std.specs.Prelude.{ℕ, List, [], ◌∷◌, ◌++◌, take}
use Rattle.term.specs.declared.fault.Fault.TheVariants as fault
use Rattle.term.specs.declared.fault.Stage.TheVariants as stage
use Rattle.net.specs.declared.firing.Firing.{Firing}
use Rattle.worked.specs.Rows.{Answer, Holds, Question, Row, read, judge, cap, fire, reads, faulty, accepted, broken, at_most, unbounded, fired, refused}
use Rattle.worked.specs.Small.{lossy, lossy_of_kind, small, with_byte}

abbrev row : List ℕ → Question → Answer → Row
row f q a = record { file = f; asked = q; answer = a }

-- the mode for a handset; the three variables that a transition does not have are 0
abbrev pub handset : ℕ → List ℕ
handset h = h ∷ 0 ∷ 0 ∷ 0 ∷ []

-- transition 0: a handset takes the channel; transition 1: it gives it back
abbrev pub takes : ℕ → Firing
takes h = record { transition = 0; mode = handset h }

abbrev pub gives : ℕ → Firing
gives h = record { transition = 1; mode = handset h }

-- files, what is asked of them, and the answers
abbrev pub table : List Row
table =
    -- what reads, and which faults there are
    row small read (reads 3 3 2 6 1)
    ∷ row [] read (faulty 2 0 stage.Command)
    ∷ row (0x0F ∷ []) read (reads 1 0 0 0 0)
    ∷ row (with_byte 0 0x0E) read (faulty 3 0 stage.Command)
    ∷ row (with_byte 0 0x20) read (faulty 3 0 stage.Command)
    ∷ row (with_byte 1 0x00) read (faulty 6 1 stage.Command)
    ∷ row (with_byte 1 0x40) read (reads 3 3 2 6 1)
    ∷ row (with_byte 4 0x07) read (faulty 4 4 stage.Command)
    ∷ row (with_byte 12 0x02) read (faulty 6 12 stage.Command)
    ∷ row (with_byte 25 0x08) read (faulty 4 25 stage.Command)
    ∷ row (with_byte 30 0x01) read (faulty 6 30 stage.Command)
    ∷ row (with_byte 32 0x02) read (faulty 8 35 stage.Term)
    ∷ row (take 33 small) read (faulty 2 33 stage.Term)
    ∷ row (with_byte 33 0x20) read (faulty 3 33 stage.Term)
    ∷ row (with_byte 34 0x24) read (faulty 8 34 stage.Term)
    ∷ row (with_byte 35 0x01) read (faulty 6 35 stage.Term)
    ∷ row (with_byte 71 0x01) read (faulty 6 72 stage.Command)
    ∷ row (take 85 small) read (faulty 2 85 stage.Command)
    ∷ row (small ++ 0x0F ∷ []) read (faulty 10 86 stage.File)
    -- verdicts, by kind
    ∷ row small (judge 0) (accepted 4)
    ∷ row (with_byte 1 0x40) (judge 0) (accepted 128)
    ∷ row lossy (judge 0) (broken 1 (handset 0))
    ∷ row (lossy_of_kind 2 0) (judge 0) (accepted 4)
    ∷ row (lossy_of_kind 3 0) (judge 0) (broken 1 (handset 0))
    ∷ row (lossy_of_kind 4 2) (judge 0) (broken 1 (handset 0))
    ∷ row (lossy_of_kind 5 0) (judge 0) (broken 1 (handset 0))
    ∷ row (lossy_of_kind 6 0) (judge 0) (accepted 4)
    -- caps: of a sending handset, of a quiet one, and of no cell; and by other kinds
    ∷ row small (cap 0 64) (at_most 1)
    ∷ row small (cap 0 0) unbounded
    ∷ row small (cap 0 2) (refused 13 fault.NoCell)
    ∷ row lossy (cap 0 64) (refused 16 fault.NotAccepted)
    ∷ row (lossy_of_kind 2 0) (cap 0 64) (at_most 1)
    ∷ row (lossy_of_kind 3 0) (cap 0 64) (refused 15 fault.NotPlain)
    ∷ row (lossy_of_kind 6 0) (cap 0 64) unbounded
    -- handset 0 takes the channel; then handset 1 finds it taken, until it is given back
    ∷ row small (fire [] (takes 0)) fired
    ∷ row small (fire (takes 0 ∷ []) (takes 1)) (refused 20 (fault.Lacks 128))
    ∷ row small (fire (takes 0 ∷ gives 0 ∷ []) (takes 1)) fired
    ∷ []

-- P holds of every row
abbrev pub Every : (Row → Type 0) → List Row → Type 0
Every P [] = Unit {0}
Every P (r ∷ rs) = P r × Every P rs

-- every worked example holds
unfoldable pub WorkedExamples : Type 0
WorkedExamples = Every Holds table
