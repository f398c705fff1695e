-- The table, computed row by row, and what follows from it.
use Rattle.std.proofs.Common.{◌≡◌, List, [], ◌∷◌, map, Some, Option, Ok, Err, refl, subst}
use Rattle.format.specs.Format.{arc_bag, guard_term}
use Rattle.term.specs.Check.{check_bag}
use Rattle.term.specs.Prefix.{bag_at, term_at}
use Rattle.net.specs.Reading.{Told, commands, told}
use Rattle.judge.specs.Judged.{true_modes, true_modes_to}
use Rattle.worked.specs.Rows.{Answer, Answers, Holds, Question, Row, cap, fault_shown, fire, judge, net_shown, read}
use Rattle.worked.specs.Table.{Every, WorkedExamples, table}
use Rattle.worked.proofs.Caps.{capping, capping_sound}
use Rattle.worked.proofs.Firings.{replying, replying_sound}
use Rattle.worked.proofs.Verdicts.{Sound, judging, judging_sound}

-- the answer to a question on what a file tells
abbrev answer_to : Told → Question → Option Answer
answer_to (Err e) q = Some (fault_shown e)
answer_to (Ok n) read = Some (net_shown n)
answer_to (Ok n) (judge claim) = judging n claim
answer_to (Ok n) (cap claim cell) = capping n claim cell
answer_to (Ok n) (fire fs f) = replying n fs f

sound : (t : Told) (q : Question) → Sound (Answers t q) (answer_to t q)
sound (Err e) q = refl
sound (Ok n) read = refl
sound (Ok n) (judge claim) = judging_sound n claim
sound (Ok n) (cap claim cell) = capping_sound n claim cell
sound (Ok n) (fire fs f) = replying_sound n fs f

abbrev answered : Row → Option Answer
answered r = answer_to (told r.file) r.asked

abbrev expected : Row → Option Answer
expected r = Some r.answer

-- the whole table: the answers computed are those of the rows
computed : map answered table ≡ map expected table
unfolding term_at bag_at check_bag guard_term arc_bag commands true_modes true_modes_to
computed = refl

holds : (r : Row) → answered r ≡ expected r → Holds r
unfolding Holds
holds r e = subst (Sound (Answers (told r.file) r.asked)) e (sound (told r.file) r.asked)

every_holds : (rs : List Row) → map answered rs ≡ map expected rs → Every Holds rs
every_holds [] e = tt
every_holds (r ∷ rs) e =
    let here : answered r ≡ expected r = cc in
    let rest : map answered rs ≡ map expected rs = cc in
    (holds r here, every_holds rs rest)

-- every worked example holds
pub worked_examples : WorkedExamples
unfolding WorkedExamples
worked_examples = every_holds table computed
