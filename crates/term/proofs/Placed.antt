-- A row of counts on a place: what a domain adds for it is what it is worth as a marking.
use Rattle.std.proofs.Common.{◌≡◌, ℕ, zero, suc, ◌+◌, ◌-◌, ◌*◌, ◌<◌, ◌≤◌, Bool, true, false, leb, List, length, get_or, drop, ℤ, pos, refl, sym, ap, ◌∙◌, subst, arith, length-drop}
use Rattle.std.proofs.lemmas.Bool.Decides.{nat_tests}
use Rattle.std.proofs.lemmas.List.{get_or-drop, get_or_past}
use Rattle.domain.specs.Meaning.{Added, Laws, Meaning, copies, row_length, row_of, row_to}
use Rattle.domain.proofs.Copies.{copies_one}
use Rattle.domain.proofs.Rows.{row_holds, row_size}
use Rattle.term.specs.Adding.{neutral_right, value_none}
use Rattle.term.proofs.Sums.{place_past}
use Rattle.term.specs.Worth.{Marking, Weighs, on_place, value_of, value_to, weight_of}
use Rattle.term.specs.Meaning.{largest_row}

module _ {V : Type 0} {d : Meaning V} (l : Laws d) (codes : List ℤ) (p : ℕ) (row : List ℕ) where
  abbrev there : List ℤ
  there = drop (64 * p) codes

  abbrev counts : Marking
  counts = on_place p (λ e. get_or row e 0)

  here : (k : ℕ) → counts (64 * p + k) ≡ get_or row k 0
  here k = let a : leb (64 * p) (64 * p + k) ≡ true = grind (arith, nat_tests) in let b : 64 * p + k - 64 * p ≡ k = omega arith in rw (a, b)

  -- the first k cells of the place
  first : (k : ℕ) → value_to d codes counts (64 * p + k) ≡ row_to d row there k
  first zero = ap (value_to d codes counts) {y = 64 * p} (omega arith) ∙ value_none l codes counts (64 * p) (λ c h. place_past p (λ e. get_or row e 0) c h)
  first (suc k) =
      let r = row_to d row there k in
      ap (value_to d codes counts) {y = suc (64 * p + k)} (omega arith)
      ∙ ap (λ (x : V). d.plus x (copies d (counts (64 * p + k)) (weight_of d codes (64 * p + k)))) (first k)
      ∙ ap (λ (n : ℕ). d.plus r (copies d n (weight_of d codes (64 * p + k)))) (here k)
      ∙ ap (λ (c : ℤ). d.plus r (copies d (get_or row k 0) (d.weight c))) (sym (get_or-drop (64 * p) codes k (pos 0)))

  -- nothing stands past the last count
  past : (k : ℕ) → row_to d row there (length row + k) ≡ row_to d row there (length row)
  past zero = ap (row_to d row there) {y = length row} (omega arith)
  past (suc k) =
      let r = row_to d row there (length row + k) in
      ap (row_to d row there) {y = suc (length row + k)} (omega arith)
      ∙ ap (λ (n : ℕ). d.plus r (copies d n (d.weight (get_or there (length row + k) (pos 0))))) (get_or_past row (length row + k) 0 (omega arith))
      ∙ neutral_right l r (row_holds l row there (length row + k)) ∙ past k

  all : 64 * p ≤ length codes → length row < 256 → value_of d codes counts ≡ row_of d row there
  all inside few = ap (value_to d codes counts) cells ∙ first (length there) ∙ by (leb (length row) (length there)) refl
    where
      cells : length codes ≡ 64 * p + length there
      cells = omega (arith, length-drop (64 * p) codes)

      by : (b : Bool) → leb (length row) (length there) ≡ b → row_to d row there (length there) ≡ row_of d row there
      by true q =
          let short : length row ≤ length there = grind (arith, nat_tests, q) in
          ap (row_to d row there) {y = length row + (length there - length row)} (omega (arith, short)) ∙ past (length there - length row)
          ∙ ap (row_to d row there) {y = row_length row there} (omega (arith, short, few))
      by false q = let long : length there < length row = grind (arith, nat_tests, q) in ap (row_to d row there) {y = row_length row there} (omega (arith, long, few))

  pub weighs_row : (v r : V) → 64 * p ≤ length codes → length row < 256 → ((i : ℕ) → get_or row i 0 < 256) → Added d v 1 (row_of d row there) r → Weighs d codes v counts largest_row r
  weighs_row v r inside few bytes add h s =
      let w = row_of d row there in
      let hw : d.holds w = row_holds l row there (row_length row there) in
      let light = row_size l row there bytes (row_length row there) in
      let er : r ≡ d.plus v w = add.exact (omega arith) ∙ ap (d.plus v) (copies_one l w hw) in
      let sr : d.size r ≡ d.size (d.plus v w) = ap d.size er in
      let grown = l.size_plus v w h hw in
      record {
        is = er ∙ ap (d.plus v) (sym (all inside few));
        holds = subst d.holds (sym er) (l.plus_holds v w h hw);
        size = omega arith;
      }
