-- A loop over the pairs of a row.
use Rattle.std.proofs.Common.{◌≡◌, ℕ, ◌<◌, List, length, take, get_or, Option, Some, None, ℤ, pos, ◌∙◌, arith, Bor}
use Rattle.std.specs.declared.iter.Zip.{Zip}
use Rattle.std.specs.declared.slice.Iter.{Iter}
use Rattle.std.proofs.iter.Yields.{fronts}
use Rattle.std.proofs.lemmas.Iterator.{zips}
use Rattle.std.proofs.lemmas.List.{get_or-take, length-take}
use Rattle.std.proofs.lemmas.Slice.Zip.{zip_end, zip_turn}
use Rattle.std.specs.Iterator.{Yields}
use Rattle.std.specs.Iterator.Adapters.{zip_first, zip_second}
use Rattle.std.specs.Slice.Iter.{iter_rest}
use Rattle.domain.specs.Meaning.{longest_row, row_length}

-- the pair of a turn is that of entry k
pub record Turn (counts : List ℕ) (codes : List ℤ) (k n : ℕ) (c : ℤ) : Type 0 where
  pub short : k < longest_row
  pub inside : k < length codes
  pub count : n ≡ get_or counts k 0
  pub code : c ≡ get_or codes k (pos 0)

module _ (counts : List ℕ) (codes : List ℤ) (xs : List (Bor ℕ × Bor ℤ)) (s t u : Zip (Iter ℕ) (Iter ℤ)) (r : Option (Bor ℕ × Bor ℤ)) (first : iter_rest (zip_first s) ≡ take longest_row counts) (second : iter_rest (zip_second s) ≡ codes) (y : Yields (zips fronts fronts) s xs t) where
  pub turn : (p : Bor ℕ × Bor ℤ) → r ≡ Some p → zips fronts fronts t r u → Turn counts codes (length xs) p.0.now p.1.now
  turn p e h =
      let z = zip_turn (take longest_row counts) codes xs s t u r first second y p e h in
      let short : length xs < longest_row = omega (arith, z.0, length-take longest_row counts) in
      record {
        short = short;
        inside = z.1;
        count = z.2 0 ∙ get_or-take longest_row counts (length xs) 0 short;
        code = z.3 (pos 0);
      }

  pub end : r ≡ None → zips fronts fronts t r u → length xs ≡ row_length counts codes
  end e h = omega (arith, zip_end (take longest_row counts) codes xs s t u r first second y e h, length-take longest_row counts)
