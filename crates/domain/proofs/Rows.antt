-- Rows: entries with counts and codes.
use Rattle.std.proofs.Common.{◌≡◌, ℕ, zero, suc, ◌+◌, ◌*◌, ◌%◌, ◌<◌, ◌≤◌, Bool, ◌||◌, List, get_or, ℤ, pos, ◌+ℤ◌, ◌*ℤ◌, nat_abs, sym, refl, ap, ◌∙◌, subst, mul-le-mul_left, add-one, arith, w64, SFits, to_z, of_z}
use native.Mathlib.Nat.{add-mod-mod, mod-add-mod}
use Rattle.domain.specs.Domains.{equal, modulo, residue_weight, siphon, truth_weight, whole_weight}
use Rattle.domain.specs.Meaning.{Added, Laws, Meaning, copies, largest_sum, largest_weight, longest_row, row_length, row_of, row_to}
use Rattle.domain.proofs.Copies.{copies_holds, copies_size}
use Rattle.domain.proofs.Residues.{added}
use Rattle.domain.specs.Truths.{assoc}
use Rattle.domain.proofs.Truths.{copies_truth}
use Rattle.domain.specs.Wholes.{size_weight}
use Rattle.domain.proofs.Wholes.{equal_laws, product_fits, sum_fits, sum_is}

-- one entry more
pub row_next : {V : Type 0} (d : Meaning V) (counts : List ℕ) (codes : List ℤ) (k : ℕ) → row_to d counts codes (k + 1) ≡ d.plus (row_to d counts codes k) (copies d (get_or counts k 0) (d.weight (get_or codes k (pos 0))))
row_next d counts codes k = ap (row_to d counts codes) (add-one k)

module _ {V : Type 0} {d : Meaning V} (l : Laws d) (counts : List ℕ) (codes : List ℤ) where
  entry_holds : (k : ℕ) → d.holds (copies d (get_or counts k 0) (d.weight (get_or codes k (pos 0))))
  entry_holds k = copies_holds l (get_or counts k 0) (d.weight (get_or codes k (pos 0))) (l.weight_holds (get_or codes k (pos 0)))

  pub row_holds : (k : ℕ) → d.holds (row_to d counts codes k)
  row_holds zero = l.nil_holds
  row_holds (suc k) = l.plus_holds (row_to d counts codes k) (copies d (get_or counts k 0) (d.weight (get_or codes k (pos 0)))) (row_holds k) (entry_holds k)

  module _ (bytes : (i : ℕ) → get_or counts i 0 < 256) where
    -- an entry has at most 255 of the largest weights
    entry_size : (k : ℕ) → get_or counts k 0 * d.size (d.weight (get_or codes k (pos 0))) ≤ 255 * largest_weight
    entry_size k = let load = mul-le-mul_left (get_or counts k 0) (l.size_weight (get_or codes k (pos 0))) in let few = bytes k in omega arith

    pub row_size : (k : ℕ) → d.size (row_to d counts codes k) ≤ 255 * largest_weight * k
    row_size zero = omega (arith, l.size_nil)
    row_size (suc k) =
        let n = get_or counts k 0 in
        let w = d.weight (get_or codes k (pos 0)) in
        omega (arith, l.size_plus (row_to d counts codes k) (copies d n w) (row_holds k) (entry_holds k), copies_size l n w (l.weight_holds (get_or codes k (pos 0))), entry_size k, row_size k)

    -- one entry more is exact
    pub more : (k n : ℕ) (r w s : V) → k < longest_row → n ≡ get_or counts k 0 → w ≡ d.weight (get_or codes k (pos 0)) → r ≡ row_to d counts codes k → Added d r n w s → s ≡ row_to d counts codes (k + 1)
    more k n r w s short en ew er a =
        let at : Added d (row_to d counts codes k) (get_or counts k 0) (d.weight (get_or codes k (pos 0))) s
        = subst (λ (x : V). Added d x (get_or counts k 0) (d.weight (get_or codes k (pos 0))) s) er
        (subst (λ (x : ℕ). Added d r x (d.weight (get_or codes k (pos 0))) s) en (subst (λ (x : V). Added d r n x s) ew a)) in
        at.exact (omega (arith, row_size k, entry_size k)) ∙ sym (row_next d counts codes k)

  -- all entries
  pub all : (k : ℕ) (v r s : V) → k ≡ row_length counts codes → r ≡ row_to d counts codes k → Added d v 1 r s → Added d v 1 (row_of d counts codes) s
  all k v r s e er = subst (λ (x : V). Added d v 1 x s) (er ∙ ap (row_to d counts codes) e)

-- one entry of a row of whole numbers: what the program reads there
pub record Entry (counts : List ℕ) (codes : List ℤ) (k : ℕ) (m w : ℤ) : Type 0 where
  pub short : k < longest_row
  pub bytes : (i : ℕ) → get_or counts i 0 < 256
  pub count : m ≡ pos (get_or counts k 0)
  pub count_fits : SFits w64 m
  pub weight : w ≡ whole_weight (get_or codes k (pos 0))
  pub weight_fits : SFits w64 w

module _ {counts : List ℕ} {codes : List ℤ} {k : ℕ} {r m w : ℤ} (p : Entry counts codes k m w) (so_far : r ≡ row_to equal counts codes k) where
  room : nat_abs r + get_or counts k 0 * nat_abs w ≤ largest_sum
  room =
      let light : nat_abs w ≤ largest_weight = subst (λ (z : ℤ). nat_abs z ≤ largest_weight) (sym p.weight) (size_weight (get_or codes k (pos 0))) in
      let load : get_or counts k 0 * nat_abs w ≤ get_or counts k 0 * largest_weight = mul-le-mul_left (get_or counts k 0) light in
      omega (arith, ap nat_abs so_far, row_size equal_laws counts codes p.bytes k, p.bytes k, p.short)

  pub product : SFits w64 (to_z w64 (of_z w64 m) *ℤ to_z w64 (of_z w64 w))
  product = product_fits r p.weight_fits p.count_fits p.count room

  pub sum : SFits w64 (r +ℤ to_z w64 (of_z w64 (to_z w64 (of_z w64 m) *ℤ to_z w64 (of_z w64 w))))
  sum = sum_fits r p.weight_fits p.count_fits p.count room

  pub next : to_z w64 (of_z w64 (r +ℤ to_z w64 (of_z w64 (to_z w64 (of_z w64 m) *ℤ to_z w64 (of_z w64 w))))) ≡ row_to equal counts codes (k + 1)
  next =
      let within = room in
      more equal_laws counts codes p.bytes k (get_or counts k 0) r w _ p.short refl p.weight so_far
      (record { exact = λ h. sum_is r p.weight_fits p.count_fits p.count within; beyond = λ h. let z : ⊥ = omega arith in absurd z })

-- one entry of a row of residues, and all of them
module _ (q : ℕ) (two : 2 ≤ q) (counts : List ℕ) (codes : List ℤ) where
  pub residue_next : (k n w row : ℕ) → n ≡ get_or counts k 0 → w ≡ residue_weight q (get_or codes k (pos 0)) → row % q ≡ row_to (modulo q) counts codes k → (row + n * w) % q ≡ row_to (modulo q) counts codes (k + 1)
  residue_next k n w row en ew e =
      sym (mod-add-mod row q (n * w)) ∙ ap (λ (z : ℕ). (z + n * w) % q) e
      ∙ added q (row_to (modulo q) counts codes k) n w two
      ∙ ap (λ (z : ℕ). (modulo q).plus (row_to (modulo q) counts codes k) (copies (modulo q) z w)) en
      ∙ ap (λ (z : ℕ). (modulo q).plus (row_to (modulo q) counts codes k) (copies (modulo q) (get_or counts k 0) z)) ew
      ∙ sym (row_next (modulo q) counts codes k)

  pub residue_all : (k v row r : ℕ) → k ≡ row_length counts codes → row % q ≡ row_to (modulo q) counts codes k → r ≡ (v + row) % q → Added (modulo q) v 1 (row_of (modulo q) counts codes) r
  residue_all k v row r ek e er =
      let same : row % q ≡ 1 * row_of (modulo q) counts codes = e ∙ ap (row_to (modulo q) counts codes) ek ∙ omega arith in
      record {
        exact = λ h. er ∙ sym (add-mod-mod v row q) ∙ ap (λ (z : ℕ). (v + z) % q) same ∙ added q v 1 (row_of (modulo q) counts codes) two;
        beyond = λ h. let z : ⊥ = omega arith in absurd z;
      }

-- one entry of a row of truth values
pub truth_next : (counts : List ℕ) (codes : List ℤ) (k n : ℕ) (v m w c : Bool) → n ≡ get_or counts k 0 → w ≡ truth_weight (get_or codes k (pos 0)) → c ≡ copies siphon n w → m ≡ (v || row_to siphon counts codes k)
    → (m || c) ≡ (v || row_to siphon counts codes (k + 1))
truth_next counts codes k n v m w c en ew ec em =
    ap (λ (z : Bool). z || c) em ∙ assoc v (row_to siphon counts codes k) c
    ∙ ap (λ (z : Bool). v || (row_to siphon counts codes k || z)) (ec ∙ ap (λ (z : ℕ). copies siphon z w) en ∙ ap (copies siphon (get_or counts k 0)) ew)
    ∙ ap (λ (z : Bool). v || z) (sym (row_next siphon counts codes k))

-- all of them
pub truth_all : (counts : List ℕ) (codes : List ℤ) (k : ℕ) (v m : Bool) → k ≡ row_length counts codes → m ≡ (v || row_to siphon counts codes k) → Added siphon v 1 (row_of siphon counts codes) m
truth_all counts codes k v m ek em = record {
  exact = λ h. em ∙ ap (λ (z : ℕ). v || row_to siphon counts codes z) ek ∙ ap (λ (z : Bool). v || z) (sym (copies_truth 1 (row_of siphon counts codes) (omega arith)));
  beyond = λ h. let z : ⊥ = omega arith in absurd z;
}
