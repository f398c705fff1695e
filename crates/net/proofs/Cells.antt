-- Cells: the initial marking and the codes of claims, as they are told.
use Rattle.std.proofs.Common.{◌≡◌, ℕ, zero, suc, ◌+◌, ◌*◌, ◌/◌, ◌%◌, ◌^◌, ◌<◌, ◌≤◌, Bool, true, false, cond, ltb, List, [], ◌∷◌, ◌++◌, length, get_or, set, replicate, ℤ, pos, sym, refl, ap, ◌∙◌, subst, ⊎_elim, arith, le-ltb, lt-ltb}
use Rattle.std.specs.List.{All}
use Rattle.std.proofs.lemmas.List.{get_or_append_left, get_or-set_other, get_or-set_same, length_push, length-set, set_past}
use Rattle.std.proofs.lemmas.List.Elements.{All-push, All-replicate, All-set}
use Rattle.std.proofs.lemmas.Bool.{both_ways, cases_eq, cases_lt, cond_both, cond-true}
use Rattle.domain.specs.Kinds.{kind_weighs}
use Rattle.domain.specs.declared.kind.Kind.{Kind}
use Rattle.domain.specs.declared.kind.Kind.TheVariants.{Equal, NeverRises, NeverFalls, Modulo, Trap, Siphon}
use Rattle.format.specs.Format.{place_size}
use Rattle.term.specs.Meaning.{size_of}
use Rattle.net.specs.Reading.{put_row}
use Rattle.net.specs.System.{most_places}
use Rattle.net.proofs.Anywhere.{anywhere}

-- an element after a change at j, which is itself changed only there
pub changed_at : {X : Type 0} (P : X → Type 0) (d : X) (xs : List X) (j : ℕ) (x : X) (i : ℕ) → P (get_or xs i d) → (i ≡ j → P x) → P (get_or (set xs j x) i d)
changed_at {X} P d xs j x i p q = ⊎_elim
    (λ (e : i ≡ j). ⊎_elim
    (λ (l : j < length xs). subst (λ (m : ℕ). P (get_or (set xs j x) m d)) (sym e) (subst P (sym (get_or-set_same xs j x d l)) (q e)))
    (λ (l : length xs ≤ j). subst (λ (ys : List X). P (get_or ys i d)) (sym (set_past xs j x l)) p)
    (cases_lt j (length xs)))
    (λ (e : i ≡ j → ⊥). subst P (sym (get_or-set_other xs j i x d e)) p)
    (cases_eq i j)

-- a list of one element has no other, also past its end
pub alike : {X : Type 0} (x : X) (n c : ℕ) → get_or (replicate n x) c x ≡ x
alike x n = anywhere (λ y. y ≡ x) (replicate n x) x (All-replicate (λ y. y ≡ x) n x refl) refl

module _ (sizes places : List ℕ) where
  -- an element of a place stands in the cell
  abbrev pub cell : ℕ → Bool
  cell c = ltb (c % 64) (place_size sizes places (c / 64))

  -- no cell lies past the places
  pub off : (c : ℕ) → length places ≤ c / 64 → cell c ≡ false
  off c h = ap (λ b. ltb (c % 64) (cond b (size_of sizes (get_or places (c / 64) 0)) 0)) (le-ltb (c / 64) (length places) h) ∙ le-ltb (c % 64) 0 (omega arith)

  module _ (small : (k : ℕ) → size_of sizes k ≤ 64) where
    pub place_small : (p : ℕ) → place_size sizes places p ≤ 64
    place_small p = cond_both (ltb p (length places)) (size_of sizes (get_or places p 0)) 0 (λ k. k ≤ 64) (λ _. small (get_or places p 0)) (λ _. omega arith)

    -- the row of a place is of cells
    pub in_row : (p c : ℕ) → 64 * p ≤ c → c < 64 * p + place_size sizes places p → cell c ≡ true
    in_row p c low high =
        let room = place_small p in
        let row : c / 64 ≡ p = omega arith in
        let column : c % 64 < place_size sizes places p = omega arith in
        ap (λ j. ltb (c % 64) (place_size sizes places j)) row ∙ lt-ltb (c % 64) (place_size sizes places p) column

  -- a place more takes no cell away
  pub grows : (s c : ℕ) → ltb (c % 64) (place_size sizes (places ++ s ∷ []) (c / 64)) ≡ false → cell c ≡ false
  grows s c h = ⊎_elim
      (λ (l : c / 64 < length places).
      let p = c / 64 in
      let more : p < length (places ++ s ∷ []) = omega (arith, length_push places s) in
      let same : place_size sizes (places ++ s ∷ []) p ≡ place_size sizes places p =
      cond-true (ltb p (length (places ++ s ∷ []))) (size_of sizes (get_or (places ++ s ∷ []) p 0)) 0 (lt-ltb p (length (places ++ s ∷ [])) more)
      ∙ ap (size_of sizes) (get_or_append_left places (s ∷ []) 0 p l)
      ∙ sym (cond-true (ltb p (length places)) (size_of sizes (get_or places p 0)) 0 (lt-ltb p (length places) l)) in
      ap (ltb (c % 64)) (sym same) ∙ h)
      (λ (l : length places ≤ c / 64). off c l)
      (cases_lt (c / 64) (length places))

-- within the limit of places, which are of declared sorts; 1,024 counts of 16 bits, 0 where there is no cell
pub record Marked (sizes places initial : List ℕ) : Type 0 where
  pub few : length places ≤ most_places
  pub sorts : All (λ s. s < length sizes) places
  pub long : length initial ≡ 1024
  pub small : All (λ k. k < 2 ^ 16) initial
  pub none : (c : ℕ) → cell sizes places c ≡ false → get_or initial c 0 ≡ 0

module _ (sizes places initial : List ℕ) (m : Marked sizes places initial) where
  -- before there are places, sorts make no difference
  pub marked_sort : length places ≡ 0 → (other : List ℕ) → Marked other places initial
  marked_sort h other = record { few = m.few; sorts = λ i d l. let z : ⊥ = omega arith in absurd z; long = m.long; small = m.small; none = λ c _. m.none c (off sizes places c (omega arith)) }

  pub marked_place : length places < most_places → (s : ℕ) → s < length sizes → Marked sizes (places ++ s ∷ []) initial
  marked_place h s k = record { few = omega (arith, length_push places s); sorts = All-push (λ j. j < length sizes) places s m.sorts k; long = m.long; small = m.small; none = λ c f. m.none c (grows sizes places s c f) }

  pub marked_tokens : ((k : ℕ) → size_of sizes k ≤ 64) → (p e k : ℕ) → e < place_size sizes places p → k < 65536 → Marked sizes places (set initial (64 * p + e) k)
  marked_tokens small p e k on h = record {
    few = m.few;
    sorts = m.sorts;
    long = length-set initial (64 * p + e) k ∙ m.long;
    small = All-set (λ v. v < 2 ^ 16) initial (64 * p + e) k (omega arith) m.small;
    none = λ c f. changed_at (λ (v : ℕ). v ≡ 0) 0 initial (64 * p + e) k c (m.none c f) (λ i.
        let z : ⊥ = both_ways (cell sizes places c) f (in_row sizes places small p c (omega arith) (omega arith)) in
        absurd z);
  }

pub zero_weighs : (k : Kind) → kind_weighs k (pos 0) ≡ true
zero_weighs Equal = refl
zero_weighs NeverRises = refl
zero_weighs NeverFalls = refl
zero_weighs (Modulo m) = let l = m.ok.0 in lt-ltb 0 m.k (omega arith)
zero_weighs Trap = refl
zero_weighs Siphon = refl

-- an element of a row of one number after a change, which is itself changed only there
pub row_at : (P : ℤ → Type 0) (xs : List ℤ) (p k : ℕ) (c : ℤ) (i : ℕ) → P (get_or xs i (pos 0)) → (64 * p ≤ i → i < 64 * p + k → P c) → P (get_or (put_row p k c xs) i (pos 0))
row_at P xs p zero c i h f = h
row_at P xs p (suc k) c i h f = changed_at P (pos 0) (put_row p k c xs) (64 * p + k) c i (row_at P xs p k c i h (λ a b. f a (omega arith))) (λ e. f (omega arith) (omega arith))

pub row_length : (xs : List ℤ) (p k : ℕ) (c : ℤ) → length (put_row p k c xs) ≡ length xs
row_length xs p zero c = refl
row_length xs p (suc k) c = length-set (put_row p k c xs) (64 * p + k) c ∙ row_length xs p k c

pub row_all : (P : ℤ → Type 0) (xs : List ℤ) (p k : ℕ) (c : ℤ) → P c → All P xs → All P (put_row p k c xs)
row_all P xs p zero c h a = a
row_all P xs p (suc k) c h a = All-set P (put_row p k c xs) (64 * p + k) c h (row_all P xs p k c h a)
