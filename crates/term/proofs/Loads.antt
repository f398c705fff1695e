-- A bag has few tokens for its bytes, whatever the bytes are.
use Rattle.std.proofs.Common.{◌≡◌, ℕ, zero, suc, ◌+◌, ◌*◌, ◌<◌, ◌≤◌, true, List, length, get_or, drop, arith, length-drop}
use Rattle.std.proofs.lemmas.Bool.{cond_both}
use Rattle.std.proofs.lemmas.Bool.Decides.{nat_tests}
use Rattle.term.specs.Meaning.{Sig, largest_row, most_tokens, operation}
use Rattle.term.specs.declared.signature.Arguments.{Arguments}
use Rattle.term.specs.declared.signature.Arguments.TheVariants as arguments
use Rattle.term.specs.Prefix.{Read, ReadBag, applied, bag_at, begins, term_at}

some : (k n : ℕ) (bs : List ℕ) → begins k n bs ≡ true → 0 < length bs
some k n bs e = grind (arith, nat_tests, e)

-- what follows as many parts as there are arguments is no longer than n, if nothing that follows one is
applied_short : (p : List ℕ → Read) (k : ℕ) (a : Arguments) (xs : List ℕ) (n : ℕ) → length xs ≤ n → ((ys : List ℕ) → length ys ≤ n → length (p ys).1 ≤ n) → length (applied p k a xs).1 ≤ n
applied_short p k arguments.None xs n h f = h
applied_short p k (arguments.One a) xs n h f = f xs h
applied_short p k (arguments.Two a b) xs n h f = f (p xs).1 (f xs h)
applied_short p k (arguments.More a b) xs n h f = f (p xs).1 (f xs h)

module _ (s : Sig) where
  -- what follows a term is no longer than the bytes
  pub rest_short : (d : ℕ) (bs : List ℕ) → length (term_at s d bs).1 ≤ length bs
  unfolding term_at
  rest_short zero bs = omega arith
  rest_short (suc d) bs =
      let P : Read → Type 0 = λ r. length r.1 ≤ length bs in
      let p = term_at s d in
      let l1 = length-drop 1 bs in
      let l2 = length-drop 2 bs in
      let l3 = length-drop 3 bs in
      let after : (xs : List ℕ) → length xs ≤ length bs → length (p xs).1 ≤ length bs = λ xs h. let r = rest_short d xs in omega arith in
      let twice : (xs : List ℕ) → length xs ≤ length bs → length (p (p xs).1).1 ≤ length bs = λ xs h. after (p xs).1 (after xs h) in
      cond_both (begins 0x20 1 bs) _ _ P (λ e. omega arith) (λ e1.
      cond_both (begins 0x21 2 bs) _ _ P (λ e. omega arith) (λ e2.
      cond_both (begins 0x22 1 bs) _ _ P
      (λ e. applied_short p (get_or bs 1 0) (operation s (get_or bs 1 0)).arguments (drop 2 bs) (length bs) (omega arith) after) (λ e3.
      cond_both (begins 0x23 1 bs) _ _ P (λ e. twice (drop 2 bs) (omega arith)) (λ e4.
      cond_both (begins 0x24 0 bs) _ _ P (λ e. after (drop 1 bs) (omega arith)) (λ e5.
      cond_both (begins 0x25 0 bs) _ _ P (λ e. twice (drop 1 bs) (omega arith)) (λ e6. omega arith))))))

  -- at most 65,025 tokens for each byte
  pub few_tokens : (d : ℕ) (bs : List ℕ) → most_tokens (bag_at s d bs).0 + largest_row * length (bag_at s d bs).1 ≤ largest_row * length bs
  unfolding bag_at
  few_tokens zero bs = omega arith
  few_tokens (suc d) bs =
      let P : ReadBag → Type 0 = λ r. most_tokens r.0 + largest_row * length r.1 ≤ largest_row * length bs in
      let p = term_at s d in
      let q = bag_at s d in
      let l1 = length-drop 1 bs in
      let l2 = length-drop 2 bs in
      cond_both (begins 0x30 0 bs) _ _ P (λ e. omega arith) (λ e1.
      cond_both (begins 0x31 0 bs) _ _ P (λ e. let h = some 0x31 0 bs e in let r = rest_short d (drop 1 bs) in omega arith) (λ e2.
      cond_both (begins 0x32 0 bs) _ _ P (λ e. let a = few_tokens d (drop 1 bs) in let b = few_tokens d (q (drop 1 bs)).1 in omega arith) (λ e3.
      cond_both (begins 0x33 1 bs) _ _ P (λ e. let h = some 0x33 1 bs e in let r = rest_short d (drop 2 bs) in omega arith) (λ e4. omega arith))))
