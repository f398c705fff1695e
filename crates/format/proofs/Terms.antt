-- Commands that end in a term or a bag.
use Rattle.std.proofs.Common.{◌≡◌, ℕ, ◌<◌, cond, ltb, List, length, get_or, drop, sym, ap, ◌∙◌, lt-ltb}
use Rattle.term.specs.Check.{Checked, check_bag, check_term, spot}
use Rattle.term.specs.declared.fault.Fault.TheVariants as fail
use Rattle.term.specs.Meaning.{Sig}
use Rattle.format.specs.declared.command.Direction.{Direction}
use Rattle.format.specs.Commands.{Read, fault, guard, arc}
use Rattle.format.specs.Format.{arc_at, arc_bag, guard_at, guard_term, in_command, with_term}

-- a test that holds
passes : (i n : ℕ) (r q : Read) → i < n → r ≡ cond (ltb i n) r q
passes i n r q h = sym (ap (λ t. cond t r q) (lt-ltb i n h))

module _ (s : Sig) (vars : List ℕ) (ends : ℕ) (bs t : List ℕ) (x : Checked) where
  pub guarded : 0 < length bs → t ≡ drop 1 bs → x ≡ check_term s vars ends 16 0 t → with_term x t guard ≡ guard_at s vars bs ends
  unfolding guard_term
  guarded h e k =
      ap (λ y. with_term y t guard) k
      ∙ ap (λ l. with_term (check_term s vars ends 16 0 l) l guard) e
      ∙ passes 0 (length bs) (with_term (check_term s vars ends 16 0 (drop 1 bs)) (drop 1 bs) guard) (fault (in_command fail.Ends ends)) h

  pub arced : (places : List ℕ) (d : Direction) → 1 < length bs → get_or bs 1 0 < length places → t ≡ drop 2 bs → x ≡ check_bag s vars ends 16 (get_or places (get_or bs 1 0) 0) t
      → with_term x t (arc d (get_or bs 1 0)) ≡ arc_at s places d vars bs ends
  unfolding arc_bag
  arced places d h p e k =
      let r : Read = with_term (check_bag s vars ends 16 (get_or places (get_or bs 1 0) 0) (drop 2 bs)) (drop 2 bs) (arc d (get_or bs 1 0)) in
      let f : Read = fault (in_command fail.Range (spot bs ends 1)) in
      ap (λ y. with_term y t (arc d (get_or bs 1 0))) k
      ∙ ap (λ l. with_term (check_bag s vars ends 16 (get_or places (get_or bs 1 0) 0) l) l (arc d (get_or bs 1 0))) e
      ∙ passes (get_or bs 1 0) (length places) r f p
      ∙ passes 1 (length bs) (cond (ltb (get_or bs 1 0) (length places)) r f) (fault (in_command fail.Ends ends)) h
