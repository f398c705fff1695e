-- What holds of every net in memory, since it is well-formed.
use Rattle.std.proofs.Common.{◌≡◌, ℕ, ◌*◌, ◌<◌, ◌≤◌, true, List, length, get_or, pos, sum_by, ap, ◌∙◌, arith}
use mathlib.Core.Logic.{∥∥₁_elim}
use Rattle.std.proofs.Math.Bool.{Bool-set}
use Rattle.std.proofs.Math.Bridge.{le_prop}
use Rattle.std.proofs.Math.Nat.{ℕ_set}
use Rattle.domain.specs.Kinds.{kind_weighs}
use Rattle.domain.specs.declared.kind.Kind.{Kind}
use Rattle.format.specs.Format.{mode_count, most_modes}
use Rattle.format.specs.declared.command.Direction.{Direction}
use Rattle.net.specs.declared.net.Net.{Net}
use Rattle.net.specs.Nets.{ExactlyTallied, HasCell, IsKind, Mode, Tallied, arcs_of, codes_of, largest_side, no_claim, side, transition}
use Rattle.net.specs.Of.{system}
use Rattle.net.specs.System.{longest_file, most_transitions, no_transition}
use Rattle.net.proofs.Anywhere.{anywhere}
use Rattle.net.proofs.Bounds.{few, few_modes, short_side}
use Rattle.net.proofs.Outside.{outside}
use Rattle.net.specs.WellFormed.{spans}

module _ (n : Net) where
  -- the arcs of a transition that go one way have short bags
  pub short_arcs : (t : ℕ) (d : Direction) → spans (arcs_of (system n) t d) ≤ longest_file
  short_arcs t d = ∥∥₁_elim n.well_formed le_prop (λ s. short_side (system n) s t d)

  -- and few tokens in a cell
  pub few_tokens : (m : List ℕ) (t c : ℕ) (d : Direction) → side (system n) m (arcs_of (system n) t d) c ≤ largest_side
  few_tokens m t c d = ∥∥₁_elim n.well_formed le_prop (λ s. few (system n) s m t c d)

  -- so they are counted exactly
  pub counted : (m : List ℕ) (t : ℕ) (d : Direction) (xs ys : List ℕ) → Tallied xs ys (side (system n) m (arcs_of (system n) t d)) → ExactlyTallied xs ys (side (system n) m (arcs_of (system n) t d))
  counted m t d xs ys h c l room = let e = h c l in let f = few_tokens m t c d in omega (arith, e)

  -- all transitions have few modes
  pub modes_in_all : sum_by (λ t. mode_count t.sizes) (system n).transitions ≤ most_transitions * most_modes
  modes_in_all = ∥∥₁_elim n.well_formed le_prop (λ s. few_modes (system n) s)

  -- a transition has few modes
  pub modes_in_one : (t : ℕ) → mode_count (transition (system n) t).sizes ≤ most_modes
  modes_in_one t = ∥∥₁_elim n.well_formed le_prop (λ s. anywhere (λ x. mode_count x.sizes ≤ most_modes) (system n).transitions no_transition (λ i d h. (s.transitions i d h).modes) (omega arith) t)

  -- in a mode, a transition's arcs touch no cell that the net has not
  pub untouched : (m : List ℕ) (t c : ℕ) (d : Direction) → t < length (system n).transitions → Mode (transition (system n) t).sizes m → c < 1024 → (HasCell (system n) c → ⊥) → side (system n) m (arcs_of (system n) t d) c ≡ 0
  untouched m t c d there mode within lacks = ∥∥₁_elim n.well_formed (ℕ_set _ _) (λ s. outside (system n) s m c within lacks t there mode d)

  -- the codes of a claim are weights of its kind
  pub weights : (claim c : ℕ) (k : Kind) → IsKind (system n) claim k → c < length (codes_of (system n) claim) → kind_weighs k (get_or (codes_of (system n) claim) c (pos 0)) ≡ true
  weights claim c k is there = ∥∥₁_elim n.well_formed (Bool-set _ _) (λ s. ap (λ j. kind_weighs j (get_or (codes_of (system n) claim) c (pos 0))) is.is ∙ (s.claims claim no_claim is.there).weights c (pos 0) there)
