-- What tokens do to what they are added to.
use Rattle.std.specs.Prelude.{◌≡◌, ℕ, ◌+◌, ◌*◌, ◌^◌, ◌<◌, ◌≤◌, List, length, slice_index}
use Rattle.domain.specs.Meaning.{Meaning}
use Rattle.term.specs.declared.tally.Counts.{Counts}
use Rattle.term.specs.declared.tally.Weighed.{Weighed}
use Rattle.term.specs.Counts.{Added}
use Rattle.term.specs.Worth.{Weighs, on_place}

-- gains a f n b: from a, with as many tokens of each element as f says, at most n in all, comes b.
-- No tokens change nothing, and what is added one after the other adds up.
pub record Adds {T : Type 0} (gains : T → (ℕ → ℕ) → ℕ → T → Type 0) : Type 0 where
  pub nothing : (a : T) → gains a (λ e. 0) 0 a
  pub after : (a b c : T) (f g : ℕ → ℕ) (i j : ℕ) → gains a f i b → gains b g j c → gains a (λ e. f e + g e) (i + j) c
  pub alike : (a b : T) (f g : ℕ → ℕ) (i j : ℕ) → ((e : ℕ) → f e ≡ g e) → i ≤ j → gains a f i b → gains a g j b

-- numbers of 32 bits
abbrev pub Words : List ℕ → Type 0
Words xs = (i : ℕ) → slice_index xs i < 2 ^ 32

-- tokens on the place are added to its counts, behind the same reference
pub record CountGains (a : Counts) (f : ℕ → ℕ) (n : ℕ) (b : Counts) : Type 0 where
  pub place : b.place ≡ a.place
  pub same : b.counts.ghost_name ≡ a.counts.ghost_name
  pub long : length b.counts.now ≡ length a.counts.now
  pub added : Words a.counts.now → Words b.counts.now × Added a.counts.now b.counts.now (64 * a.place) f

-- tokens on the place, by the same weights, are added to the sum
pub record WeightGains {W V : Type 0} (meaning : W → Meaning V) (a : Weighed W V) (f : ℕ → ℕ) (n : ℕ) (b : Weighed W V) : Type 0 where
  pub weights : b.weights ≡ a.weights
  pub place : b.place ≡ a.place
  pub weighs : Weighs (meaning a.weights.now.domain.now) a.weights.now.codes.now a.sum (on_place a.place f) n b.sum
