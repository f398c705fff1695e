-- What a verdict says of every marking, of any size, and of every run.
use Rattle.std.specs.Prelude.{ℕ, List, ℤ, Ok, Err}
use Rattle.domain.specs.Meaning.{Meaning}
use Rattle.term.specs.Worth.{Marking, value_of}
use Rattle.net.specs.System.{SystemNet}
use Rattle.net.specs.Nets.{taken}
use Rattle.net.specs.Runs.{Fires, Run}
use Rattle.net.specs.declared.firing.Firing.{Firing}
use Rattle.judge.specs.Judged.{Verdict}

module _ {V : Type 0} (d : Meaning V) (codes : List ℤ) (n : SystemNet) where
  -- transition t, fired in the mode m from the marking a, gives values that are not related
  abbrev pub BreaksAt : ℕ → List ℕ → Marking → Type 0
  BreaksAt t m a = (b : Marking) × Fires n t m a b × (d.rel (value_of d codes a) (value_of d codes b) → ⊥)

  -- some marking has a firing whose values before and after are not related
  abbrev pub Breaks : Type 0
  Breaks = (t : ℕ) × (m : List ℕ) × (a : Marking) × BreaksAt t m a

  -- broken exactly when some marking has a firing whose values are not related; the mode named, fired from what it takes,
  -- is such a firing
  abbrev pub Exactly : Verdict V → Type 0
  Exactly (Ok c) = Breaks → ⊥
  Exactly (Err x) = BreaksAt x.firing.transition x.firing.mode (taken n x.firing.transition x.firing.mode)

  -- along every run of an accepted claim, the first value relates to the last
  abbrev pub Keeps : Verdict V → Type 0
  Keeps (Ok c) = (a b : Marking) (fs : List Firing) → Run n a fs b → d.rel (value_of d codes a) (value_of d codes b)
  Keeps (Err x) = Unit {0}
