-- What judging answers: the verdict, the first mode that breaks a claim, and the number of modes.
use Rattle.std.specs.Prelude.{◌≡◌, ℕ, zero, suc, ◌+◌, ◌<◌, true, cond, List, length, ℤ, Ok, Err, Result}
use Rattle.domain.specs.Meaning.{Meaning}
use Rattle.term.specs.Worth.{value_of}
use Rattle.net.specs.System.{SystemNet}
use Rattle.net.specs.Nets.{given, guard_holds, mode, modes_of, taken}
use Rattle.judge.specs.declared.verdict.Breach.{Breach}

-- the number of modes with a true guard, or how the claim breaks
abbrev pub Verdict : Type 0 → Type 0
Verdict V = Result ℕ (Breach V)

-- how many of the first i modes have a true guard
unfoldable pub true_modes : SystemNet → ℕ → ℕ → ℕ
true_modes n t zero = 0
true_modes n t (suc i) = true_modes n t i + cond (guard_holds n t (mode n t i)) 1 0

-- how many modes of the first k transitions have a true guard
unfoldable pub true_modes_to : SystemNet → ℕ → ℕ
true_modes_to n zero = 0
true_modes_to n (suc k) = true_modes_to n k + true_modes n k (modes_of n k)

module _ {V : Type 0} (d : Meaning V) (codes : List ℤ) (n : SystemNet) where
  -- the values of what a transition takes in a mode, and of what it puts
  abbrev pub before : ℕ → List ℕ → V
  before t m = value_of d codes (taken n t m)

  abbrev pub after : ℕ → List ℕ → V
  after t m = value_of d codes (given n t m)

  -- of the first i modes, each with a true guard has related values
  abbrev pub Kept : ℕ → ℕ → Type 0
  Kept t i = (j : ℕ) → j < i → guard_holds n t (mode n t j) ≡ true → d.rel (before t (mode n t j)) (after t (mode n t j))

  -- of the first k transitions, all modes
  abbrev pub KeptAll : ℕ → Type 0
  KeptAll k = (t : ℕ) → t < k → Kept t (modes_of n t)

  -- m is the first mode of t with a true guard whose values v and w are not related
  pub record First (t : ℕ) (m : List ℕ) (v w : V) : Type 0 where
    pub index : ℕ
    pub within : index < modes_of n t
    pub is : m ≡ mode n t index
    pub fires : guard_holds n t m ≡ true
    pub before_is : v ≡ before t m
    pub after_is : w ≡ after t m
    pub apart : d.rel v w → ⊥
    pub earlier : Kept t index

  -- the answer for the transition k
  abbrev pub JudgedModes : ℕ → Verdict V → Type 0
  JudgedModes k (Ok c) = (c ≡ true_modes n k (modes_of n k)) × Kept k (modes_of n k)
  JudgedModes k (Err x) = (x.firing.transition ≡ k) × First k x.firing.mode x.before x.after

  -- the answer for all transitions
  abbrev pub Judged : Verdict V → Type 0
  Judged (Ok c) = (c ≡ true_modes_to n (length n.transitions)) × KeptAll (length n.transitions)
  Judged (Err x) = (x.firing.transition < length n.transitions) × KeptAll x.firing.transition × First x.firing.transition x.firing.mode x.before x.after
