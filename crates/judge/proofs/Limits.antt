-- The value of the initial marking is exact, and a cap is a bound for every run.
use Rattle.std.proofs.Common.{◌≡◌, ℕ, zero, suc, ◌+◌, ◌*◌, ◌<◌, ◌≤◌, Bool, true, false, cond, eqb, ◌⊎◌, List, length, get_or, ℤ, pos, Ok, Option, Some, None, sym, refl, ap, ◌∙◌, subst, ⊎_elim, add-one, arith, eq-eqb, ne_eqb}
use Rattle.domain.specs.Meaning.{Grown, Laws, Meaning, copies}
use Rattle.domain.specs.Measure.{Largest, PlainLaws, Reaches}
use Rattle.domain.proofs.Copies.{copies_plain}
use Rattle.term.specs.Worth.{Marking, value_of, value_to, weight_of}
use Rattle.term.proofs.Sums.{value_add, value_holds, value_one, value_same}
use Rattle.net.specs.System.{SystemNet}
use Rattle.net.specs.Runs.{Bounded, initial}
use Rattle.judge.specs.Calls.{Memory}
use Rattle.judge.specs.Caps.{AllPlain, CapCalled, CapIs, Limits}
use Rattle.judge.specs.Theorem.{Keeps}

-- the tokens of one cell, and those of all others
abbrev alone : Marking → ℕ → Marking
alone m c i = cond (eqb i c) (m i) 0

abbrev others : Marking → ℕ → Marking
others m c i = cond (eqb i c) 0 (m i)

module _ {V : Type 0} {d : Meaning V} (l : Laws d) (codes : List ℤ) where
  -- the value of the first i cells, and how large it can be: each has at most 65,535 tokens of weights of at most 1,000,000
  abbrev pub Summed : Marking → ℕ → V → Type 0
  Summed m i v = (v ≡ value_to d codes m i) × (d.size v ≤ 65535000000 * i)

  -- one cell more
  pub summed_more : (m : Marking) (i x : ℕ) (v r : V) → i < 1024 → x ≡ m i → x < 65536 → Summed m i v → Grown d v x (get_or codes i (pos 0)) r → Summed m (i + 1) r
  summed_more m i x v r h e small (is, size) g =
      let holds : d.holds v = subst d.holds (sym is) (value_holds l codes m i) in
      let larger = g.small holds in
      let sum : r ≡ d.plus v (copies d x (weight_of d codes i)) = g.exact (omega arith) in
      (rw add-one (sum ∙ ap (λ (y : V). d.plus y (copies d x (weight_of d codes i))) is ∙ ap (λ (k : ℕ). d.plus (value_to d codes m i) (copies d k (weight_of d codes i))) e), omega arith)

  -- the value of a marking is that of one cell and that of all others
  value_split : (m : Marking) (c : ℕ) → c < length codes → value_of d codes m ≡ d.plus (copies d (m c) (weight_of d codes c)) (value_of d codes (others m c))
  value_split m c h =
      value_same l codes m (λ i. alone m c i + others m c i) (length codes) (λ i _. parts (eqb i c) (m i))
      ∙ value_add l codes (alone m c) (others m c) (length codes)
      ∙ ap (λ (x : V). d.plus x (value_of d codes (others m c)))
      (value_one l codes (alone m c) c (length codes) h (λ i ne. ap (λ (b : Bool). cond b (m i) 0) (ne_eqb i c ne))
      ∙ ap (λ (b : Bool). copies d (cond b (m c) 0) (weight_of d codes c)) (eq-eqb c c refl))
    where
      parts : (b : Bool) (n : ℕ) → n ≡ cond b n 0 + cond b 0 n
      parts true n = omega arith
      parts false n = omega arith

  module _ {plain : V → Type 0} (p : PlainLaws d plain) (all : AllPlain d plain codes) where
    -- plain weights give plain values
    value_plain : (m : Marking) (k : ℕ) → k ≤ length codes → plain (value_to d codes m k)
    value_plain m zero h = p.plain_nil
    value_plain m (suc k) h =
        p.plain_plus (value_to d codes m k) (copies d (m k) (weight_of d codes k)) (value_plain m k (omega arith)) (copies_plain l p (m k) (weight_of d codes k) (all k (omega arith)))

    module _ (n : SystemNet) (cell : ℕ) (here : cell < length codes) where
      -- what a domain tells for plain values, it tells here
      pub tells_cap : (v w : V) (most : Option ℕ) → v ≡ value_of d codes (initial n) → w ≡ weight_of d codes cell → (plain v → plain w → Largest d plain v w most) → CapIs d plain codes n cell most
      tells_cap v w most ev ew f =
          let pv : plain v = subst plain (sym ev) (value_plain (initial n) (length codes) (omega arith)) in
          let pw : plain w = subst plain (sym ew) (all cell here) in
          subst (λ (x : V). Largest d plain x (weight_of d codes cell) most) ev (subst (λ (x : V). Largest d plain v x most) ew (f pv pw))

      -- a marking to which the initial value relates has as many copies of the cell's weight as tokens in the cell
      reaches : (m : Marking) → d.rel (value_of d codes (initial n)) (value_of d codes m) → Reaches d plain (value_of d codes (initial n)) (weight_of d codes cell) (m cell)
      reaches m r = (
        value_of d codes (others m cell),
        value_plain (others m cell) (length codes) (omega arith),
        subst (d.rel (value_of d codes (initial n))) (value_split m cell here) r,
      )

      pub bounded : (b c : ℕ) → CapIs d plain codes n cell (Some b) → Keeps d codes n (Ok c) → Bounded n cell b
      bounded b c told keeps m reach =
          ⊎_elim (λ (h : m cell ≤ b). h) (λ (h : b < m cell). absurd (told.1 (m cell) h (reaches m (keeps (initial n) m reach.0 reach.1)))) (either (m cell) b)
        where
          either : (a b : ℕ) → (a ≤ b) ⊎ (b < a)
          either a b = grind arith

-- a number that is answered is a bound
pub limits : {V : Type 0} {d : Meaning V} {plain : V → Type 0} → Laws d → PlainLaws d plain → (n : SystemNet) (claim cell : ℕ) (m k : Memory) (most : Option ℕ)
    → length k.codes ≡ 1024 → CapCalled d plain n claim cell m k (Ok most) → Limits n cell (Ok most)
limits l p n claim cell m k None long a = tt
limits l p n claim cell m k (Some b) long a =
    let c = a.0.within in
    bounded l k.codes p a.1 n cell (omega arith) b a.2.0 a.3 (a.2.1.4).keeps
