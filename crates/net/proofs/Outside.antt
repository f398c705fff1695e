-- In a mode, the arcs of a transition put and take nothing where the net has no cell.
use Rattle.std.proofs.Common.{◌≡◌, ℕ, zero, suc, ◌-◌, ◌*◌, ◌/◌, ◌%◌, ◌<◌, ◌≤◌, ltb, leb, List, length, get_or, refl, ap, ◌∙◌, ⊎_elim, arith, leb-true, lt-ltb}
use Rattle.std.specs.List.{All}
use Rattle.std.proofs.lemmas.List.Sums.{sum_by-le}
use Rattle.std.proofs.lemmas.Bool.{cases_lt, cond_both, cond-true}
use Rattle.format.specs.Format.{depth, place_size, variable_size, variable_sizes}
use Rattle.format.specs.declared.command.Direction.{Direction}
use Rattle.term.specs.Meaning.{size, size_of}
use Rattle.net.specs.Nets.{HasCell, Mode, arcs_of, part, side, transition}
use Rattle.net.specs.WellFormed.{WellFormed, WellFormedArc, WellFormedTransition}
use Rattle.net.specs.System.{Arc, SystemNet, Transition, no_transition}
use Rattle.net.proofs.Anywhere.{anywhere}
use Rattle.net.proofs.Below as below
use Rattle.net.proofs.Bounds.{well_formed_side}

four_cases : (P : ℕ → Type 0) → P 0 → P 1 → P 2 → P 3 → (v : ℕ) → v < 4 → P v
four_cases P a b c e zero h = a
four_cases P a b c e (suc zero) h = b
four_cases P a b c e (suc (suc zero)) h = c
four_cases P a b c e (suc (suc (suc zero))) h = e
four_cases P a b c e (suc (suc (suc (suc v)))) h = let z : ⊥ = omega arith in absurd z

-- how many elements one of four variables has
sized : (sizes : List ℕ) (k : ℕ) (sorts : List ℕ) (v : ℕ) → v < 4 → get_or (variable_sizes sizes k sorts) v 0 ≡ variable_size sizes k v (get_or sorts v 0)
sized sizes k sorts = four_cases (λ v. get_or (variable_sizes sizes k sorts) v 0 ≡ variable_size sizes k v (get_or sorts v 0)) refl refl refl refl

module _ (n : SystemNet) (well_formed : WellFormed n) (m : List ℕ) (c : ℕ) (in-all : c < 1024) (lacks : HasCell n c → ⊥) where
  small : (k : ℕ) → size n.sig k ≤ 64
  small = anywhere (λ j. j ≤ 64) n.sig.sizes 0 well_formed.sizes (omega arith)

  -- what is no cell is outside the sort of every place
  outside_place : (p : ℕ) → p < length n.places → 64 * p ≤ c → size n.sig (get_or n.places p 0) ≤ c - 64 * p
  outside_place p known low = ⊎_elim
      (λ (l : c - 64 * p < size n.sig (get_or n.places p 0)).
      let s = small (get_or n.places p 0) in
      let row : c / 64 ≡ p = omega arith in
      let column : c % 64 ≡ c - 64 * p = omega arith in
      let is : place_size n.sig.sizes n.places (c / 64) ≡ size n.sig (get_or n.places p 0)
      = ap (place_size n.sig.sizes n.places) row ∙ cond-true (ltb p (length n.places)) (size_of n.sig.sizes (get_or n.places p 0)) 0 (lt-ltb p (length n.places) known) in
      absurd (lacks (record { within = in-all; element = omega (arith, is, column, l) })))
      (λ (g : size n.sig (get_or n.places p 0) ≤ c - 64 * p). g)
      (cases_lt (c - 64 * p) (size n.sig (get_or n.places p 0)))

  module _ (t : ℕ) (there : t < length n.transitions) (mode : Mode (transition n t).sizes m) where
    abbrev h : Transition
    h = transition n t

    fits : WellFormedTransition n.sig n.places h
    fits = well_formed.transitions t no_transition there

    in_mode : (v : ℕ) → v < length h.sorts → get_or m v 0 < size n.sig (get_or h.sorts v 0)
    in_mode v used =
        let f = fits.few in
        let low : v < 4 = omega arith in
        let kept : get_or m v 0 < get_or h.sizes v 0 = four_cases (λ k. get_or m k 0 < get_or h.sizes k 0) mode.first mode.second mode.third mode.fourth v low in
        let is : get_or h.sizes v 0 ≡ size n.sig (get_or h.sorts v 0)
        = ap (λ ns. get_or ns v 0) fits.sizes ∙ sized n.sig.sizes (length h.sorts) h.sorts v low ∙ cond-true (ltb v (length h.sorts)) (size_of n.sig.sizes (get_or h.sorts v 0)) 1 (lt-ltb _ _ used) in
        rw is at kept

    no_token : (a : Arc) → WellFormedArc n.sig n.places h.sorts a → part n m c a ≡ 0
    no_token a f =
        cond_both (leb (64 * a.place) c) _ _ (λ k. k ≡ 0)
        (λ low. below.outside n.sig well_formed.operations (omega (arith, well_formed.truths)) h.sorts m in_mode depth (get_or n.places a.place 0) (c - 64 * a.place) a.bag (outside_place a.place f.place (leb-true _ _ low)) f.bag.over) (λ _. refl)

    no_tokens : (xs : List Arc) → All (WellFormedArc n.sig n.places h.sorts) xs → side n m xs c ≡ 0
    no_tokens xs f = let none = sum_by-le (part n m c) 0 xs (λ i d l. let e = no_token _ (f i d l) in omega arith) in omega arith

    pub outside : (d : Direction) → side n m (arcs_of n t d) c ≡ 0
    outside d = no_tokens (arcs_of n t d) (well_formed_side n.sig n.places h d fits)
