-- What well-formedness bounds: the bags and the tokens of one side of a firing, and the modes.
use Rattle.std.proofs.Common.{ℕ, ◌+◌, ◌-◌, ◌*◌, ◌≤◌, eqb, ltb, leb, List, [], ◌∷◌, length, ap, arith}
use Rattle.std.specs.List.{All, sum_by}
use Rattle.std.proofs.lemmas.List.{length-append}
use Rattle.std.proofs.lemmas.List.Elements.{All-nil, All-tail}
use Rattle.std.proofs.lemmas.List.Sums.{get_or-le-sum_by, sum_by-cons, sum_by-le}
use Rattle.std.proofs.lemmas.Bool.{cond_both}
use Rattle.format.specs.Format.{mode_count, most_modes}
use Rattle.format.specs.declared.command.Direction.{Direction}
use Rattle.format.specs.declared.command.Direction.TheVariants as direction
use Rattle.term.specs.Meaning.{Bag, Sig, Term, apply, bag_operation, both, constant, copies_in, count, empty, equal, flexible, negate, single, size, sum, value, variable}
use Rattle.net.specs.Nets.{arcs_of, bag_of, largest_side, part, side, transition}
use Rattle.net.specs.WellFormed.{WellFormed, WellFormedArc, WellFormedTransition, bytes_of, span, spans}
use Rattle.net.specs.System.{Arc, SystemNet, Transition, longest_file, most_transitions, no_transition, towards}
use Rattle.net.specs.Written.{bag_bytes, term_bytes}
use Rattle.net.proofs.Anywhere.{anywhere}
use Rattle.net.proofs.Below.{truth_below}

at_least_two : (s : Sig) (t : Term) → 2 ≤ length (term_bytes s t)
at_least_two s (variable v) = omega arith
at_least_two s (constant sort e) = omega arith
at_least_two s (apply k a b) = omega arith
at_least_two s (equal sort a b) = omega arith
at_least_two s (negate a) = let h = at_least_two s a in omega arith
at_least_two s (both a b) = let h = at_least_two s a in omega (arith, length-append (term_bytes s a) (term_bytes s b))

-- in one transition the bags that go one way are part of the bytes
one_side : (t : Transition) (d : Direction) → spans (towards d t.takes t.puts) ≤ bytes_of t
one_side t direction.In = omega arith
one_side t direction.Out = omega arith

-- the arcs that go one way are well-formed
pub well_formed_side : (s : Sig) (places : List ℕ) (t : Transition) (d : Direction) → WellFormedTransition s places t → All (WellFormedArc s places t.sorts) (towards d t.takes t.puts)
well_formed_side s places t direction.In h = h.takes
well_formed_side s places t direction.Out h = h.puts

-- the bags of a transition that go one way have no more bytes than the longest file
pub short_side : (n : SystemNet) → WellFormed n → (t : ℕ) (d : Direction) → spans (arcs_of n t d) ≤ longest_file
short_side n well_formed t d =
    let whole = anywhere (λ x. bytes_of x ≤ longest_file) n.transitions no_transition (λ i e h. let x = get_or-le-sum_by bytes_of n.transitions i e h in let y = well_formed.short in omega arith) (omega arith) t in
    let part = one_side (transition n t) d in
    omega arith

module _ (n : SystemNet) (well_formed : WellFormed n) (m : List ℕ) where
  few_copies : (k a e : ℕ) → copies_in n.sig (bag_operation n.sig k) a e ≤ 255
  few_copies k a e =
      let o = bag_operation n.sig k in
      cond_both (ltb e (size n.sig o.result)) _ _ (λ j. j ≤ 255)
      (λ _. anywhere (λ c. c ≤ 255) n.sig.tables 0 (λ i d h. let l = well_formed.tables i d h in omega arith) (omega arith) (o.table + (a * size n.sig o.result + e))) (λ _. omega arith)

  -- at most 255 of an element for each 4 bytes: no flexible arc is shorter, since its argument has two bytes at least
  many : (b : Bag) (e : ℕ) → 4 * count n.sig m b e ≤ 255 * length (bag_bytes n.sig b)
  many empty e = omega arith
  many (single t) e = let h = truth_below (eqb (value n.sig m t) e) in let l = at_least_two n.sig t in omega arith
  many (sum a b) e = let x = many a e in let y = many b e in omega (arith, length-append (bag_bytes n.sig a) (bag_bytes n.sig b))
  many (flexible k t) e = let h = few_copies k (value n.sig m t) e in let l = at_least_two n.sig t in omega arith

  one_arc : (places vars : List ℕ) (a : Arc) (c : ℕ) → WellFormedArc n.sig places vars a → 4 * part n m c a ≤ 255 * span a
  one_arc places vars a c h =
      let e = ap length h.bag.bytes in
      cond_both (leb (64 * a.place) c) _ _ (λ k. 4 * k ≤ 255 * span a) (λ _. let x = many (bag_of n a) (c - 64 * a.place) in omega arith) (λ _. omega arith)

  all_arcs : (places vars : List ℕ) (xs : List Arc) (c : ℕ) → All (WellFormedArc n.sig places vars) xs → 4 * side n m xs c ≤ 255 * spans xs
  all_arcs places vars [] c h = omega arith
  all_arcs places vars (a ∷ xs) c h =
      let x = one_arc places vars a c (h 0 a (omega arith)) in
      let y = all_arcs places vars xs c (All-tail (WellFormedArc n.sig places vars) a xs h) in
      omega (arith, sum_by-cons (part n m c) a xs, sum_by-cons span a xs)

  pub few : (t c : ℕ) (d : Direction) → side n m (arcs_of n t d) c ≤ largest_side
  few t c d =
      let sorts = (transition n t).sorts in
      let arcs = anywhere (λ x. All (WellFormedArc n.sig n.places x.sorts) (towards d x.takes x.puts)) n.transitions no_transition (λ i e h. well_formed_side n.sig n.places _ d (well_formed.transitions i e h)) (none d) t in
      let x = all_arcs n.places sorts (arcs_of n t d) c arcs in
      let y = short_side n well_formed t d in
      omega arith
    where
      none : (d : Direction) → All (WellFormedArc n.sig n.places []) (towards d [] [])
      none direction.In = All-nil (WellFormedArc n.sig n.places [])
      none direction.Out = All-nil (WellFormedArc n.sig n.places [])

-- the modes of all transitions
pub few_modes : (n : SystemNet) → WellFormed n → sum_by (λ t. mode_count t.sizes) n.transitions ≤ most_transitions * most_modes
few_modes n well_formed =
    let x = sum_by-le (λ t. mode_count t.sizes) most_modes n.transitions (λ i d h. (well_formed.transitions i d h).modes) in
    let y = well_formed.few_transitions in
    omega arith
