-- The bags of a side are small.
use Rattle.std.proofs.Common.{◌≡◌, ℕ, ◌*◌, ◌≤◌, List, [], ◌∷◌, length, ℤ, ◌∙◌, arith}
use Rattle.std.proofs.lemmas.List.Sums.{sum_by-cons}
use Rattle.format.specs.declared.command.Direction.{Direction}
use Rattle.domain.specs.Meaning.{Laws, Meaning}
use Rattle.term.specs.Worth.{Marking, Weighs, value_of}
use Rattle.term.proofs.Loads.{few_tokens}
use Rattle.term.proofs.Sums.{value_holds}
use Rattle.net.specs.declared.net.Net.{Net}
use Rattle.net.specs.Nets.{arcs_of, bag_of}
use Rattle.format.specs.Format.{depth}
use Rattle.net.specs.Of.{system}
use Rattle.net.specs.System.{Arc, SystemNet}
use Rattle.net.proofs.Every.{short_arcs}
use Rattle.net.proofs.Sides.{load, part_load}
use Rattle.net.specs.WellFormed.{span, spans}
use Rattle.term.specs.Meaning.{largest_row, most_tokens}

module _ (n : SystemNet) where
  one_bag : (a : Arc) → most_tokens (bag_of n a) ≤ largest_row * span a
  one_bag a = let few = few_tokens n.sig depth a.bag in omega arith

  loaded : (xs : List Arc) → load n xs ≤ largest_row * spans xs
  loaded [] = omega arith
  loaded (a ∷ xs) = let h = loaded xs in let o = one_bag a in omega (arith, sum_by-cons (part_load n) a xs, sum_by-cons span a xs)

pub light : (n : Net) (t : ℕ) (d : Direction) → load (system n) (arcs_of (system n) t d) ≤ 4261478400
light n t d = let a = loaded (system n) (arcs_of (system n) t d) in let b = short_arcs n t d in omega arith

-- what is weighed from zero is the value
pub weighed : {V : Type 0} {d : Meaning V} (l : Laws d) (codes : List ℤ) (m : Marking) (w : ℕ) (r : V) → w ≤ 4261478400 → Weighs d codes d.nil m w r → r ≡ value_of d codes m
weighed {V} {d} l codes m w r few h =
    let z = l.size_nil in
    (h l.nil_holds (omega arith)).is ∙ l.neutral (value_of d codes m) (value_holds l codes m (length codes))
