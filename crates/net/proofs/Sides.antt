-- What arcs add, and at most how many tokens that is: one arc more.
use Rattle.std.proofs.Common.{◌≡◌, ℕ, ◌+◌, ◌<◌, List, length, get_or, map, sum_by, take, sym, ap, ◌∙◌}
use Rattle.std.proofs.lemmas.List.{get_or_default, map_more}
use Rattle.std.proofs.lemmas.List.Sums.{sum_by_push}
use Rattle.net.specs.declared.parts.Arc as parts
use Rattle.net.specs.Nets.{bag_of, part, side}
use Rattle.net.specs.System.{Arc, SystemNet, arc_told}
use Rattle.term.specs.Meaning.{most_tokens}

-- at most how many tokens an arc adds, and arcs together
abbrev pub part_load : SystemNet → Arc → ℕ
part_load n a = most_tokens (bag_of n a)

abbrev pub load : SystemNet → List Arc → ℕ
load n xs = sum_by (part_load n) xs

-- stands where an arc is missing
abbrev pub no_arc : parts.Arc
no_arc = record { place = 0; bag = record { from = 0; len = 0 } }

pub here : (xs : List parts.Arc) (i : ℕ) → i < length xs → get_or xs i no_arc ≡ get_or xs i (get_or xs i no_arc)
here xs i h = get_or_default xs i no_arc (get_or xs i no_arc) h

module _ (bytes : List ℕ) (xs : List parts.Arc) (i : ℕ) (a : parts.Arc) (h : i < length xs) (is : a ≡ get_or xs i a) where
  abbrev told : parts.Arc → Arc
  told = arc_told bytes

  -- the sum over what the arcs tell
  sum_more : (f : Arc → ℕ) → sum_by f (map told (take i xs)) + f (told a) ≡ sum_by f (map told (take (i + 1) xs))
  sum_more f =
      let before = map told (take i xs) in
      sym (ap (sum_by f) (map_more told xs i a h) ∙ sum_by_push f before (told (get_or xs i a)) ∙ ap (λ z. sum_by f before + f (told z)) (sym is))

  pub side_more : (n : SystemNet) (m : List ℕ) (c : ℕ) → side n m (map told (take i xs)) c + part n m c (told a) ≡ side n m (map told (take (i + 1) xs)) c
  side_more n m c = sum_more (part n m c)

  pub load_more : (n : SystemNet) → load n (map told (take i xs)) + part_load n (told a) ≡ load n (map told (take (i + 1) xs))
  load_more n = sum_more (part_load n)
