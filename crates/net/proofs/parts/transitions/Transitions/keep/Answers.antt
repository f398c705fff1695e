use Rattle.std.proofs.Common.{◌≡◌, ◌++◌, ℕ, List, map, vec_items, ap, ◌∙◌, rules}
use Rattle.net.specs.System.{transition_told}
use Rattle.net.proofs.Extents.{all_bytes}
use Rattle.net.proofs.parts.transitions.Transitions.keep.Goals as goal

pub returns-clause-told : goal.returns-clause-told
returns-clause-told c =
    let s = c.args.self.now in
    let takes = vec_items s.takes in
    let puts = vec_items s.puts in
    let more : vec_items c.extend_from_slice.new.self ≡ vec_items s.bytes ++ c.args.bytes.now = search rules in
    ap (λ (b : List ℕ). map (transition_told takes puts b) (vec_items s.list)) more ∙ all_bytes takes puts (vec_items s.bytes) c.args.bytes.now s.in_place.taken s.in_place.put (vec_items s.list) s.in_place.each
