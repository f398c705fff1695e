-- Transitions, their guards and their arcs, as they are told.
use Rattle.std.proofs.Common.{◌≡◌, ℕ, ◌+◌, ◌-◌, ◌<◌, ◌≤◌, List, [], ◌∷◌, ◌++◌, length, sum_by, refl, arith}
use Rattle.std.specs.List.{All}
use Rattle.std.proofs.lemmas.List.{length_push, length-set}
use Rattle.std.proofs.lemmas.List.Elements.{All-nil, All-push}
use Rattle.std.proofs.lemmas.List.Sums.{sum_by_push}
use Rattle.format.specs.declared.command.Direction.{Direction}
use Rattle.format.specs.declared.command.Direction.TheVariants as direction
use Rattle.term.specs.Meaning.{Sig}
use Rattle.net.specs.Reading.{bare, guarded, linked, newest, renew}
use Rattle.net.specs.WellFormed.{IsTerm, WellFormedArc, WellFormedTransition, bytes_of, span}
use Rattle.net.specs.System.{Arc, Transition, arcs_in, most_arcs, most_transitions, no_transition}
use Rattle.net.proofs.Newest.{renew_all, renew_sum}
use Rattle.net.proofs.Operands.{Varied}

-- within the limits of transitions, which are well-formed, and of arcs
pub record Moves (s : Sig) (places : List ℕ) (ts : List Transition) : Type 0 where
  pub few : length ts ≤ most_transitions
  pub all : All (WellFormedTransition s places) ts
  pub few_arcs : sum_by arcs_in ts ≤ most_arcs

-- one arc more
linked_arcs : (d : Direction) (a : Arc) (t : Transition) → arcs_in (linked d a t) ≤ arcs_in t + 1
linked_arcs direction.In a t = omega (arith, length_push t.takes a)
linked_arcs direction.Out a t = omega (arith, length_push t.puts a)

module _ (s : Sig) (places : List ℕ) (ts : List Transition) (m : Moves s places ts) where
  -- before there are transitions, sorts, operations and places make no difference
  pub moves_before : length ts ≡ 0 → (sig : Sig) (others : List ℕ) → Moves sig others ts
  moves_before h sig others = record { few = m.few; all = λ i d l. let z : ⊥ = omega arith in absurd z; few_arcs = m.few_arcs }

  pub moves_transition : length ts < most_transitions → (v : List ℕ) → Varied s.sizes v → Moves s places (ts ++ bare s.sizes v ∷ [])
  moves_transition room v h = record {
    few = omega (arith, length_push ts (bare s.sizes v));
    all = All-push (WellFormedTransition s places) ts (bare s.sizes v) m.all (record {
      few = h.few;
      sorts = h.sorts;
      sizes = refl;
      modes = h.modes;
      guard = tt;
      takes = All-nil (WellFormedArc s places v);
      puts = All-nil (WellFormedArc s places v);
    });
    few_arcs = omega (arith, m.few_arcs, sum_by_push arcs_in ts (bare s.sizes v));
  }

  abbrev last : Transition
  last = newest ts no_transition

  abbrev fits : Transition → Type 0
  fits = WellFormedTransition s places

  same_number : (g : Transition → Transition) → length (renew ts no_transition g) ≤ most_transitions
  same_number g = omega (arith, m.few, length-set ts (length ts - 1) (g last))

  pub moves_guard : (t : List ℕ) → IsTerm s last.sorts 0 t → Moves s places (renew ts no_transition (guarded t))
  moves_guard t h = record {
    few = same_number (guarded t);
    all = renew_all no_transition (guarded t) fits ts m.all (λ f. record { few = f.few; sorts = f.sorts; sizes = f.sizes; modes = f.modes; guard = h; takes = f.takes; puts = f.puts });
    few_arcs = let k = renew_sum no_transition (guarded t) arcs_in ts 0 (omega arith) in omega (arith, m.few_arcs);
  }

  with_arc : (d : Direction) (a : Arc) → WellFormedArc s places last.sorts a → fits last → fits (linked d a last)
  with_arc direction.In a h f = record { few = f.few; sorts = f.sorts; sizes = f.sizes; modes = f.modes; guard = f.guard; takes = All-push (WellFormedArc s places last.sorts) last.takes a f.takes h; puts = f.puts }
  with_arc direction.Out a h f = record { few = f.few; sorts = f.sorts; sizes = f.sizes; modes = f.modes; guard = f.guard; takes = f.takes; puts = All-push (WellFormedArc s places last.sorts) last.puts a f.puts h }

  pub moves_arc : (d : Direction) (a : Arc) → sum_by arcs_in ts < most_arcs → WellFormedArc s places last.sorts a → Moves s places (renew ts no_transition (linked d a))
  moves_arc d a room h = record {
    few = same_number (linked d a);
    all = renew_all no_transition (linked d a) fits ts m.all (with_arc d a h);
    few_arcs = let k = renew_sum no_transition (linked d a) arcs_in ts 1 (linked_arcs d a last) in omega arith;
  }

-- how many bytes guards and bags have, after a command
pub bare_bytes : (sizes : List ℕ) (ts : List Transition) (v : List ℕ) → sum_by bytes_of (ts ++ bare sizes v ∷ []) ≡ sum_by bytes_of ts
bare_bytes sizes ts v = let e = sum_by_push bytes_of ts (bare sizes v) in omega arith

pub guard_bytes : (ts : List Transition) (t : List ℕ) → sum_by bytes_of (renew ts no_transition (guarded t)) ≤ sum_by bytes_of ts + length t
guard_bytes ts t = renew_sum no_transition (guarded t) bytes_of ts (length t) (omega arith)

linked_bytes : (d : Direction) (a : Arc) (t : Transition) → bytes_of (linked d a t) ≤ bytes_of t + length a.bag
linked_bytes direction.In a t = omega (arith, sum_by_push span t.takes a)
linked_bytes direction.Out a t = omega (arith, sum_by_push span t.puts a)

pub arc_bytes : (ts : List Transition) (d : Direction) (a : Arc) → sum_by bytes_of (renew ts no_transition (linked d a)) ≤ sum_by bytes_of ts + length a.bag
arc_bytes ts d a = renew_sum no_transition (linked d a) bytes_of ts (length a.bag) (linked_bytes d a (newest ts no_transition))
