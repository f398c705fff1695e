-- From what is counted cell by cell in memory to firings and their faults.
use Rattle.std.proofs.Common.{◌≡◌, ℕ, min, ◌+◌, ◌-◌, ◌/◌, ◌%◌, ◌<◌, ◌≤◌, Ok, Err, Result, get_or, refl, subst, ⊎_elim, arith}
use Rattle.std.proofs.lemmas.Bool.{cases_lt}
use Rattle.format.specs.Format.{place_size}
use Rattle.format.specs.declared.command.Direction.TheVariants as direction
use Rattle.lent.specs.declared.list.LentList.{LentList}
use Rattle.term.specs.Worth.{Marking}
use Rattle.term.specs.declared.fault.Fault.{Fault}
use Rattle.term.specs.declared.fault.Fault.TheVariants as fault
use Rattle.net.specs.declared.firing.Firing.{Firing}
use Rattle.net.specs.System.{SystemNet, cells}
use Rattle.net.specs.Nets.{HasCell, given, taken}
use Rattle.net.specs.Of.{system}
use Rattle.net.specs.Runs.{Bounded, Counted, Enabled, Fires, Open}
use Rattle.net.specs.declared.net.Net.{Net}
use Rattle.net.proofs.Every.{untouched}
use Rattle.bench.specs.Calls.{Checked, FireCalled, FireRefused, Lacking, Lent, Lowest, Nowhere, Passing, lent, marking}
use Rattle.bench.specs.Counted.{changed, largest_count, tokens}
use Rattle.bench.specs.Path.{Holdable, Led, NeverFull, Small}
use Rattle.bench.specs.declared.change.Change.{Change}
use Rattle.bench.specs.declared.counts.Counts.{Counts}
use Rattle.bench.proofs.Walks.{reachable-next, small}

module _ (n : SystemNet) (f : Firing) (k : Counts) (d : Change) (takes : Counted d.takes (taken n f.transition f.mode)) (puts : Counted d.puts (given n f.transition f.mode)) where
  enough : (c : ℕ) → c < cells → get_or d.takes c 0 ≤ tokens k c → taken n f.transition f.mode c ≤ tokens k c
  enough c l h = let e = takes c l in omega (arith, e, h)

  exact : (c : ℕ) → c < cells → changed k d c ≡ tokens k c - taken n f.transition f.mode c + given n f.transition f.mode c
  exact c l = let e = takes c l in let g = puts c l in omega (arith, e, g)

  lacks : (c : ℕ) → Checked k d (Err (fault.Lacks c)) → Lowest (Lacking n f (tokens k)) c
  lacks c h = record {
    within = h.0;
    here = let e = takes c h.0 in let z = h.1 in omega (arith, e, z);
    lower = λ i l p. let m : i < cells = omega (arith, l, h.0) in let z = enough i m (h.2 i l) in omega (arith, z, p);
  }

  able : Open n f.transition f.mode → ((c : ℕ) → c < cells → get_or d.takes c 0 ≤ tokens k c) → Enabled n f.transition f.mode (tokens k)
  able o h = record { is_open = o; enough = λ c l. enough c l (h c l) }

  none-passes : (c : ℕ) → c < cells → changed k d c ≤ largest_count → Passing n f (tokens k) c → ⊥
  none-passes c l h p = let z = exact c l in omega (arith, z, p, h)

  passes : (c : ℕ) → Checked k d (Err (fault.Full c)) → Lowest (Passing n f (tokens k)) c
  passes c h = record {
    within = h.1;
    here = let z = exact c h.1 in let y = h.2 in omega (arith, z, y);
    lower = λ i l p. let m : i < cells = omega (arith, l, h.1) in none-passes i m (h.3 i l) p;
  }

  pub enabled : Open n f.transition f.mode → Checked k d (Ok _) → Enabled n f.transition f.mode (tokens k)
  enabled o h = able o (λ c l. (h c l).0)

  pub room : Checked k d (Ok _) → Nowhere (Passing n f (tokens k))
  room h c l = none-passes c l (h c l).1

  pub refused : (l : LentList Firing) → Open n f.transition f.mode → (e : Fault) → Checked k d (Err e) → FireRefused n f (lent k l) e
  refused l o (fault.Lacks c) h = (o, lacks c h)
  refused l o (fault.Full c) h = (able o h.0, passes c h)
  refused l o e h = absurd h

  pub fires : Open n f.transition f.mode → Checked k d (Ok _) → (b : Marking) → ((c : ℕ) → c < cells → changed k d c ≤ largest_count → b c ≡ changed k d c) → Fires n f.transition f.mode (tokens k) b
  fires o h b new = record {
    enabled = enabled o h;
    new = λ c l. let z = exact c l in let y = new c l (h c l).1 in omega (arith, z, y);
  }

-- what fits sixteen bits is exact where it is held at the largest number of these
pub unheld : (k : Counts) (d : Change) (b : Marking) → ((c : ℕ) → c < cells → b c ≡ min (changed k d c) largest_count) → (c : ℕ) → c < cells → changed k d c ≤ largest_count → b c ≡ changed k d c
unheld k d b new c l h = let e = new c l in omega (arith, e, h)

-- once a change that was found to fit is made, the counts fit sixteen bits
pub small-after : (k : Counts) (d : Change) → Checked k d (Ok _) → (b : Marking) → ((c : ℕ) → c < cells → changed k d c ≤ largest_count → b c ≡ changed k d c) → Small b
small-after k d h b new c l = let z = (h c l).1 in let y = new c l (h c l).1 in omega (arith, z, y)

-- why a cell is found full, where the trail leads to the marking
module _ (net : Net) (f : Firing) (l : Lent) (p : Led (system net) l.trail (marking l)) (c : ℕ) (why : FireRefused (system net) f l (fault.Full c)) where
  abbrev n : SystemNet
  n = system net

  -- not where it has a bound that a bench can hold: held up by nothing else, the firing would lead within it
  in-bounds : (k : ℕ) → k ≤ largest_count → Bounded n c k → ⊥
  in-bounds k most limit =
      let t = f.transition in
      let m = f.mode in
      let b : Marking = λ x. marking l x - taken n t m x + given n t m x in
      let fires : Fires n t m (marking l) b = record { enabled = why.0; new = λ x i. refl } in
      let low = limit b (reachable-next n l.trail (marking l) p f b fires) in
      let high = why.1.here in
      let z : ⊥ = omega arith in
      z

  -- not where the net has no cell: no arc touches it
  outside : (HasCell n c → ⊥) → ⊥
  outside lacks =
      let o = why.0.is_open in
      let x : taken n f.transition f.mode c ≡ 0 = untouched net f.mode f.transition c direction.In o.there o.mode why.1.within lacks in
      let y : given n f.transition f.mode c ≡ 0 = untouched net f.mode f.transition c direction.Out o.there o.mode why.1.within lacks in
      let s = small n l.trail (marking l) p c why.1.within in
      let high = why.1.here in
      let z : ⊥ = omega (arith, x, y, s, high) in
      z

  nowhere : Holdable n → ⊥
  nowhere bounds = ⊎_elim
      (λ (h : c % 64 < place_size n.sig.sizes n.places (c / 64)).
      let b = bounds c (record { within = why.1.within; element = h }) in
      in-bounds b.0 b.1 b.2)
      (λ (h : place_size n.sig.sizes n.places (c / 64) ≤ c % 64). outside (λ x. let e = x.element in let z : ⊥ = omega (arith, e, h) in z))
      (cases_lt (c % 64) (place_size n.sig.sizes n.places (c / 64)))

pub never-full : (net : Net) (f : Firing) (l k : Lent) (r : Result (Unit {0}) Fault) → FireCalled (system net) f l k r → Led (system net) l.trail (marking l) → NeverFull (system net) r
never-full net f l k r h p bounds c is =
    nowhere net f l p c (subst (λ (x : Result (Unit {0}) Fault). FireCalled (system net) f l k x) is h).0 bounds
