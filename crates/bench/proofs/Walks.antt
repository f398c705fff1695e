-- Paths of firings: joined, split, one more at the end, the last one off; and the run that a path is.
use Rattle.std.proofs.Common.{◌≡◌, ℕ, ◌+◌, ◌-◌, List, [], ◌∷◌, ◌++◌, sym, refl, ap, ◌∙◌, arith}
use mathlib.Core.Bool.{Bool-set}
use mathlib.Core.Logic.{∥∥₁_elim, ∥∥₁_prop}
use native.Mathlib.Bridge.{le_prop}
use native.Mathlib.Nat.{ℕ_set}
use Rattle.term.specs.Worth.{Marking}
use Rattle.net.specs.declared.firing.Firing.{Firing}
use Rattle.net.specs.System.{SystemNet}
use Rattle.net.specs.Nets.{given, taken}
use Rattle.net.specs.Runs.{Alike, Reachable, Fires, Run, initial}
use Rattle.bench.specs.Calls.{Returns}
use Rattle.bench.specs.Path.{Led, Path, Small}

small-from : (a b : Marking) → Alike a b → Small b → Small a
small-from a b e s c h = let z = e c h in let y = s c h in omega arith

module _ (n : SystemNet) where
  fires-from : (t : ℕ) (m : List ℕ) (a b x : Marking) → Alike a b → Fires n t m b x → Fires n t m a x
  fires-from t m a b x e f = record {
    enabled = record { is_open = f.enabled.is_open; enough = λ c h. let s = e c h in let z = f.enabled.enough c h in omega arith };
    new = λ c h. f.new c h ∙ ap (λ z. z - taken n t m c + given n t m c) (sym (e c h));
  }

  fires-to : (t : ℕ) (m : List ℕ) (a b x : Marking) → Alike b x → Fires n t m a b → Fires n t m a x
  fires-to t m a b x e f = record { enabled = f.enabled; new = λ c h. sym (e c h) ∙ f.new c h }

  path-from : (a b : Marking) (fs : List Firing) (x : Marking) → Alike a b → Path n b fs x → Path n a fs x
  path-from a b [] x e p = ((λ c h. e c h ∙ p.0 c h), p.1)
  path-from a b (f ∷ fs) x e p = (p.0, (fires-from f.transition f.mode a b p.0 e p.1.0, small-from a b e p.1.1, p.1.2))

  path-to : (a : Marking) (fs : List Firing) (b x : Marking) → Alike b x → Path n a fs b → Path n a fs x
  path-to a [] b x e p = ((λ c h. p.0 c h ∙ e c h), small-from x b (λ c h. sym (e c h)) p.1)
  path-to a (f ∷ fs) b x e p = (p.0, (p.1.0, p.1.1, path-to p.0 fs b x e p.1.2))

  join : (a : Marking) (fs gs : List Firing) (x b : Marking) → Path n a fs x → Path n x gs b → Path n a (fs ++ gs) b
  join a [] gs x b p q = path-from a x gs b p.0 q
  join a (f ∷ fs) gs x b p q = (p.0, (p.1.0, p.1.1, join p.0 fs gs x b p.1.2 q))

  -- the markings at both ends fit sixteen bits
  small-first : (a : Marking) (fs : List Firing) (b : Marking) → Path n a fs b → Small a
  small-first a [] b p = small-from a b p.0 p.1
  small-first a (f ∷ fs) b p = p.1.1

  small-last : (a : Marking) (fs : List Firing) (b : Marking) → Path n a fs b → Small b
  small-last a [] b p = p.1
  small-last a (f ∷ fs) b p = small-last p.0 fs b p.1.2

  -- the marking between two parts of a path
  split : (a : Marking) (fs gs : List Firing) (b : Marking) → Path n a (fs ++ gs) b → (x : Marking) × (Path n a fs x × Path n x gs b)
  split a [] gs b p = (a, (((λ c h. refl), small-first a gs b p), p))
  split a (f ∷ fs) gs b p = let q = split p.0 fs gs b p.1.2 in (q.0, ((p.0, (p.1.0, p.1.1, q.1.0)), q.1.1))

  -- one firing
  one : (f : Firing) (a b : Marking) → Fires n f.transition f.mode a b → Small a → Small b → Path n a (f ∷ []) b
  one f a b h s z = (b, (h, s, ((λ c h. refl), z)))

  -- each part of a firing is a proposition
  firing : (t : ℕ) (m : List ℕ) (a b : Marking) → ∥ Fires n t m a b ∥₁ → Fires n t m a b
  firing t m a b p = record {
    enabled = record {
      is_open = record {
        there = ∥∥₁_elim p le_prop (λ f. f.enabled.is_open.there);
        mode = record {
          four = ∥∥₁_elim p (ℕ_set _ _) (λ f. f.enabled.is_open.mode.four);
          first = ∥∥₁_elim p le_prop (λ f. f.enabled.is_open.mode.first);
          second = ∥∥₁_elim p le_prop (λ f. f.enabled.is_open.mode.second);
          third = ∥∥₁_elim p le_prop (λ f. f.enabled.is_open.mode.third);
          fourth = ∥∥₁_elim p le_prop (λ f. f.enabled.is_open.mode.fourth);
        };
        guard = ∥∥₁_elim p (Bool-set _ _) (λ f. f.enabled.is_open.guard);
      };
      enough = λ c h. ∥∥₁_elim p le_prop (λ f. f.enabled.enough c h);
    };
    new = λ c h. ∥∥₁_elim p (ℕ_set _ _) (λ f. f.new c h);
  }

  -- the run that a path is: its markings follow from the firings
  run : (a : Marking) (fs : List Firing) (b : Marking) → ∥ Path n a fs b ∥₁ → Run n a fs b
  run a [] b p = λ c h. ∥∥₁_elim p (ℕ_set _ _) (λ q. q.0 c h)
  run a (f ∷ fs) b p =
      let t = f.transition in
      let m = f.mode in
      let x : Marking = λ c. a c - taken n t m c + given n t m c in (
        x,
        (
          firing t m a x (∥∥₁_elim p ∥∥₁_prop (λ q. ∣ fires-to t m a q.0 x q.1.0.new q.1.0 ∣₁)),
          run x fs b (∥∥₁_elim p ∥∥₁_prop (λ q. ∣ path-from x q.0 fs b (λ c h. sym (q.1.0.new c h)) q.1.2 ∣₁)),
        ),
      )

  -- a run with one firing more
  further : (a : Marking) (fs : List Firing) (x : Marking) (f : Firing) (b : Marking) → Run n a fs x → Fires n f.transition f.mode x b → Run n a (fs ++ f ∷ []) b
  further a [] x f b p h = (b, (fires-from f.transition f.mode a x b p h, λ c h. refl))
  further a (g ∷ fs) x f b p h = (p.0, (p.1.0, further p.0 fs x f b p.1.1 h))

  pub small : (fs : List Firing) (b : Marking) → Led n fs b → Small b
  small fs b p = λ c h. ∥∥₁_elim p le_prop (λ q. small-last (initial n) fs b q c h)

  pub reachable : (fs : List Firing) (b : Marking) → Led n fs b → Reachable n b
  reachable fs b p = (fs, run (initial n) fs b p)

  -- one firing later, too
  pub reachable-next : (fs : List Firing) (a : Marking) → Led n fs a → (f : Firing) (b : Marking) → Fires n f.transition f.mode a b → Reachable n b
  reachable-next fs a p f b h = (fs ++ f ∷ [], further (initial n) fs a f b (run (initial n) fs a p) h)

  pub more : (fs gs : List Firing) (f : Firing) (a b : Marking) → gs ≡ fs ++ f ∷ [] → Fires n f.transition f.mode a b → Small b → Led n fs a → Led n gs b
  more fs gs f a b e h s p =
      ∥∥₁_elim p ∥∥₁_prop (λ q. rw e (∣ join (initial n) fs (f ∷ []) a b q (one f a b h (small-last (initial n) fs a q) s) ∣₁))

  -- the last firing of a path, with the marking before it
  abbrev Last : List Firing → Firing → Marking → Type 0
  Last gs f b = (a : Marking) × (Path n (initial n) gs a × Fires n f.transition f.mode a b)

  last : (fs gs : List Firing) (f : Firing) (b : Marking) → fs ≡ gs ++ f ∷ [] → Path n (initial n) fs b → Last gs f b
  last fs gs f b e p =
      let q = split (initial n) gs (f ∷ []) b (rw e at p) in
      let r = q.1.1 in
      (q.0, (q.1.0, fires-to f.transition f.mode q.0 r.0 b r.1.2.0 r.1.0))

  module _ (fs gs : List Firing) (f : Firing) (b x : Marking) (e : fs ≡ gs ++ f ∷ []) (h : Returns n f b x) (p : Led n fs b) where
    is : (l : Last gs f b) → Alike x l.0
    is l = h l.0 (small-last (initial n) gs l.0 l.1.0) l.1.1

    pub led-back : Led n gs x
    led-back = ∥∥₁_elim p ∥∥₁_prop (λ q. let l = last fs gs f b e q in ∣ path-to (initial n) gs l.0 x (λ c h. sym (is l c h)) l.1.0 ∣₁)

    pub fired-back : Fires n f.transition f.mode x b
    fired-back =
        firing f.transition f.mode x b (∥∥₁_elim p ∥∥₁_prop (λ q. let l = last fs gs f b e q in ∣ fires-from f.transition f.mode x l.0 b (is l) l.1.1 ∣₁))
