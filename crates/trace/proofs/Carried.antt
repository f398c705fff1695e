-- One command after the other on the bench.
use Rattle.std.proofs.Common.{◌≡◌, ℕ, ◌≤◌, List, [], ◌∷◌, ◌++◌, length, get_or, Ok, Err, Result, refl, subst, arith}
use Rattle.term.specs.declared.fault.Fault.{Fault}
use Rattle.net.specs.System.{SystemNet}
use Rattle.bench.specs.Calls.{FireCalled, Leads, Lent, marking}
use Rattle.bench.specs.Path.{Path, Small}
use Rattle.net.specs.Runs.{initial}
use Rattle.net.specs.declared.firing.Firing.{Firing}
use Rattle.term.specs.Worth.{Marking}
use mathlib.Core.Logic.{∥∥₁_elim}
use Rattle.std.proofs.Math.Bridge.{le_prop}
use Rattle.trace.specs.Carrying.{CarryCalled, Does, Done, Fitting}
use Rattle.trace.specs.Moves.{Move, fire}

-- four numbers, one by one
four : (m : List ℕ) → length m ≡ 4 → m ≡ get_or m 0 0 ∷ get_or m 1 0 ∷ get_or m 2 0 ∷ get_or m 3 0 ∷ []
four [] e = let z : ⊥ = omega arith in elim z [ ]
four (a ∷ []) e = let z : ⊥ = omega arith in elim z [ ]
four (a ∷ b ∷ []) e = let z : ⊥ = omega arith in elim z [ ]
four (a ∷ b ∷ c ∷ []) e = let z : ⊥ = omega arith in elim z [ ]
four (a ∷ b ∷ c ∷ d ∷ []) e = refl
four (a ∷ b ∷ c ∷ d ∷ x ∷ m) e = let z : ⊥ = omega arith in elim z [ ]

-- a fire, by its four mode numbers
pub fire_carried : (n : SystemNet) (t : ℕ) (m : List ℕ) (l k : Lent) (r : Result (Unit {0}) Fault) → length m ≡ 4 → (i : ℕ) → i ≡ t → FireCalled n (record { transition = i; mode = m }) l k r
    → CarryCalled n (fire t (get_or m 0 0) (get_or m 1 0) (get_or m 2 0) (get_or m 3 0)) l k r
fire_carried n t m l k (Ok u) h i e f = subst (λ (x : List ℕ). FireCalled n (record { transition = t; mode = x }) l k (Ok u)) (four m h) (subst (λ (x : ℕ). FireCalled n (record { transition = x; mode = m }) l k (Ok u)) e f)
fire_carried n t m l k (Err v) h i e f = subst (λ (x : List ℕ). FireCalled n (record { transition = t; mode = x }) l k (Err v)) (four m h) (subst (λ (x : ℕ). FireCalled n (record { transition = x; mode = m }) l k (Err v)) e f)

-- one command more
pub done_more : (n : SystemNet) (ms : List Move) (m : Move) (l x k : Lent) → Done n l ms x → Does n m x k → Fitting k → Done n l (ms ++ m ∷ []) k
done_more n [] m l x k e h f = (k, (subst (λ (y : Lent). Does n m y k) e h, f, refl))
done_more n (i ∷ ms) m l x k d h f = (d.0, (d.1.0, d.1.1, done_more n ms m d.0 x k d.1.2 h f))

-- a trail that leads to a marking shows that it fits sixteen bits
last_small : (n : SystemNet) (a : Marking) (fs : List Firing) (b : Marking) → Path n a fs b → Small b
last_small n a [] b p = p.1
last_small n a (f ∷ fs) b p = last_small n p.0 fs b p.1.2

pub fitting : (n : SystemNet) (l : Lent) → Leads n l → length l.trail ≤ length l.memory → Fitting l
fitting n l leads room = record { small = λ c h. ∥∥₁_elim leads le_prop (λ p. last_small n (initial n) l.trail (marking l) p c h); room = room }
