-- One turn of the check of a term.
use Rattle.std.proofs.Common.{◌≡◌, ℕ, zero, suc, ◌-◌, ◌<◌, ◌⊎◌, Bool, true, false, cond, ◌&&◌, eqb, ltb, leb, List, length, get_or, refl, ap, sym, ◌∙◌, ⊎_elim, arith, ne_eqb}
use Rattle.term.specs.declared.check.Checker.{Checker}
use Rattle.term.specs.declared.check.Head.{Head}
use Rattle.term.specs.declared.fault.Fault.TheVariants as fault
use Rattle.term.specs.declared.fault.FileFault.{FileFault}
use Rattle.term.specs.declared.signature.Arguments.{Arguments}
use Rattle.term.specs.declared.signature.Arguments.TheVariants as arguments
use Rattle.term.specs.Meaning.{of}
use Rattle.term.specs.Check.{Front, front, none, Checked, bad, done, head_at, check_term, parts, then, in_term, spot}
use Rattle.term.specs.Shape.{Passed}
use Rattle.term.proofs.Shapes.{Shape, head_shape, passed_leaf, passed_one, passed_two}

never : (p q : Bool) (a : Arguments) (r : List ℕ) (x y z : FileFault) → front a r ≡ cond p (cond q (none x) (none y)) (none z) → ⊥
never true true a r x y z h = cc
never true false a r x y z h = cc
never false q a r x y z h = cc

-- two parts are asked for, of the sorts a and b
abbrev pub Pair : Arguments → ℕ → ℕ → Type 0
Pair parts a b = (parts ≡ arguments.Two a b) ⊎ (parts ≡ arguments.More a b)

module _ (k : Checker) where
  -- the front of a term of at most the given depth
  abbrev front_at : ℕ → ℕ → List ℕ → Front
  front_at d want bs = head_at (of k.signature) k.variables.now (eqb d 0) want bs k.ends

  abbrev check : ℕ → ℕ → List ℕ → Checked
  check d want bs = check_term (of k.signature) k.variables.now k.ends d want bs

  shallow : (d want : ℕ) (bs : List ℕ) (f : Front) → f ≡ front_at (suc d) want bs → parts (check d) f ≡ check (suc d) want bs
  shallow d want bs f h = ap (parts (check d)) (h ∙ ap (λ z. head_at (of k.signature) k.variables.now z want bs k.ends) (ne_eqb (suc d) 0 (λ e. omega arith)))

  -- nothing is found past the depth
  deeper : (d want : ℕ) (bs : List ℕ) (a : Arguments) (r : List ℕ) → front a r ≡ front_at d want bs → 0 < d
  deeper zero want bs a r h =
      absurd (never (ltb 0 (length bs)) (leb 32 (get_or bs 0 0) && leb (get_or bs 0 0) 37) a r (in_term fault.Deep (spot bs k.ends 0)) (in_term fault.NoCommand (spot bs k.ends 0)) (in_term fault.Ends k.ends) h)
  deeper (suc d) want bs a r h = omega arith

  pub no_front : (d want : ℕ) (bs : List ℕ) (e : FileFault) → none e ≡ front_at d want bs → bad e ≡ check d want bs
  no_front zero want bs e h = ap (parts (λ t r. done r)) h
  no_front (suc d) want bs e h = shallow d want bs (none e) h

  -- the parts that a front asks for
  step : (d want : ℕ) (bs : List ℕ) (a : Arguments) (r : List ℕ) → front a r ≡ front_at d want bs → parts (check (d - 1)) (front a r) ≡ check d want bs
  step zero want bs a r h = let z : ⊥ = omega (arith, deeper zero want bs a r h) in absurd z
  step (suc d) want bs a r h = let e : suc d - 1 ≡ d = omega arith in ap (λ n. parts (check n) (front a r)) e ∙ shallow d want bs (front a r) h

  -- a front was read, and its parts are of the sorts a
  module _ (d want : ℕ) (bs : List ℕ) (h : Head) (value : front h.parts h.rest.now ≡ front_at d want bs) where
    pub deep : 0 < d
    deep = deeper d want bs h.parts h.rest.now value

    pub asks : (a : Arguments) → h.parts ≡ a → parts (check (d - 1)) (front a h.rest.now) ≡ check d want bs
    asks a is = step d want bs a h.rest.now (ap (λ x. front x h.rest.now) (sym is) ∙ value)

    -- the first of two parts was checked
    pub then_second : (a b : ℕ) (x : Checked) → Pair h.parts a b → x ≡ check (d - 1) a h.rest.now → then x (check (d - 1) b) ≡ check d want bs
    then_second a b x pair first = ap (λ t. then t (check (d - 1) b)) first ∙ ⊎_elim (asks (arguments.Two a b)) (asks (arguments.More a b)) pair

    abbrev passed : ℕ → ℕ → List ℕ → List ℕ → Type 0
    passed e w l r = Passed (of k.signature) k.variables.now e w l r

    shape_of : (a : Arguments) → h.parts ≡ a → Shape (of k.signature) k.variables.now want bs a h.rest.now
    shape_of a is = head_shape (of k.signature) k.variables.now want bs (eqb d 0) k.ends a h.rest.now (ap (λ x. front x h.rest.now) (sym is) ∙ value)

    pub shorter : length h.rest.now < length bs
    shorter = (shape_of h.parts refl).shorter

    -- more than two arguments have the shape of two
    shape_of_pair : (a b : ℕ) → Pair h.parts a b → Shape (of k.signature) k.variables.now want bs (arguments.Two a b) h.rest.now
    shape_of_pair a b = ⊎_elim (shape_of (arguments.Two a b)) (λ is. let x = shape_of (arguments.More a b) is in record { shorter = x.shorter; begun = x.begun })

    pub leaf : h.parts ≡ arguments.None → passed d want bs h.rest.now
    leaf is = passed_leaf (of k.signature) k.variables.now d want bs h.rest.now deep (shape_of _ is)

    pub unary : (a : ℕ) → h.parts ≡ arguments.One a → (q : List ℕ) → passed (d - 1) a h.rest.now q → passed d want bs q
    unary a is q p = passed_one (of k.signature) k.variables.now d want bs h.rest.now deep a q (shape_of _ is) p

    pub binary : (a b : ℕ) → Pair h.parts a b → (q t : List ℕ) → passed (d - 1) a h.rest.now q → passed (d - 1) b q t → passed d want bs t
    binary a b pair q t p u = passed_two (of k.signature) k.variables.now d want bs h.rest.now deep a b q t (shape_of_pair a b pair) p u
