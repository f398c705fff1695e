-- The cap of a cell, computed: the contract of caps by kind allows a result that shows it, and none that shows another.
use Rattle.std.proofs.Common.{◌≡◌, ℕ, suc, ◌/◌, ◌%◌, ◌<◌, Bool, true, false, cond, ◌&&◌, ltb, List, length, ℤ, pos, Some, None, Ok, Err, Option, Result, sym, refl, ap, ◌∙◌, subst, true≢false, arith, ltb-true, ltb-false}
use Rattle.domain.specs.Kinds.{kind_measures}
use Rattle.domain.specs.Meaning.{Meaning, Tells}
use Rattle.domain.specs.Measure.{Largest}
use Rattle.domain.specs.declared.kind.Kind.{Kind}
use Rattle.domain.specs.declared.kind.Kind.TheVariants as kind
use Rattle.format.specs.Format.{place_size}
use Rattle.term.specs.Worth.{value_of, weight_of}
use Rattle.term.specs.declared.fault.Fault.{Fault}
use Rattle.term.specs.declared.fault.Fault.TheVariants as fault
use Rattle.net.specs.Nets.{HasCell, codes_of}
use Rattle.net.specs.Runs.{initial}
use Rattle.net.specs.System.{SystemNet}
use Rattle.judge.specs.Calls.{AllWeigh, Fits, JudgeCalled, Memory}
use Rattle.judge.specs.Caps.{AllPlain, AskedByItsKind, AskedByKind, CapCalled, CapIs, NoCapCalled}
use Rattle.judge.specs.Judged.{Judged, Verdict}
use Rattle.judge.specs.declared.verdict.Breach.{Breach}
use Rattle.worked.specs.Rows.{Answer, Shows, cap_shown, refusal}
use Rattle.worked.proofs.Decided.{Values, domain_of, laws_of, largest, largest_is, plain, plain_is, plain_of}
use Rattle.worked.proofs.First.{order}
use Rattle.worked.proofs.Judging.{never}
use Rattle.worked.proofs.Values.{worth, worth_is}
use Rattle.worked.proofs.Verdicts.{Sound, both_true, called, every, every_is, kind_at, shows, verdict_by, verdict_judged, weights, weights_are}

-- whether the net has a cell
abbrev is_cell : SystemNet → ℕ → Bool
is_cell n c = ltb c 1024 && ltb (c % 64) (place_size n.sig.sizes n.places (c / 64))

cell_tells : (n : SystemNet) (c : ℕ) → Tells (is_cell n c) (HasCell n c)
cell_tells n c = by (ltb c 1024) (ltb (c % 64) (place_size n.sig.sizes n.places (c / 64))) refl refl
  where
    by : (p q : Bool) → ltb c 1024 ≡ p → ltb (c % 64) (place_size n.sig.sizes n.places (c / 64)) ≡ q → Tells (p && q) (HasCell n c)
    by true true e f = record { within = ltb-true _ _ e; element = ltb-true _ _ f }
    by true false e f = λ h. let z = ltb-false _ _ f in let y = h.element in omega arith
    by false q e f = λ h. let z = ltb-false _ _ e in let y = h.within in omega arith

-- the value of the initial marking
abbrev begun : (n : SystemNet) (claim : ℕ) (x : Kind) → Values x
begun n claim x = worth (domain_of x) (codes_of n claim) (initial n)

-- all weights and the value of the initial marking are plain
abbrev plains : SystemNet → ℕ → Kind → Bool
plains n claim x = every (λ c. plain x ((domain_of x).weight c)) (codes_of n claim) && plain x (begun n claim x)

-- the weight of the cell
abbrev weight : (n : SystemNet) (claim cell : ℕ) (x : Kind) → Values x
weight n claim cell x = weight_of (domain_of x) (codes_of n claim) cell

abbrev most_of : (n : SystemNet) (claim cell : ℕ) (x : Kind) → Option ℕ
most_of n claim cell x = largest x (begun n claim x) (weight n claim cell x)

-- the answer at a cell of the net, by the verdict
abbrev by_verdict : (n : SystemNet) (claim cell : ℕ) (x : Kind) → Verdict (Values x) → Option Answer
by_verdict n claim cell x (Ok c) = cond (plain x (weight n claim cell x)) (Some (cap_shown (Ok (most_of n claim cell x)))) None
by_verdict n claim cell x (Err y) = Some (refusal fault.NotAccepted)

-- a fault where the net has no such cell
abbrev at_cell : SystemNet → ℕ → Option Answer → Option Answer
at_cell n cell o = cond (is_cell n cell) o (Some (refusal fault.NoCell))

abbrev by_kind : SystemNet → ℕ → ℕ → Kind → Bool → Option Answer
by_kind n claim cell x true = cond (plains n claim x) (at_cell n cell (by_verdict n claim cell x (verdict_by n claim x))) None
by_kind n claim cell x false = at_cell n cell (Some (refusal fault.NotPlain))

abbrev answer : SystemNet → ℕ → ℕ → Kind → Option Answer
answer n claim cell x = cond (weights n claim x) (by_kind n claim cell x (kind_measures x)) None

abbrev pub capping : SystemNet → ℕ → ℕ → Option Answer
capping n claim cell = cond (ltb claim (length n.claims)) (answer n claim cell (kind_at n claim)) None

-- there is one largest number of copies
largest_one : {V : Type 0} (d : Meaning V) (p : V → Type 0) (v w : V) (a b : Option ℕ) → Largest d p v w a → Largest d p v w b → a ≡ b
largest_one d p v w (Some i) (Some j) a b = ap Some (order i j (λ h. a.1 j h b.0) (λ h. b.1 i h a.0))
largest_one d p v w (Some i) None a b = absurd (a.1 (suc i) (omega arith) (b (suc i)))
largest_one d p v w None (Some j) a b = absurd (b.1 (suc j) (omega arith) (a (suc j)))
largest_one d p v w None None a b = refl

-- what a call can answer where all weights are plain
module _ {V : Type 0} (d : Meaning V) (p : V → Type 0) (n : SystemNet) (claim cell : ℕ) where
  data Case : Result (Option ℕ) Fault → Type 0 where
    number : {most : Option ℕ} → HasCell n cell → (c : ℕ) → Judged d (codes_of n claim) n (Ok c) → CapIs d p (codes_of n claim) n cell most → Case (Ok most)
    no_cell : (HasCell n cell → ⊥) → Case (Err fault.NoCell)
    not_accepted : HasCell n cell → (x : Breach V) → Judged d (codes_of n claim) n (Err x) → Case (Err fault.NotAccepted)

  case_of : claim < length n.claims → AllWeigh d (codes_of n claim) → AllPlain d p (codes_of n claim) → (m k : Memory) → Fits m → (r : Result (Option ℕ) Fault) → CapCalled d p n claim cell m k r → Case r
  case_of there all natural m k fits (Ok most) (h, _, (c, called), cap) =
      number h c (subst (λ (x : List ℤ). Judged d x n (Ok c)) called.2 called.4.judged) (subst (λ (x : List ℤ). CapIs d p x n cell most) called.2 cap)
  case_of there all natural m k fits (Err fault.NoCell) a = no_cell a.0.2
  case_of there all natural m k fits (Err fault.NotAccepted) (h, _, (x, called)) = not_accepted h x (subst (λ (z : List ℤ). Judged d z n (Err x)) called.2 called.4.judged)
  case_of there all natural m k fits (Err fault.Memory) a = absurd (a.0 fits)
  case_of there all natural m k fits (Err fault.NoClaim) a = let h = a.0.1 in absurd (omega arith)
  case_of there all natural m k fits (Err fault.NoWeight) a = absurd (a.1.3 (subst (AllWeigh d) (sym a.1.2) all))
  case_of there all natural m k fits (Err fault.NotPlain) a = absurd (a.5 (subst (AllPlain d p) (sym a.3) natural))
  case_of there all natural m k fits (Err e) a = absurd a

  number_only : HasCell n cell → (c : ℕ) → Judged d (codes_of n claim) n (Ok c) → (most : Option ℕ) → CapIs d p (codes_of n claim) n cell most → (r : Result (Option ℕ) Fault) → Case r
      → cap_shown (Ok most) ≡ cap_shown r
  number_only h c j most t r (number g b i u) =
      ap (λ (x : Option ℕ). cap_shown (Ok x)) (largest_one d p (value_of d (codes_of n claim) (initial n)) (weight_of d (codes_of n claim) cell) most _ t u)
  number_only h c j most t r (no_cell g) = absurd (g h)
  number_only h c j most t r (not_accepted g x i) = absurd (never d (codes_of n claim) n c x j i)

  no_cell_only : (HasCell n cell → ⊥) → (r : Result (Option ℕ) Fault) → Case r → refusal fault.NoCell ≡ cap_shown r
  no_cell_only h r (number g b i u) = absurd (h g)
  no_cell_only h r (no_cell g) = refl
  no_cell_only h r (not_accepted g x i) = absurd (h g)

  not_accepted_only : HasCell n cell → (x : Breach V) → Judged d (codes_of n claim) n (Err x) → (r : Result (Option ℕ) Fault) → Case r → refusal fault.NotAccepted ≡ cap_shown r
  not_accepted_only h x j r (number g b i u) = absurd (never d (codes_of n claim) n b x i j)
  not_accepted_only h x j r (no_cell g) = absurd (g h)
  not_accepted_only h x j r (not_accepted g y i) = refl

-- what a call can answer by a kind that does not measure
module _ (n : SystemNet) (claim cell : ℕ) (there : claim < length n.claims) (m k : Memory) (fits : Fits m) where
  blind_only : HasCell n cell → (r : Result (Option ℕ) Fault) → NoCapCalled n claim cell m k r → refusal fault.NotPlain ≡ cap_shown r
  blind_only h (Ok most) b = absurd b
  blind_only h (Err fault.NotPlain) b = refl
  blind_only h (Err fault.NoCell) b = absurd (b.0.2 h)
  blind_only h (Err fault.Memory) b = absurd (b.0 fits)
  blind_only h (Err fault.NoClaim) b = let z = b.0.1 in absurd (omega arith)
  blind_only h (Err e) b = absurd b.0

  blind_no_cell : (HasCell n cell → ⊥) → (r : Result (Option ℕ) Fault) → NoCapCalled n claim cell m k r → refusal fault.NoCell ≡ cap_shown r
  blind_no_cell h (Ok most) b = absurd b
  blind_no_cell h (Err fault.NotPlain) b = absurd (h b.1)
  blind_no_cell h (Err fault.NoCell) b = refl
  blind_no_cell h (Err fault.Memory) b = absurd (b.0 fits)
  blind_no_cell h (Err fault.NoClaim) b = let z = b.0.1 in absurd (omega arith)
  blind_no_cell h (Err e) b = absurd b.0

-- a cap by kind is a cap under the kind's domain, where that measures
module _ (n : SystemNet) (claim cell : ℕ) (m k : Memory) (r : Result (Option ℕ) Fault) where
  sighted : (x : Kind) → kind_measures x ≡ true → AskedByKind x n claim cell m k r ≡ CapCalled (domain_of x) (plain_of x) n claim cell m k r
  sighted kind.Equal e = refl
  sighted kind.NeverRises e = refl
  sighted kind.NeverFalls e = absurd (true≢false (sym e))
  sighted (kind.Modulo z) e = absurd (true≢false (sym e))
  sighted kind.Trap e = absurd (true≢false (sym e))
  sighted kind.Siphon e = refl

  blind : (x : Kind) → kind_measures x ≡ false → AskedByKind x n claim cell m k r ≡ NoCapCalled n claim cell m k r
  blind kind.Equal e = absurd (true≢false e)
  blind kind.NeverRises e = absurd (true≢false e)
  blind kind.NeverFalls e = refl
  blind (kind.Modulo z) e = refl
  blind kind.Trap e = refl
  blind kind.Siphon e = absurd (true≢false e)

-- what the answer for a cell is to be
abbrev pub Capping : SystemNet → ℕ → ℕ → Answer → Type 0
Capping n claim cell a = Shows (AskedByItsKind n claim cell) cap_shown a

-- the answer computed is the answer
module _ (n : SystemNet) (claim cell : ℕ) (there : claim < length n.claims) (x : Kind) (of : x ≡ kind_at n claim) (fine : weights n claim x ≡ true) where
  -- under the domain of a kind that measures
  module _ (measures : kind_measures x ≡ true) (natural : plains n claim x ≡ true) where
    abbrev asked : Memory → Memory → Result (Option ℕ) Fault → Type 0
    asked m k r = CapCalled (domain_of x) (plain_of x) n claim cell m k r

    all_plain : AllPlain (domain_of x) (plain_of x) (codes_of n claim)
    all_plain c h =
        plain_is x (weight_of (domain_of x) (codes_of n claim) c) (every_is (λ z. plain x ((domain_of x).weight z)) (codes_of n claim) (pos 0) (both_true _ _ natural).0 c h)

    plain_in : {codes : List ℤ} → codes ≡ codes_of n claim → AllPlain (domain_of x) (plain_of x) codes
    plain_in e = subst (AllPlain (domain_of x) (plain_of x)) (sym e) all_plain

    answered : (v : Verdict (Values x)) → Judged (domain_of x) (codes_of n claim) n v → (m : Memory) → Fits m → (k : Memory) × JudgeCalled (domain_of x) n claim m k (Ok v)
    answered v j m fits = let f = weights_are n claim x fine in called (laws_of x) n claim there f.0 f.1 v j m fits

    told : plain x (weight n claim cell x) ≡ true → CapIs (domain_of x) (plain_of x) (codes_of n claim) n cell (most_of n claim cell x)
    told e =
        subst (λ (v : Values x). Largest (domain_of x) (plain_of x) v (weight n claim cell x) (most_of n claim cell x))
        (worth_is (laws_of x) (codes_of n claim) (initial n)) (largest_is x (begun n claim x) (weight n claim cell x) (both_true _ _ natural).1 e)

    by_asked : (r : Result (Option ℕ) Fault) → ((m : Memory) → Fits m → (k : Memory) × asked m k r)
        → ((s : Result (Option ℕ) Fault) → Case (domain_of x) (plain_of x) n claim cell s → cap_shown r ≡ cap_shown s) → Capping n claim cell (cap_shown r)
    by_asked r some only =
        shows (AskedByItsKind n claim cell) cap_shown asked
        (λ m k s. ap (λ (z : Kind). AskedByKind z n claim cell m k s) (sym of) ∙ sighted n claim cell m k s x measures) r some
        (λ m k s fits a. only s (case_of (domain_of x) (plain_of x) n claim cell there (weights_are n claim x fine).1 all_plain m k fits s a))

    on_verdict : HasCell n cell → (v : Verdict (Values x)) → Judged (domain_of x) (codes_of n claim) n v → Sound (Capping n claim cell) (by_verdict n claim cell x v)
    on_verdict h (Err y) j =
        by_asked (Err fault.NotAccepted) (λ m fits. let k = answered (Err y) j m fits in (k.0, (h, plain_in k.1.2, (y, k.1)))) (not_accepted_only (domain_of x) (plain_of x) n claim cell h y j)
    on_verdict h (Ok c) j = by_plain (plain x (weight n claim cell x)) refl
      where
        by_plain : (b : Bool) → plain x (weight n claim cell x) ≡ b → Sound (Capping n claim cell) (cond b (Some (cap_shown (Ok (most_of n claim cell x)))) None)
        by_plain false e = tt
        by_plain true e =
            let most = most_of n claim cell x in
            by_asked (Ok most)
            (λ m fits.
            let k = answered (Ok c) j m fits in
            (k.0, (h, plain_in k.1.2, (c, k.1), subst (λ (z : List ℤ). CapIs (domain_of x) (plain_of x) z n cell most) (sym k.1.2) (told e))))
            (number_only (domain_of x) (plain_of x) n claim cell h c j most (told e))

    on_cell : (b : Bool) → Tells b (HasCell n cell) → Sound (Capping n claim cell) (cond b (by_verdict n claim cell x (verdict_by n claim x)) (Some (refusal fault.NoCell)))
    on_cell true h = on_verdict h (verdict_by n claim x) (verdict_judged n claim x)
    on_cell false h = by_asked (Err fault.NoCell) (λ m fits. (m, ((fits, there, h), refl))) (no_cell_only (domain_of x) (plain_of x) n claim cell h)

  -- by a kind that does not measure
  module _ (blinded : kind_measures x ≡ false) where
    by_blind : (r : Result (Option ℕ) Fault) → ((m : Memory) → Fits m → (k : Memory) × NoCapCalled n claim cell m k r)
        → ((m k : Memory) (s : Result (Option ℕ) Fault) → Fits m → NoCapCalled n claim cell m k s → cap_shown r ≡ cap_shown s) → Capping n claim cell (cap_shown r)
    by_blind r some only =
        shows (AskedByItsKind n claim cell) cap_shown (NoCapCalled n claim cell)
        (λ m k s. ap (λ (z : Kind). AskedByKind z n claim cell m k s) (sym of) ∙ blind n claim cell m k s x blinded) r some only

    on_blind_cell : (b : Bool) → Tells b (HasCell n cell) → Sound (Capping n claim cell) (cond b (Some (refusal fault.NotPlain)) (Some (refusal fault.NoCell)))
    on_blind_cell true h =
        by_blind (Err fault.NotPlain) (λ m fits. (record { codes = codes_of n claim; before = m.before; after = m.after }, (fits, h, refl, refl, refl)))
        (λ m k s fits b. blind_only n claim cell there m k fits h s b)
    on_blind_cell false h = by_blind (Err fault.NoCell) (λ m fits. (m, ((fits, there, h), refl))) (λ m k s fits b. blind_no_cell n claim cell there m k fits h s b)

  on_kind : (b : Bool) → kind_measures x ≡ b → Sound (Capping n claim cell) (by_kind n claim cell x b)
  on_kind false e = on_blind_cell e (is_cell n cell) (cell_tells n cell)
  on_kind true e = on_plains (plains n claim x) refl
    where
      on_plains : (b : Bool) → plains n claim x ≡ b → Sound (Capping n claim cell) (cond b (at_cell n cell (by_verdict n claim cell x (verdict_by n claim x))) None)
      on_plains false f = tt
      on_plains true f = on_cell e f (is_cell n cell) (cell_tells n cell)

pub capping_sound : (n : SystemNet) (claim cell : ℕ) → Sound (Capping n claim cell) (capping n claim cell)
capping_sound n claim cell = on_claim (ltb claim (length n.claims)) refl
  where
    on_weights : (b : Bool) → claim < length n.claims → weights n claim (kind_at n claim) ≡ b → Sound (Capping n claim cell) (cond b (by_kind n claim cell (kind_at n claim) (kind_measures (kind_at n claim))) None)
    on_weights false h e = tt
    on_weights true h e = on_kind n claim cell h (kind_at n claim) refl e (kind_measures (kind_at n claim)) refl

    on_claim : (b : Bool) → ltb claim (length n.claims) ≡ b → Sound (Capping n claim cell) (cond b (answer n claim cell (kind_at n claim)) None)
    on_claim false e = tt
    on_claim true e = on_weights (weights n claim (kind_at n claim)) (ltb-true claim (length n.claims) e) refl
