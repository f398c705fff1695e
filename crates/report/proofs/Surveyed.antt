-- The lines of the claims, from a survey.
use Rattle.std.proofs.Common.{◌≡◌, ℕ, zero, suc, ◌<◌, ◌≤◌, ◌⊎◌, List, [], ◌∷◌, ◌++◌, length, get_or, Ok, Err, sym, ap, ◌∙◌, subst, ⊎_elim, arith}
use mathlib.Core.Logic.{∥∥₁_elim}
use Rattle.std.proofs.Math.Bridge.{le_prop}
use Rattle.std.proofs.Math.Seq.{get_or-append_seam}
use Rattle.std.proofs.lemmas.List.{get_or_append_left}
use Rattle.lent.specs.Held.{held, memory}
use Rattle.lent.specs.declared.list.LentList.{LentList}
use Rattle.term.specs.declared.fault.Fault.{Fault}
use Rattle.term.specs.declared.fault.Fault.TheVariants as fault
use Rattle.net.specs.Of.{system}
use Rattle.net.specs.System.{SystemNet}
use Rattle.net.specs.declared.net.Net.{Net}
use Rattle.judge.specs.Calls.{Fits, Memory}
use Rattle.judge.specs.Kinds.{ByItsKind, Outcome}
use Rattle.judge.specs.Surveys.{AllJudged, Judges, SurveyCalled}
use Rattle.judge.proofs.Sheets.{judges_long}
use Rattle.report.specs.Lines.{claim_line}
use Rattle.report.specs.Report.{Adds, Answers, AreClaimLines, in_order, line}

-- the lines of claims with these outcomes
abbrev pub lines_of : List Outcome → List ℕ
lines_of os = in_order (λ i. line (claim_line i (get_or os i (Ok 0)))) (length os)

-- each outcome is what its claim is answered from some memory
judges_each : (n : SystemNet) (m k : Memory) (c : ℕ) (os : List Outcome) → Judges n m c k os → (i : ℕ) (d : Outcome) → i < c
    → Answers n i (get_or os i d)
unfolding Judges
judges_each n m k zero os j i d h = absurd (omega arith)
judges_each n m k (suc c) os j i d h =
    ⊎_elim
    (λ (l : i < c).
    let same : get_or os i d ≡ get_or j.1 i d = ap (λ (xs : List Outcome). get_or xs i d) j.3.2 ∙ get_or_append_left j.1 (j.2 ∷ []) d i (omega (arith, long)) in
    subst (Answers n i) (sym same) (judges_each n m j.0 c j.1 j.3.0 i d l))
    (λ (e : i ≡ c).
    let at : i ≡ length j.1 = omega (arith, long) in
    let same : get_or os i d ≡ j.2 = ap (λ (xs : List Outcome). get_or xs i d) j.3.2 ∙ ap (λ (x : ℕ). get_or (j.1 ++ j.2 ∷ []) x d) at ∙ get_or-append_seam j.1 j.2 [] d in
    subst (Answers n i) (sym same) (j.0, (k, subst (λ (x : ℕ). ByItsKind n x j.0 k (Ok j.2)) (sym e) j.3.1)))
    (before_or_last i c h)
  where
    long : length j.1 ≡ c
    long = judges_long n m j.0 c j.1 j.3.0

    before_or_last : (i c : ℕ) → i < suc c → (i < c) ⊎ (i ≡ c)
    before_or_last i c h = grind arith

-- a survey onto an empty sheet leaves there the verdicts of all claims
pub all_claims : (n : SystemNet) (m k : Memory) (s t : LentList Outcome) (xs : List Outcome) (old new : List ℕ) → held s ≡ []
    → AllJudged n m k s t (length n.claims) → xs ≡ held t → new ≡ old ++ lines_of xs → Adds (AreClaimLines n) old new
all_claims n m k s t xs old new empty a seen e =
    let os = a.outcomes in
    let same : xs ≡ os = seen ∙ a.noted.holds ∙ ap (λ (ys : List Outcome). ys ++ os) empty in
    let long : length xs ≡ length n.claims = ap length same ∙ judges_long n m k (length n.claims) os a.judged in (
      lines_of xs,
      record {
        outcome = λ i. get_or xs i (Ok 0);
        judged = λ i h. subst (λ (ys : List Outcome). Answers n i (get_or ys i (Ok 0))) (sym same) (judges_each n m k (length n.claims) os a.judged i (Ok 0) h);
        lines = ap (in_order (λ i. line (claim_line i (get_or xs i (Ok 0))))) long;
      },
      e,
    )

-- every net has at most sixteen claims
pub few_claims : (n : Net) → length (system n).claims ≤ 16
few_claims n = ∥∥₁_elim n.well_formed le_prop (λ s. s.few_claims)

-- on memory that fits and an empty sheet of sixteen, no survey is refused
pub never_refused : (n : Net) (m k : Memory) (s t : LentList Outcome) (e : Fault) → Fits m → held s ≡ [] → length (memory s) ≡ 16
    → SurveyCalled (system n) m k s t (Err e) → ⊥
never_refused n m k s t fault.Memory fits empty long h = h.0 fits
never_refused n m k s t fault.TrailFull fits empty long h = omega (arith, few_claims n, ap length empty, h.1)
never_refused n m k s t e fits empty long h = h
