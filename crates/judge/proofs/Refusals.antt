-- Why judging a claim is refused. By kind, on memory that fits, a claim of the net never is.
use Rattle.std.proofs.Common.{◌≡◌, ℕ, ◌<◌, ◌≤◌, length, pos, ◌≤ℤ◌, Err, Option, Result, sym, refl, ap, ◌∙◌, subst, ⊎_elim, arith}
use Rattle.domain.specs.Domains.{equal, modulo, never_rises, siphon, turned}
use Rattle.domain.specs.Meaning.{Meaning}
use Rattle.domain.specs.declared.kind.Kind.{Kind}
use Rattle.domain.specs.declared.kind.Kind.TheVariants as kind
use Rattle.term.specs.declared.fault.Fault.{Fault}
use Rattle.term.specs.declared.fault.Fault.TheVariants as fault
use Rattle.net.specs.Of.{system}
use Rattle.net.specs.System.{SystemNet}
use Rattle.net.specs.declared.net.Net.{Net}
use Rattle.net.specs.declared.parts.Claim.{Claim}
use Rattle.net.proofs.Every.{weights}
use Rattle.std.proofs.lemmas.List.{get_or_past}
use Rattle.std.proofs.lemmas.Bool.{cases_lt}
use Rattle.net.specs.Nets.{IsKind, claim_of, codes_of, no_claim}
use Rattle.judge.specs.Calls.{AllWeigh, Fits, JudgeCalled, Memory, SameLoans, lent}
use Rattle.judge.specs.Kinds.{ByItsKind, ByKind, KindCalled, NeverNoWeight, Outcome}
use Rattle.judge.specs.Caps.{AskedByItsKind, AskedByKind, CapCalled, NoCapCalled}
use Rattle.judge.specs.declared.judging.Judge.{Judge}

pub still_fits : (v w : Judge) → SameLoans v w → Fits (lent v) → Fits (lent w)
still_fits v w s f = record { codes_long = s.codes.long ∙ f.codes_long; before_long = s.before.long ∙ f.before_long; after_long = s.after.long ∙ f.after_long }

-- under a domain of which all the claim's codes are weights, none is found to be no weight
module _ {V : Type 0} (d : Meaning V) (n : SystemNet) (claim : ℕ) (m k : Memory) (all : AllWeigh d (codes_of n claim)) where
  called : JudgeCalled d n claim m k (Err fault.NoWeight) → ⊥
  called c = c.3 (subst (AllWeigh d) (sym c.2) all)

  pub judged : (r : Result Outcome Fault) → KindCalled d n claim m k r → NeverNoWeight r
  judged r b e = called (subst (λ (x : Result Outcome Fault). KindCalled d n claim m k x) e b)

  pub asked : (plain : V → Type 0) (cell : ℕ) (r : Result (Option ℕ) Fault) → CapCalled d plain n claim cell m k r → NeverNoWeight r
  asked plain cell r a e = called (subst (λ (x : Result (Option ℕ) Fault). CapCalled d plain n claim cell m k x) e a).1

its_kind : (n : SystemNet) (claim : ℕ) → claim < length n.claims → IsKind n claim (claim_of n claim).kind
its_kind n claim h = record { there = h; is = refl }

-- in a net in memory the codes of a claim are weights of its kind
module _ (n : Net) (claim : ℕ) (m k : Memory) where
  abbrev N : SystemNet
  N = system n

  pub kind_judged : (x : Kind) → IsKind N claim x → (r : Result Outcome Fault) → ByKind x N claim m k r → NeverNoWeight r
  kind_judged kind.Equal is r b = judged equal N claim m k (λ c h. weights n claim c kind.Equal is h) r b
  kind_judged kind.NeverRises is r b = judged never_rises N claim m k (λ c h. weights n claim c kind.NeverRises is h) r b
  kind_judged kind.NeverFalls is r b = judged (turned never_rises) N claim m k (λ c h. weights n claim c kind.NeverFalls is h) r b
  kind_judged (kind.Modulo x) is r b = judged (modulo x.k) N claim m k (λ c h. weights n claim c (kind.Modulo x) is h) r b
  kind_judged kind.Trap is r b = judged (turned siphon) N claim m k (λ c h. weights n claim c kind.Trap is h) r b
  kind_judged kind.Siphon is r b = judged siphon N claim m k (λ c h. weights n claim c kind.Siphon is h) r b

  -- a claim that is not there has the kind equal and no codes
  missing : length N.claims ≤ claim → (claim_of N claim).kind ≡ kind.Equal
  missing h = ap (λ (x : Claim). x.kind) (get_or_past N.claims claim no_claim h)

  no_codes : {V : Type 0} (d : Meaning V) → length N.claims ≤ claim → AllWeigh d (codes_of N claim)
  no_codes d h c l = let z = ap (λ (x : Claim). length x.codes) (get_or_past N.claims claim no_claim h) in absurd (omega arith)

  pub its_judged : (r : Result Outcome Fault) → ByItsKind N claim m k r → NeverNoWeight r
  its_judged r b = ⊎_elim
      (λ (h : claim < length N.claims). kind_judged (claim_of N claim).kind (its_kind N claim h) r b)
      (λ (h : length N.claims ≤ claim). judged equal N claim m k (no_codes equal h) r (subst (λ (x : Kind). ByKind x N claim m k r) (missing h) b))
      (cases_lt claim (length N.claims))

  -- the same of caps
  module _ (cell : ℕ) where
    blind : (r : Result (Option ℕ) Fault) → NoCapCalled N claim cell m k r → NeverNoWeight r
    blind r b e = (subst (λ (x : Result (Option ℕ) Fault). NoCapCalled N claim cell m k x) e b).0

    pub kind_asked : (x : Kind) → IsKind N claim x → (r : Result (Option ℕ) Fault) → AskedByKind x N claim cell m k r → NeverNoWeight r
    kind_asked kind.Equal is r a = asked equal N claim m k (λ c h. weights n claim c kind.Equal is h) (λ v. pos 0 ≤ℤ v) cell r a
    kind_asked kind.NeverRises is r a = asked never_rises N claim m k (λ c h. weights n claim c kind.NeverRises is h) (λ v. pos 0 ≤ℤ v) cell r a
    kind_asked kind.NeverFalls is r a = blind r a
    kind_asked (kind.Modulo x) is r a = blind r a
    kind_asked kind.Trap is r a = blind r a
    kind_asked kind.Siphon is r a = asked siphon N claim m k (λ c h. weights n claim c kind.Siphon is h) (λ v. Unit {0}) cell r a

    pub its_asked : (r : Result (Option ℕ) Fault) → AskedByItsKind N claim cell m k r → NeverNoWeight r
    its_asked r a = ⊎_elim
        (λ (h : claim < length N.claims). kind_asked (claim_of N claim).kind (its_kind N claim h) r a)
        (λ (h : length N.claims ≤ claim). asked equal N claim m k (no_codes equal h) (λ v. pos 0 ≤ℤ v) cell r (subst (λ (x : Kind). AskedByKind x N claim cell m k r) (missing h) a))
        (cases_lt claim (length N.claims))

-- on memory that fits, judging a claim of the net by kind is refused for no other reason
module _ (n : SystemNet) (claim : ℕ) (m k : Memory) (fits : Fits m) (there : claim < length n.claims) where
  by : {V : Type 0} (d : Meaning V) (e : Fault) → JudgeCalled d n claim m k (Err e) → e ≡ fault.NoWeight
  by d fault.NoWeight c = refl
  by d fault.Memory c = absurd (c.0 fits)
  by d fault.NoClaim c = let z = c.0.1 in absurd (omega arith)
  by d e c = absurd c

  by_kind : (x : Kind) (e : Fault) → ByKind x n claim m k (Err e) → e ≡ fault.NoWeight
  by_kind kind.Equal e b = by equal e b
  by_kind kind.NeverRises e b = by never_rises e b
  by_kind kind.NeverFalls e b = by (turned never_rises) e b
  by_kind (kind.Modulo x) e b = by (modulo x.k) e b
  by_kind kind.Trap e b = by (turned siphon) e b
  by_kind kind.Siphon e b = by siphon e b

  pub refused : (e : Fault) → ByItsKind n claim m k (Err e) → NeverNoWeight {A = Outcome} (Err e) → ⊥
  refused e b w = w (ap (λ (x : Fault). Err x) (by_kind (claim_of n claim).kind e b))
