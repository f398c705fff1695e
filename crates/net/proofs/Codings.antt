-- Claims and their codes, as they are told.
use Rattle.std.proofs.Common.{◌≡◌, ℕ, ◌+◌, ◌-◌, ◌*◌, ◌<◌, ◌≤◌, false, true, List, [], ◌∷◌, ◌++◌, length, get_or, set, ℤ, pos, arith, ◌∙◌}
use Rattle.std.specs.List.{All}
use Rattle.std.proofs.lemmas.List.{length_push, length-replicate, length-set}
use Rattle.std.proofs.lemmas.List.Elements.{All-push, All-replicate, All-set}
use Rattle.std.proofs.lemmas.Bool.{both_ways}
use Rattle.domain.specs.Kinds.{kind_weighs}
use Rattle.domain.specs.declared.kind.Kind.{Kind}
use Rattle.format.specs.Format.{place_size}
use Rattle.term.specs.Meaning.{size_of}
use Rattle.net.specs.declared.parts.Claim.{Claim}
use Rattle.net.specs.Nets.{no_claim}
use Rattle.net.specs.Reading.{coded, newest, put_row, renew, unweighted}
use Rattle.net.specs.System.{most_claims}
use Rattle.net.proofs.Cells.{alike, cell, changed_at, in_row, row_all, row_at, row_length, zero_weighs}
use Rattle.net.proofs.Newest.{renew_all}

-- a claim has 1,024 codes, weights of its kind, 0 where there is no cell
pub record Weighted (sizes places : List ℕ) (k : Claim) : Type 0 where
  pub long : length k.codes ≡ 1024
  pub weights : All (λ c. kind_weighs k.kind c ≡ true) k.codes
  pub none : (c : ℕ) → cell sizes places c ≡ false → get_or k.codes c (pos 0) ≡ pos 0

-- within the limit of claims
pub record Codings (sizes places : List ℕ) (claims : List Claim) : Type 0 where
  pub few : length claims ≤ most_claims
  pub all : All (Weighted sizes places) claims

module _ (sizes places : List ℕ) (claims : List Claim) (f : Codings sizes places claims) where
  -- before there are claims, sorts and places make no difference
  pub codings_before : length claims ≡ 0 → (others more : List ℕ) → Codings others more claims
  codings_before h others more = record { few = f.few; all = λ i d l. let z : ⊥ = omega arith in absurd z }

  pub codings_claim : length claims < most_claims → (k : Kind) → Codings sizes places (claims ++ unweighted k ∷ [])
  codings_claim room k = record {
    few = omega (arith, length_push claims (unweighted k));
    all = All-push (Weighted sizes places) claims (unweighted k) f.all (record {
      long = length-replicate 1024 (pos 0);
      weights = All-replicate (λ c. kind_weighs k c ≡ true) 1024 (pos 0) (zero_weighs k);
      none = λ c _. alike (pos 0) 1024 c;
    });
  }

  abbrev last : Claim
  last = newest claims no_claim

  -- other codes for the newest claim
  renewed : (g : List ℤ → List ℤ) → (Weighted sizes places last → Weighted sizes places (coded g last)) → Codings sizes places (renew claims no_claim (coded g))
  renewed g h = record { few = omega (arith, f.few, length-set claims (length claims - 1) (coded g last)); all = renew_all no_claim (coded g) (Weighted sizes places) claims f.all h }

  module _ (small : (k : ℕ) → size_of sizes k ≤ 64) (p : ℕ) (w : ℤ) (weighs : kind_weighs last.kind w ≡ true) where
    -- a cell of the place is none that is missing
    clash : (c : ℕ) → cell sizes places c ≡ false → 64 * p ≤ c → c < 64 * p + place_size sizes places p → w ≡ pos 0
    clash c missing low high = let z : ⊥ = both_ways (cell sizes places c) missing (in_row sizes places small p c low high) in absurd z

    pub codings_place : Codings sizes places (renew claims no_claim (coded (put_row p (place_size sizes places p) w)))
    codings_place =
        let k = place_size sizes places p in
        renewed (put_row p k w) (λ h. record {
          long = row_length last.codes p k w ∙ h.long;
          weights = row_all (λ c. kind_weighs last.kind c ≡ true) last.codes p k w weighs h.weights;
          none = λ c missing. row_at (λ v. v ≡ pos 0) last.codes p k w c (h.none c missing) (clash c missing);
        })

    pub codings_element : (e : ℕ) → e < place_size sizes places p → Codings sizes places (renew claims no_claim (coded (λ xs. set xs (64 * p + e) w)))
    codings_element e on = renewed (λ xs. set xs (64 * p + e) w) (λ h. record {
      long = length-set last.codes (64 * p + e) w ∙ h.long;
      weights = All-set (λ c. kind_weighs last.kind c ≡ true) last.codes (64 * p + e) w weighs h.weights;
      none = λ c missing. changed_at (λ v. v ≡ pos 0) (pos 0) last.codes (64 * p + e) w c (h.none c missing) (λ i. clash c missing (omega arith) (omega arith));
    })
