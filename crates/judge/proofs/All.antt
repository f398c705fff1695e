-- What a test of every code tells of all codes.
use Rattle.std.proofs.Common.{ℕ, ◌<◌, Bool, true, false, List, ℤ, pos, length, MatchBool, get_or, rules}
use Rattle.std.specs.List.{AllWithin, HoldsAt}
use Rattle.domain.specs.Meaning.{Tells}

pub told : (P : ℤ → Type 0) (codes : List ℤ) (r : Bool) → MatchBool r (AllWithin P codes 0 (length codes)) ((k : ℕ) × (k < length codes) × HoldsAt (λ x. P x → ⊥) codes k)
    → Tells r ((k : ℕ) → k < length codes → P (get_or codes k (pos 0)))
told P codes true h = λ k l. search (rules, h)
told P codes false h = λ all. h.2 (pos 0) (all h.0 h.1)
