-- The meanings of the domains: whole numbers, residues and truth values, and a domain turned.
use Rattle.std.specs.Prelude.{◌≡◌, ℕ, ◌+◌, ◌%◌, ◌<◌, ◌≤◌, Bool, true, false, cond, ◌&&◌, ◌||◌, ℤ, pos, negsuc, ◌+ℤ◌, neg_ℤ, ◌≤ℤ◌, ◌==◌, int_le, nat_lt, unsigned_abs}
use Rattle.domain.specs.Meaning.{Meaning, largest_weight}

-- the codes of whole numbers: both signs, up to the largest weight
abbrev pub whole_code : ℤ → Bool
whole_code c = int_le (neg_ℤ (pos largest_weight)) c && int_le c (pos largest_weight)

-- a code of a whole number stands for itself
abbrev pub whole_weight : ℤ → ℤ
whole_weight c = cond (whole_code c) c (pos 0)

-- whole numbers under addition, with any relation
abbrev pub whole : (ℤ → ℤ → Type 0) → Meaning ℤ
whole rel = record {
  holds = λ _. Unit {0};
  nil = pos 0;
  plus = ◌+ℤ◌;
  rel = rel;
  size = unsigned_abs;
  weighs = whole_code;
  weight = whole_weight;
}

-- the value stays the same
abbrev pub equal : Meaning ℤ
equal = whole (λ v w. v ≡ w)

-- the value never rises: the second is at most the first
abbrev pub never_rises : Meaning ℤ
never_rises = whole (λ v w. w ≤ℤ v)

-- the largest modulus
abbrev pub largest_modulus : ℕ
largest_modulus = 65535

-- a number that residues may be taken by: by 0 there are none, and by 1 all are 0
abbrev pub IsModulus : ℕ → Type 0
IsModulus k = (2 ≤ k) × (k ≤ largest_modulus)

-- the codes of residues: 0 to k - 1
abbrev pub residue_code : ℕ → ℤ → Bool
residue_code k (pos n) = nat_lt n k
residue_code k (negsuc n) = false

-- a code of a residue stands for itself
abbrev pub residue_weight : ℕ → ℤ → ℕ
residue_weight k c = cond (residue_code k c) (unsigned_abs c) 0

-- the residues modulo k; the value stays the same
abbrev pub modulo : ℕ → Meaning ℕ
modulo k = record {
  holds = λ v. v < k;
  nil = 0;
  plus = λ v w. (v + w) % k;
  rel = λ v w. v ≡ w;
  size = λ _. 0;
  weighs = residue_code k;
  weight = residue_weight k;
}

-- the codes of truth values: 0 and 1
abbrev pub truth_code : ℤ → Bool
truth_code (pos n) = nat_lt n 2
truth_code (negsuc n) = false

-- the code 1 stands for true
abbrev pub truth_weight : ℤ → Bool
truth_weight (pos n) = n == 1
truth_weight (negsuc n) = false

-- truth values added by "or"; what was false stays false
abbrev pub siphon : Meaning Bool
siphon = record {
  holds = λ _. Unit {0};
  nil = false;
  plus = ◌||◌;
  rel = λ v w. w ≡ true → v ≡ true;
  size = λ _. 0;
  weighs = truth_code;
  weight = truth_weight;
}

-- the relation read backwards
abbrev pub turned : {V : Type 0} → Meaning V → Meaning V
turned d = record {
  holds = d.holds;
  nil = d.nil;
  plus = d.plus;
  rel = λ v w. d.rel w v;
  size = d.size;
  weighs = d.weighs;
  weight = d.weight;
}
