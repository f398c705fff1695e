-- Adding tokens to counts in memory and to values: the laws of both.
use Rattle.std.specs.Prelude.{◌≡◌, ℕ, zero, suc, ◌+◌, ◌-◌, ◌*◌, ◌^◌, ◌<◌, ◌≤◌, min, Bool, true, false, cond, List, length, ℤ, pos, nat_le, slice_index, slice_index_or, refl}
use Rattle.std.proofs.Common.{sym, ap, ◌∙◌, subst, arith}
use Rattle.domain.specs.Meaning.{Laws, Meaning, copies}
use Rattle.domain.proofs.Copies.{copies_add, copies_holds, exchange}
use Rattle.term.specs.declared.tally.Weighed.{Weighed}
use Rattle.term.specs.Counts.{Added}
use Rattle.term.specs.Tally.{Adds, CountGains, Words, WeightGains}
use Rattle.term.specs.Worth.{Marking, Weighs, on_place, value_of, value_to, weight_of}

module _ {V : Type 0} {d : Meaning V} (l : Laws d) where
  -- zero on the right is neutral too
  pub neutral_right : (v : V) → d.holds v → d.plus v d.nil ≡ v
  neutral_right v h = l.comm v d.nil h l.nil_holds ∙ l.neutral v h

  module _ (codes : List ℤ) where
    pub weight_holds : (c : ℕ) → d.holds (weight_of d codes c)
    weight_holds c = l.weight_holds (slice_index_or codes c (pos 0))

    pub cell_holds : (m : Marking) (c : ℕ) → d.holds (copies d (m c) (weight_of d codes c))
    cell_holds m c = copies_holds l (m c) (weight_of d codes c) (weight_holds c)

    pub value_holds : (m : Marking) (k : ℕ) → d.holds (value_to d codes m k)
    value_holds m zero = l.nil_holds
    value_holds m (suc k) = l.plus_holds (value_to d codes m k) (copies d (m k) (weight_of d codes k)) (value_holds m k) (cell_holds m k)

    pub value_add : (a b : Marking) (k : ℕ) → value_to d codes (λ c. a c + b c) k ≡ d.plus (value_to d codes a k) (value_to d codes b k)
    value_add a b zero = sym (l.neutral d.nil l.nil_holds)
    value_add a b (suc k) =
        ap (λ (x : V). d.plus x (copies d (a k + b k) (weight_of d codes k))) (value_add a b k)
        ∙ ap (d.plus (d.plus (value_to d codes a k) (value_to d codes b k))) (copies_add l (a k) (b k) (weight_of d codes k) (weight_holds k))
        ∙ exchange l (value_to d codes a k) (value_to d codes b k) (copies d (a k) (weight_of d codes k)) (copies d (b k) (weight_of d codes k)) (value_holds a k) (value_holds b k) (cell_holds a k) (cell_holds b k)

    pub value_same : (a b : Marking) (k : ℕ) → ((c : ℕ) → c < k → a c ≡ b c) → value_to d codes a k ≡ value_to d codes b k
    value_same a b zero e = refl
    value_same a b (suc k) e =
        ap (λ (x : V). d.plus x (copies d (a k) (weight_of d codes k))) (value_same a b k (λ c h. e c (omega arith)))
        ∙ ap (λ (n : ℕ). d.plus (value_to d codes b k) (copies d n (weight_of d codes k))) (e k (omega arith))

    -- no tokens are worth nothing
    pub value_none : (m : Marking) (k : ℕ) → ((c : ℕ) → c < k → m c ≡ 0) → value_to d codes m k ≡ d.nil
    value_none m zero e = refl
    value_none m (suc k) e =
        ap (λ (n : ℕ). d.plus (value_to d codes m k) (copies d n (weight_of d codes k))) (e k (omega arith))
        ∙ neutral_right (value_to d codes m k) (value_holds m k) ∙ value_none m k (λ c h. e c (omega arith))

    -- nothing is added
    pub weighs_nothing : (v : V) (m : Marking) (n : ℕ) → ((c : ℕ) → c < length codes → m c ≡ 0) → Weighs d codes v m n v
    weighs_nothing v m n e h s = record {
      is = sym (ap (d.plus v) (value_none m (length codes) e) ∙ neutral_right v h);
      holds = h;
      size = omega arith;
    }

    -- one after the other
    pub weighs_after : (v r t : V) (a b : Marking) (i j : ℕ) → Weighs d codes v a i r → Weighs d codes r b j t → Weighs d codes v (λ c. a c + b c) (i + j) t
    weighs_after v r t a b i j p q h s =
        let x = p h (omega arith) in
        let z = x.size in
        let y = q x.holds (omega arith) in
        let w = y.size in
        record {
          is = y.is ∙ ap (λ (u : V). d.plus u (value_of d codes b)) x.is
              ∙ l.assoc v (value_of d codes a) (value_of d codes b) h (value_holds a (length codes)) (value_holds b (length codes))
              ∙ ap (d.plus v) (sym (value_add a b (length codes)));
          holds = y.holds;
          size = omega arith;
        }

    -- the same marking, and perhaps fewer tokens than allowed for
    pub weighs_alike : (v r : V) (a b : Marking) (i j : ℕ) → ((c : ℕ) → c < length codes → a c ≡ b c) → i ≤ j → Weighs d codes v a i r → Weighs d codes v b j r
    weighs_alike v r a b i j same few p h s =
        let x = p h (omega arith) in
        let z = x.size in
        record {
          is = x.is ∙ ap (d.plus v) (value_same a b (length codes) same);
          holds = x.holds;
          size = omega arith;
        }

-- on a place: the sum, the same, one element
pub place_sum : (p : ℕ) (f g : ℕ → ℕ) (c : ℕ) → on_place p f c + on_place p g c ≡ on_place p (λ e. f e + g e) c
place_sum p f g c = by (nat_le (64 * p) c)
  where
    by : (b : Bool) → cond b (f (c - 64 * p)) 0 + cond b (g (c - 64 * p)) 0 ≡ cond b (f (c - 64 * p) + g (c - 64 * p)) 0
    by true = refl
    by false = refl

pub place_same : (p : ℕ) (f g : ℕ → ℕ) → ((e : ℕ) → f e ≡ g e) → (c : ℕ) → on_place p f c ≡ on_place p g c
place_same p f g same c = ap (λ n. cond (nat_le (64 * p) c) n 0) (same (c - 64 * p))

pub place_none : (p : ℕ) (f : ℕ → ℕ) → ((e : ℕ) → f e ≡ 0) → (c : ℕ) → on_place p f c ≡ 0
place_none p f none c = place_same p f (λ e. 0) none c ∙ by (nat_le (64 * p) c)
  where
    by : (b : Bool) → ◌≡◌ {A = ℕ} (cond b 0 0) 0
    by true = refl
    by false = refl

-- the same of the elements of one place
module _ {V : Type 0} {d : Meaning V} (l : Laws d) (codes : List ℤ) (p : ℕ) where
  pub nothing_on : (v : V) (f : ℕ → ℕ) (n : ℕ) → ((e : ℕ) → f e ≡ 0) → Weighs d codes v (on_place p f) n v
  nothing_on v f n none = weighs_nothing l codes v (on_place p f) n (λ c h. place_none p f none c)

  pub after_on : (v r t : V) (f g : ℕ → ℕ) (i j : ℕ) → Weighs d codes v (on_place p f) i r → Weighs d codes r (on_place p g) j t → Weighs d codes v (on_place p (λ e. f e + g e)) (i + j) t
  after_on v r t f g i j a b =
      weighs_alike l codes v t (λ c. on_place p f c + on_place p g c) (on_place p (λ e. f e + g e)) (i + j) (i + j) (λ c h. place_sum p f g c) (omega arith)
      (weighs_after l codes v r t (on_place p f) (on_place p g) i j a b)

  pub alike_on : (v r : V) (f g : ℕ → ℕ) (i j : ℕ) → ((e : ℕ) → f e ≡ g e) → i ≤ j → Weighs d codes v (on_place p f) i r → Weighs d codes v (on_place p g) j r
  alike_on v r f g i j same few a = weighs_alike l codes v r (on_place p f) (on_place p g) i j (λ c h. place_same p f g same c) few a

-- nothing is added to counts
pub unchanged : (xs : List ℕ) (base : ℕ) → Words xs → Added xs xs base (λ e. 0)
unchanged xs base fits = record {
  below = λ c h. refl;
  row = λ e h. let z = fits (base + e) in grind (arith, z);
}

-- one after the other
pub after : (a b c : List ℕ) (base : ℕ) (f g : ℕ → ℕ) → length b ≡ length a → Added a b base f → Added b c base g → Added a c base (λ e. f e + g e)
after a b c base f g l p q = record {
  below = λ i h. q.below i h ∙ p.below i h;
  row = λ e h. let x = p.row e h in let y = q.row e (omega arith) in grind (arith, x, y);
}

-- the same, added
pub alike : (a b : List ℕ) (base : ℕ) (f g : ℕ → ℕ) → ((e : ℕ) → f e ≡ g e) → Added a b base f → Added a b base g
alike a b base f g same p = record {
  below = p.below;
  row = λ e h. p.row e h ∙ ap (λ n. min (slice_index a (base + e) + n) (2 ^ 32 - 1)) (same e);
}

pub counts_add : Adds CountGains
counts_add = record {
  nothing = λ a. record { place = refl; same = refl; long = refl; added = λ w. (w, unchanged a.counts.now (64 * a.place) w) };
  after = λ a b c f g i j p q. record {
    place = q.place ∙ p.place;
    same = q.same ∙ p.same;
    long = q.long ∙ p.long;
    added = λ w.
        let x = p.added w in
        let y = q.added x.0 in
        (y.0, after a.counts.now b.counts.now c.counts.now (64 * a.place) f g p.long x.1 (subst (λ (k : ℕ). Added b.counts.now c.counts.now (64 * k) g) p.place y.1));
  };
  alike = λ a b f g i j same few p. record {
    place = p.place;
    same = p.same;
    long = p.long;
    added = λ w. let x = p.added w in (x.0, alike a.counts.now b.counts.now (64 * a.place) f g same x.1);
  };
}

module _ {W V : Type 0} (meaning : W → Meaning V) (lawful : (w : W) → Laws (meaning w)) where
  -- what is weighed by equal weights
  moved : (a b : Weighed W V) (v r : V) (f : ℕ → ℕ) (n : ℕ) → b.weights ≡ a.weights → b.place ≡ a.place
      → Weighs (meaning b.weights.now.domain.now) b.weights.now.codes.now v (on_place b.place f) n r
      → Weighs (meaning a.weights.now.domain.now) a.weights.now.codes.now v (on_place a.place f) n r
  moved a b v r f n w p h = rw (sym w, sym p) h

  pub weights_add : Adds (WeightGains meaning)
  weights_add = record {
    nothing = λ a. record {
      weights = refl;
      place = refl;
      weighs = nothing_on (lawful a.weights.now.domain.now) a.weights.now.codes.now a.place a.sum (λ e. 0) 0 (λ e. refl);
    };
    after = λ a b c f g i j p q. record {
      weights = q.weights ∙ p.weights;
      place = q.place ∙ p.place;
      weighs = after_on (lawful a.weights.now.domain.now) a.weights.now.codes.now a.place a.sum b.sum c.sum f g i j p.weighs (moved a b b.sum c.sum g j p.weights p.place q.weighs);
    };
    alike = λ a b f g i j same few p. record {
      weights = p.weights;
      place = p.place;
      weighs = alike_on (lawful a.weights.now.domain.now) a.weights.now.codes.now a.place a.sum b.sum f g i j same few p.weighs;
    };
  }
