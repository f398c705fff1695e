-- What the laws of a domain give of copies and of sums.
use Rattle.std.proofs.Common.{◌≡◌, ℕ, zero, suc, ◌+◌, ◌*◌, ◌<◌, ◌≤◌, ◌⊎◌, ℤ, sym, refl, ap, ◌∙◌, subst, ⊎_elim, suc-add, mul-le-mul_left, zero-add, arith}
use Rattle.domain.specs.Meaning.{Added, CopiesCommute, CopiesSplit, Grown, Laws, Meaning, SumsRelate, copies, largest_sum, largest_weight}
use Rattle.domain.specs.Measure.{PlainLaws}

module _ {V : Type 0} {d : Meaning V} (l : Laws d) where
  pub copies_holds : (n : ℕ) (w : V) → d.holds w → d.holds (copies d n w)
  copies_holds zero w h = l.nil_holds
  copies_holds (suc n) w h = l.plus_holds w (copies d n w) h (copies_holds n w h)

  pub copies_one : (w : V) → d.holds w → copies d 1 w ≡ w
  copies_one w h = l.comm w d.nil h l.nil_holds ∙ l.neutral w h

  pub copies_size : (n : ℕ) (w : V) → d.holds w → d.size (copies d n w) ≤ n * d.size w
  copies_size zero w h = omega (arith, l.size_nil)
  copies_size (suc n) w h = omega (arith, l.size_plus w (copies d n w) h (copies_holds n w h), copies_size n w h)

  pub copies_add : CopiesSplit d
  copies_add zero b w h = ap (λ (n : ℕ). copies d n w) (zero-add b) ∙ sym (l.neutral (copies d b w) (copies_holds b w h))
  copies_add (suc a) b w h =
      ap (λ (n : ℕ). copies d n w) (suc-add a b) ∙ ap (d.plus w) (copies_add a b w h)
      ∙ sym (l.assoc w (copies d a w) (copies d b w) h (copies_holds a w h) (copies_holds b w h))

  -- a + (b + c) is b + (a + c)
  pub swap_left : (a b c : V) → d.holds a → d.holds b → d.holds c → d.plus a (d.plus b c) ≡ d.plus b (d.plus a c)
  swap_left a b c ha hb hc = sym (l.assoc a b c ha hb hc) ∙ ap (λ (x : V). d.plus x c) (l.comm a b ha hb) ∙ l.assoc b a c hb ha hc

  -- (a + b) + c is (a + c) + b
  pub swap_right : (a b c : V) → d.holds a → d.holds b → d.holds c → d.plus (d.plus a b) c ≡ d.plus (d.plus a c) b
  swap_right a b c ha hb hc = l.assoc a b c ha hb hc ∙ ap (d.plus a) (l.comm b c hb hc) ∙ sym (l.assoc a c b ha hc hb)

  -- (a + b) + (c + e) is (a + c) + (b + e)
  pub exchange : (a b c e : V) → d.holds a → d.holds b → d.holds c → d.holds e → d.plus (d.plus a b) (d.plus c e) ≡ d.plus (d.plus a c) (d.plus b e)
  exchange a b c e ha hb hc he =
      l.assoc a b (d.plus c e) ha hb (l.plus_holds c e hc he) ∙ ap (d.plus a) (swap_left b c e hb hc he)
      ∙ sym (l.assoc a c (d.plus b e) ha hc (l.plus_holds b e hb he))

  pub copies_commute : CopiesCommute d
  copies_commute v n w m x hv hw hx = swap_right v (copies d n w) (copies d m x) hv (copies_holds n w hw) (copies_holds m x hx)

  pub sums_relate : SumsRelate d
  sums_relate u v w x hu hv hw hx r s =
      let moved : d.rel (d.plus w u) (d.plus w v) = l.rel_plus w u v hw hu hv r in
      let first : d.rel (d.plus u w) (d.plus v w) = rw (l.comm u w hu hw, l.comm v w hv hw) moved in
      l.rel_trans (d.plus u w) (d.plus v w) (d.plus v x) (l.plus_holds u w hu hw) (l.plus_holds v w hv hw) (l.plus_holds v x hv hx)
      first (l.rel_plus v w x hv hw hx s)

  within : (a b : ℕ) → (a ≤ b) ⊎ (b < a)
  within a b = grind arith

  module _ (v w r : V) (n : ℕ) (hw : d.holds w) (a : Added d v n w r) where
    abbrev fits : Type 0
    fits = d.size v + n * d.size w ≤ largest_sum

    abbrev passes : Type 0
    passes = largest_sum < d.size v + n * d.size w

    -- what was added is a value of the domain, and no larger than its parts
    pub added_holds : d.holds v → d.holds r
    added_holds hv =
        ⊎_elim
        (λ (h : fits). subst d.holds (sym (a.exact h)) (l.plus_holds v (copies d n w) hv (copies_holds n w hw)))
        (λ (h : passes). subst d.holds (sym (a.beyond h)) l.nil_holds) (within (d.size v + n * d.size w) largest_sum)

    pub added_size : d.holds v → d.size r ≤ d.size v + n * d.size w
    added_size hv =
        ⊎_elim
        (λ (h : fits). omega (arith, ap d.size (a.exact h), l.size_plus v (copies d n w) hv (copies_holds n w hw), copies_size n w hw))
        (λ (h : passes). omega (arith, ap d.size (a.beyond h), l.size_nil)) (within (d.size v + n * d.size w) largest_sum)

  -- what is added is a weight
  pub grown : (v r : V) (n : ℕ) (code : ℤ) → Added d v n (d.weight code) r → Grown d v n code r
  grown v r n code a =
      let w = d.weight code in
      let hw : d.holds w = l.weight_holds code in
      let load : n * d.size w ≤ n * largest_weight = mul-le-mul_left n (l.size_weight code) in
      record {
        added = a;
        exact = λ h. a.exact (omega arith);
        stays = added_holds v w r n hw a;
        small = λ hv. omega (arith, added_size v w r n hw a hv);
      }

  pub copies_plain : {plain : V → Type 0} → PlainLaws d plain → (n : ℕ) (w : V) → plain w → plain (copies d n w)
  copies_plain p zero w h = p.plain_nil
  copies_plain p (suc n) w h = p.plain_plus w (copies d n w) h (copies_plain p n w h)

  -- zero, however often, is zero
  pub copies_nil : (n : ℕ) → copies d n d.nil ≡ d.nil
  copies_nil zero = refl
  copies_nil (suc n) = l.neutral (copies d n d.nil) (copies_holds n d.nil l.nil_holds) ∙ copies_nil n
