-- What stands last, changed.
use Rattle.std.proofs.Common.{◌≡◌, ℕ, ◌-◌, ◌<◌, List, [], ◌∷◌, length, get_or, map, set, sym, refl, ap, ◌∙◌, arith}
use Rattle.std.specs.List.{All}
use Rattle.std.proofs.Math.ListN.{length-map}
use Rattle.std.proofs.lemmas.List.{get_or_default, get_or-map, get_or-set_same, length-set, map-set, set-get_or, set-set}
use Rattle.net.specs.Reading.{renew}
use Rattle.net.proofs.Extents.{map_same}

pub anew : {X : Type 0} (xs : List X) (n : ℕ) (none : X) (f : X → X) (t u : X) → n ≡ length xs → 0 < n → t ≡ get_or xs (n - 1) t → u ≡ f t → set xs (n - 1) u ≡ renew xs none f
anew xs n none f t u e some is h =
    let last : n - 1 < length xs = omega arith in
    ap (λ x. set xs (n - 1) x) (h ∙ ap f (is ∙ get_or_default xs (n - 1) t none last)) ∙ ap (λ k. set xs (k - 1) (f (get_or xs (k - 1) none))) e

-- the same of what a list tells, where what the others tell stays
pub told_anew : {X Y : Type 0} (before after : X → Y) (xs : List X) (n : ℕ) (none : Y) (f : Y → Y) (t u : X) → n ≡ length xs → 0 < n → t ≡ get_or xs (n - 1) t → All (λ x. after x ≡ before x) xs → after u ≡ f (before t)
    → map after (set xs (n - 1) u) ≡ renew (map before xs) none f
told_anew before after xs n none f t u e some is same h =
    map-set after xs (n - 1) u
    ∙ ap (λ l. set l (n - 1) (after u)) (map_same after before xs same)
    ∙ anew (map before xs) n none f (before t) (after u) (e ∙ sym (length-map xs before)) some (ap before is ∙ sym (get_or-map before xs (n - 1) t (before t) (omega arith))) h

pub same_anew : {X : Type 0} (xs : List X) (none : X) → xs ≡ renew xs none (λ x. x)
same_anew xs none = sym (set-get_or xs (length xs - 1) none)

pub anew_twice : {X : Type 0} (xs : List X) (none : X) (f g : X → X) → renew (renew xs none f) none g ≡ renew xs none (λ x. g (f x))
anew_twice [] none f g = refl
anew_twice {X} (x ∷ xs) none f g =
    let l : List X = x ∷ xs in
    let k = length l - 1 in
    let y = f (get_or l k none) in
    ap (λ n. set (set l k y) (n - 1) (g (get_or (set l k y) (n - 1) none))) (length-set l k y)
    ∙ ap (λ z. set (set l k y) k (g z)) (get_or-set_same l k y none (omega arith))
    ∙ set-set l k y (g y)
