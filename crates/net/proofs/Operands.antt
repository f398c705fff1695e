-- What holds of every command that the format says.
use Rattle.std.proofs.Common.{◌≡◌, ℕ, zero, suc, ◌+◌, ◌*◌, ◌<◌, ◌≤◌, Bool, true, false, cond, ◌&&◌, ltb, leb, List, [], ◌∷◌, ◌++◌, length, get_or, take, drop, ℤ, Some, None, Option, sym, refl, ap, ◌∙◌, subst, arith, ltb-true, leb-true, leb-false}
use Rattle.std.specs.List.{All, position_from}
use Rattle.std.proofs.lemmas.List.{append-nil, drop_at, length-append, length-drop, length-take-le}
use Rattle.std.proofs.lemmas.List.Elements.{All-cons, All-drop, All-nil, All-take}
use Rattle.std.proofs.lemmas.Bool.{and_parts, cond_both}
use Rattle.std.proofs.lemmas.Option.{none-some}
use Rattle.domain.specs.Kinds.{kind_of, kind_weighs}
use Rattle.domain.specs.declared.kind.Kind.{Kind}
use Rattle.term.specs.Check.{Checked, bad, done}
use Rattle.term.specs.Meaning.{Sig, bag_sorted, size_of, sorted}
use Rattle.term.specs.Prefix.{Read, ReadBag, bag_at, term_at}
use Rattle.term.specs.declared.fault.FileFault.{FileFault}
use Rattle.term.specs.declared.signature.Arguments.{Arguments}
use Rattle.format.specs.Commands.{Said, arc, arguments_of, bag_operation, claim, element_weight, end, fault, guard, operation, place, place_weight, said, sort, tokens, transition}
use Rattle.format.specs.Commands as commands
use Rattle.format.specs.Format.{Setting, arc_at, arc_bag, both, combinations, counts_at, first_bad, fitting, front_of, guard_term, mode_count, modulus_fits, most_modes, neither, parse_at, place_size, signed, unless_bad, variable_sizes, with_table, with_term}
use Rattle.format.specs.declared.command.Code.{Code}
use Rattle.format.specs.declared.command.Code.TheVariants as code
use Rattle.format.specs.declared.command.Direction.{Direction}
use Rattle.format.specs.declared.command.Direction.TheVariants as direction
use Rattle.net.specs.WellFormed.{ArgumentsDeclared, Bytes, IsBag, IsTerm, WellFormedArc}
use Rattle.net.specs.Written.{bag_bytes, term_bytes}
use Rattle.net.proofs.Checked.{Leaves, Spelt, SpeltBag, bag_spelt, leave, own_front, term_spelt}

-- a transition has at most 4 variables, of declared sorts, and not too many modes
pub record Varied (sizes : List ℕ) (v : List ℕ) : Type 0 where
  pub few : length v ≤ 4
  pub sorts : All (λ k. k < length sizes) v
  pub modes : mode_count (variable_sizes sizes (length v) v) ≤ most_modes

-- an operation's arguments and result are of declared sorts, and its table is of bytes: a result for each combination of
-- its arguments, an element of the result sort
pub record Resulting (sizes : List ℕ) (a : Arguments) (r : ℕ) (t : List ℕ) : Type 0 where
  pub arguments : ArgumentsDeclared sizes a
  pub result : r < length sizes
  pub whole : length t ≡ combinations sizes a
  pub results : All (λ e. e < size_of sizes r) t
  pub bytes : Bytes t

-- a bag operation's sorts are declared, and its table is of bytes: for each argument a count for each element of the
-- result sort
pub record Counting (sizes : List ℕ) (a r : ℕ) (t : List ℕ) : Type 0 where
  pub argument : a < length sizes
  pub result : r < length sizes
  pub whole : length t ≡ size_of sizes a * size_of sizes r
  pub counts : Bytes t

-- what the format says under each code, in a file of bytes
pub data Heard (x : Setting) : Code → Said → Type 0 where
  heard_sort : (n : ℕ) → 1 ≤ n → n ≤ 64 → Heard x code.Sort (sort n)
  heard_operation : (a : Arguments) (r : ℕ) (t : List ℕ) → Resulting x.signature.sizes a r t → Heard x code.Operation (operation a r t)
  heard_bag_operation : (a r : ℕ) (t : List ℕ) → Counting x.signature.sizes a r t → Heard x code.BagOperation (bag_operation a r t)
  heard_place : (s : ℕ) → s < length x.signature.sizes → Heard x code.Place (place s)
  heard_tokens : (p e n : ℕ) → e < place_size x.signature.sizes x.places p → n < 65536 → Heard x code.Tokens (tokens p e n)
  heard_transition : (v : List ℕ) → Varied x.signature.sizes v → Heard x code.Transition (transition v)
  heard_guard : (t : List ℕ) → IsTerm x.signature x.variables 0 t → Heard x code.Guard (guard t)
  heard_in : (p : ℕ) (t : List ℕ) → WellFormedArc x.signature x.places x.variables (record { place = p; bag = t }) → Heard x code.InArc (arc direction.In p t)
  heard_out : (p : ℕ) (t : List ℕ) → WellFormedArc x.signature x.places x.variables (record { place = p; bag = t }) → Heard x code.OutArc (arc direction.Out p t)
  heard_claim : (k : Kind) → Heard x code.Claim (claim k)
  heard_place_weight : (p : ℕ) (c : ℤ) → kind_weighs x.kind c ≡ true → Heard x code.PlaceWeight (place_weight p c)
  heard_element_weight : (p e : ℕ) (c : ℤ) → e < place_size x.signature.sizes x.places p → kind_weighs x.kind c ≡ true → Heard x code.ElementWeight (element_weight p e c)
  heard_end : Heard x code.End end

-- the bytes of a guard or a bag
abbrev pub text : Said → List ℕ
text (sort n) = []
text (operation a r t) = []
text (bag_operation a r t) = []
text (place s) = []
text (tokens p e n) = []
text (transition v) = []
text (guard t) = t
text (arc d p t) = t
text (claim k) = []
text (place_weight p c) = []
text (element_weight p e c) = []
text end = []

-- a command under a code: its text and what follows it are fewer bytes than it was read from, and bytes follow
pub record Taken (x : Setting) (bs : List ℕ) (c : Code) (s : Said) (r : List ℕ) : Type 0 where
  pub heard : Heard x c s
  pub shorter : length (text s) + length r < length bs
  pub rest : Bytes r

abbrev pub Holds : (Said → List ℕ → Type 0) → commands.Read → Type 0
Holds P (said s r) = P s r
Holds P (fault e) = Unit {0}

-- the bytes that were read alone are the term
is_term : (s : Sig) (vars : List ℕ) (want : ℕ) (bs r : List ℕ) → Spelt s vars 16 want bs r → IsTerm s vars want (front_of bs r)
is_term s vars want bs r h =
    let w = term_bytes s h.term in
    let own : front_of bs r ≡ w = own_front bs w r h.bytes in
    let read : term_at s 16 (front_of bs r) ≡ (h.term, []) = ap (term_at s 16) (own ∙ sym (append-nil w)) ∙ h.again [] in
    record { over = ap (λ (y : Read). sorted s vars want y.0) read ∙ h.over; bytes = own ∙ ap (λ (y : Read). term_bytes s y.0) (sym read) }

is_bag : (s : Sig) (vars : List ℕ) (want : ℕ) (bs r : List ℕ) → SpeltBag s vars 16 want bs r → IsBag s vars want (front_of bs r)
is_bag s vars want bs r h =
    let w = bag_bytes s h.bag in
    let own : front_of bs r ≡ w = own_front bs w r h.bytes in
    let read : bag_at s 16 (front_of bs r) ≡ (h.bag, []) = ap (bag_at s 16) (own ∙ sym (append-nil w)) ∙ h.again [] in
    record { over = ap (λ (y : ReadBag). bag_sorted s vars want y.0) read ∙ h.over; bytes = own ∙ ap (λ (y : ReadBag). bag_bytes s y.0) (sym read) }

-- bytes were taken from the front
pub record Cut (bs r : List ℕ) : Type 0 where
  pub long : length (front_of bs r) + length r ≡ length bs
  pub rest : Bytes r

cut : (bs own r : List ℕ) → bs ≡ own ++ r → Bytes bs → Cut bs r
cut bs own r e o = record {
  long = omega (arith, ap length e, length-append own r, ap length (own_front bs own r e));
  rest = subst Bytes (ap (drop (length own)) e ∙ drop_at own r (length own) refl) (All-drop (λ b. b < 256) (length own) bs o);
}

guard_read : (s : Sig) (vars : List ℕ) (ends : ℕ) (bs : List ℕ) → Bytes bs → Leaves (λ r. IsTerm s vars 0 (front_of bs r) × Cut bs r) (guard_term s vars ends bs)
unfolding guard_term
guard_read s vars ends bs o = leave {P = Spelt s vars 16 0 bs} {Q = λ r. IsTerm s vars 0 (front_of bs r) × Cut bs r} _ (λ r h. (is_term s vars 0 bs r h, cut bs (term_bytes s h.term) r h.bytes o)) (term_spelt s vars ends 16 0 bs)

bag_read : (s : Sig) (vars : List ℕ) (ends want : ℕ) (bs : List ℕ) → Bytes bs → Leaves (λ r. IsBag s vars want (front_of bs r) × Cut bs r) (arc_bag s vars ends want bs)
unfolding arc_bag
bag_read s vars ends want bs o = leave {P = SpeltBag s vars 16 want bs} {Q = λ r. IsBag s vars want (front_of bs r) × Cut bs r} _ (λ r h. (is_bag s vars want bs r h, cut bs (bag_bytes s h.bag) r h.bytes o)) (bag_spelt s vars ends 16 want bs)

-- where no byte is bad, all are below n
none_bad : (n i : ℕ) (bs : List ℕ) → position_from (λ b. leb n b) i bs ≡ None → All (λ b. b < n) bs
none_bad n i [] e = All-nil (λ b. b < n)
none_bad n i (b ∷ bs) e = by (leb n b) refl e (none_bad n (i + 1) bs)
  where
    by : (t : Bool) → leb n b ≡ t → cond t (Some i) (position_from (λ b. leb n b) (i + 1) bs) ≡ None → (position_from (λ b. leb n b) (i + 1) bs ≡ None → All (λ b. b < n) bs) → All (λ b. b < n) (b ∷ bs)
    by true f g r = absurd (none-some i (sym g))
    by false f g r = All-cons (λ b. b < n) b bs (omega (arith, leb-false n b f)) (r g)

-- the arguments of a command
arguments_fit : (sizes : List ℕ) (n a b : ℕ) → n ≤ 2 → fitting sizes (ltb 0 n) a ≡ true → fitting sizes (ltb 1 n) b ≡ true → ArgumentsDeclared sizes (arguments_of n a b)
arguments_fit s zero a b h f g = tt
arguments_fit s (suc zero) a b h f g = ltb-true _ _ f
arguments_fit s (suc (suc zero)) a b h f g = (ltb-true _ _ f, ltb-true _ _ g)
arguments_fit s (suc (suc (suc n))) a b h f g = let z : ⊥ = omega arith in absurd z

-- the first n of four sorts
module _ (sizes : List ℕ) (a b c d : ℕ) (r : List ℕ) where
  abbrev P : ℕ → Type 0
  P k = k < length sizes

  first_fit : (n : ℕ) → n ≤ 4 → fitting sizes (ltb 0 n) a ≡ true → fitting sizes (ltb 1 n) b ≡ true → fitting sizes (ltb 2 n) c ≡ true → fitting sizes (ltb 3 n) d ≡ true
      → mode_count (variable_sizes sizes n (a ∷ b ∷ c ∷ d ∷ [])) ≤ most_modes → Varied sizes (take n (a ∷ b ∷ c ∷ d ∷ r))
  first_fit zero h p q s t m = record { few = omega arith; sorts = All-nil P; modes = m }
  first_fit (suc zero) h p q s t m = record { few = omega arith; sorts = All-cons P a [] (ltb-true _ _ p) (All-nil P); modes = m }
  first_fit (suc (suc zero)) h p q s t m = record { few = omega arith; sorts = All-cons P a (b ∷ []) (ltb-true _ _ p) (All-cons P b [] (ltb-true _ _ q) (All-nil P)); modes = m }
  first_fit (suc (suc (suc zero))) h p q s t m = record {
    few = omega arith;
    sorts = All-cons P a (b ∷ c ∷ []) (ltb-true _ _ p) (All-cons P b (c ∷ []) (ltb-true _ _ q) (All-cons P c [] (ltb-true _ _ s) (All-nil P)));
    modes = m;
  }
  first_fit (suc (suc (suc (suc zero)))) h p q s t m = record {
    few = omega arith;
    sorts = All-cons P a (b ∷ c ∷ d ∷ []) (ltb-true _ _ p) (All-cons P b (c ∷ d ∷ []) (ltb-true _ _ q) (All-cons P c (d ∷ []) (ltb-true _ _ s) (All-cons P d [] (ltb-true _ _ t) (All-nil P))));
    modes = m;
  }
  first_fit (suc (suc (suc (suc (suc n))))) h p q s t m = let z : ⊥ = omega arith in absurd z

module _ (x : Setting) (bs : List ℕ) (bytes : Bytes bs) where
  abbrev Goal : Code → commands.Read → Type 0
  Goal c r = Holds (Taken x bs c) r

  abbrev sizes : List ℕ
  sizes = x.signature.sizes

  abbrev vars : List ℕ
  vars = x.variables

  abbrev at : ℕ → ℕ
  at i = get_or bs i 0

  when : (c : Code) (ok : Bool) (r : commands.Read) (e : FileFault) → (ok ≡ true → Goal c r) → Goal c (cond ok r (fault e))
  when c true r e h = h refl
  when c false r e h = tt

  -- a command of k bytes without a term
  plain : {c : Code} (k : ℕ) (s : Said) → 0 < k → k ≤ length bs → length (text s) ≡ 0 → Heard x c s → Goal c (said s (drop k bs))
  plain k s some there e v = record { heard = v; shorter = omega (arith, length-drop k bs); rest = All-drop (λ b. b < 256) k bs bytes }

  -- a command of k bytes and a table of m
  tabled : {c : Code} (k m : ℕ) (s : List ℕ → Said) → 0 < k → k ≤ length bs → length (text (s (take m (drop k bs)))) ≡ 0
      → (length (take m (drop k bs)) ≡ m → Heard x c (s (take m (drop k bs)))) → (b : Bool) (e : FileFault) → leb m (length (drop k bs)) ≡ b
      → Goal c (with_table (cond b (both (take m (drop k bs)) (drop m (drop k bs))) (neither e)) s)
  tabled k m s some there empty v true e h =
      let room : m ≤ length (drop k bs) = leb-true _ _ h in
      record {
        heard = v (length-take-le m (drop k bs) room);
        shorter = omega (arith, length-drop k bs, length-drop m (drop k bs));
        rest = All-drop (λ b. b < 256) m (drop k bs) (All-drop (λ b. b < 256) k bs bytes);
      }
  tabled k m s some there empty v false e h = tt

  -- a command of k bytes and a term or a bag
  worded : {d : Code} (k : ℕ) (s : List ℕ → Said) (Q : List ℕ → Type 0) → 0 < k → k ≤ length bs → ((t : List ℕ) → length (text (s t)) ≡ length t) → (c : Checked)
      → Leaves (λ r. Q (front_of (drop k bs) r) × Cut (drop k bs) r) c → ((t : List ℕ) → Q t → Heard x d (s t)) → Goal d (with_term c (drop k bs) s)
  worded k s Q some there same (done r) h v = record { heard = v (front_of (drop k bs) r) h.0; shorter = omega (arith, same (front_of (drop k bs) r), length-drop k bs, h.1.long); rest = h.1.rest }
  worded k s Q some there same (bad e) h v = tt

  arc_taken : (c : Code) (d : Direction) → ((p : ℕ) (t : List ℕ) → WellFormedArc x.signature x.places vars (record { place = p; bag = t }) → Heard x c (arc d p t)) → Goal c (arc_at x.signature x.places d vars bs x.ends)
  arc_taken c d heard =
      let want = get_or x.places (at 1) 0 in
      when _ (ltb 1 (length bs)) _ _ (λ l1. when _ (ltb (at 1) (length x.places)) _ _ (λ known.
      let long : 2 ≤ length bs = ltb-true _ _ l1 in
      worded 2 (arc d (at 1)) (IsBag x.signature vars want) (omega arith) long (λ t. refl) (arc_bag x.signature vars x.ends want (drop 2 bs)) (bag_read x.signature vars x.ends want (drop 2 bs) (All-drop (λ b. b < 256) 2 bs bytes))
      (λ t h. heard (at 1) t (record { place = ltb-true _ _ known; bag = h }))))

  pub taken : (c : Code) → Goal c (parse_at x c bs)
  taken code.Sort = when _ (ltb 1 (length bs)) _ _ (λ l1. when _ (leb 1 (at 1) && leb (at 1) 64) _ _ (λ h.
      let p = and_parts _ _ h in
      plain 2 (sort (at 1)) (omega arith) (ltb-true _ _ l1) refl (heard_sort (at 1) (leb-true _ _ p.0) (leb-true _ _ p.1))))
  taken code.Operation =
      when _ (ltb 1 (length bs)) _ _ (λ l1. when _ (leb (at 1) 2) _ _ (λ few. when _ (ltb 2 (length bs)) _ _ (λ l2. when _ (fitting sizes (ltb 0 (at 1)) (at 2)) _ _ (λ f.
      when _ (ltb 3 (length bs)) _ _ (λ l3. when _ (fitting sizes (ltb 1 (at 1)) (at 3)) _ _ (λ g. when _ (ltb 4 (length bs)) _ _ (λ l4. when _ (ltb (at 4) (length sizes)) _ _ (λ known.
      checked (leb-true _ _ few) f g (ltb-true _ _ l4) (ltb-true _ _ known) (first_bad (size_of sizes (at 4)) (take (combinations sizes (arguments_of (at 1) (at 2) (at 3))) (drop 5 bs))) refl))))))))
    where
      checked : at 1 ≤ 2 → fitting sizes (ltb 0 (at 1)) (at 2) ≡ true → fitting sizes (ltb 1 (at 1)) (at 3) ≡ true → 4 < length bs → at 4 < length sizes
          → (o : Option ℕ) → first_bad (size_of sizes (at 4)) (take (combinations sizes (arguments_of (at 1) (at 2) (at 3))) (drop 5 bs)) ≡ o
          → Goal code.Operation (with_table (unless_bad o (drop 5 bs) x.ends (counts_at (drop 5 bs) x.ends (combinations sizes (arguments_of (at 1) (at 2) (at 3))))) (operation (arguments_of (at 1) (at 2) (at 3)) (at 4)))
      checked few f g long known None e =
          let k = combinations sizes (arguments_of (at 1) (at 2) (at 3)) in
          tabled 5 k (operation (arguments_of (at 1) (at 2) (at 3)) (at 4)) (omega arith) long refl (λ h. heard_operation (arguments_of (at 1) (at 2) (at 3)) (at 4) (take k (drop 5 bs)) (record {
            arguments = arguments_fit sizes (at 1) (at 2) (at 3) few f g;
            result = known;
            whole = h;
            results = none_bad (size_of sizes (at 4)) 0 (take k (drop 5 bs)) e;
            bytes = All-take (λ b. b < 256) k (drop 5 bs) (All-drop (λ b. b < 256) 5 bs bytes);
          })) (leb k (length (drop 5 bs))) _ refl
      checked few f g long known (Some i) e = tt
  taken code.BagOperation =
      let m = size_of sizes (at 1) * size_of sizes (at 2) in
      when _ (ltb 1 (length bs)) _ _ (λ l1. when _ (ltb (at 1) (length sizes)) _ _ (λ a. when _ (ltb 2 (length bs)) _ _ (λ l2. when _ (ltb (at 2) (length sizes)) _ _ (λ r.
      tabled 3 m (bag_operation (at 1) (at 2)) (omega arith) (ltb-true _ _ l2) refl (λ h. heard_bag_operation (at 1) (at 2) (take m (drop 3 bs)) (record {
        argument = ltb-true _ _ a;
        result = ltb-true _ _ r;
        whole = h;
        counts = All-take (λ b. b < 256) m (drop 3 bs) (All-drop (λ b. b < 256) 3 bs bytes);
      })) (leb m (length (drop 3 bs))) _ refl))))
  taken code.Place = when _ (ltb 1 (length bs)) _ _ (λ l1. when _ (ltb (at 1) (length sizes)) _ _ (λ known. plain 2 (place (at 1)) (omega arith) (ltb-true _ _ l1) refl (heard_place (at 1) (ltb-true _ _ known))))
  taken code.Tokens =
      when _ (ltb 1 (length bs)) _ _ (λ l1. when _ (ltb (at 1) (length x.places)) _ _ (λ known. when _ (ltb 2 (length bs)) _ _ (λ l2. when _ (ltb (at 2) (place_size sizes x.places (at 1))) _ _ (λ on.
      when _ (ltb 3 (length bs)) _ _ (λ l3. when _ (ltb 4 (length bs)) _ _ (λ l4.
      let long = ltb-true _ _ l4 in
      let hi : at 3 < 256 = bytes 3 0 (omega arith) in
      let lo : at 4 < 256 = bytes 4 0 (omega arith) in
      plain 5 (tokens (at 1) (at 2) (at 3 * 256 + at 4)) (omega arith) long refl (heard_tokens (at 1) (at 2) (at 3 * 256 + at 4) (ltb-true _ _ on) (omega arith))))))))
  taken code.Transition =
      when _ (ltb 1 (length bs)) _ _ (λ l1. when _ (leb (at 1) 4) _ _ (λ few. when _ (ltb 2 (length bs)) _ _ (λ l2. when _ (fitting sizes (ltb 0 (at 1)) (at 2)) _ _ (λ a.
      when _ (ltb 3 (length bs)) _ _ (λ l3. when _ (fitting sizes (ltb 1 (at 1)) (at 3)) _ _ (λ b. when _ (ltb 4 (length bs)) _ _ (λ l4. when _ (fitting sizes (ltb 2 (at 1)) (at 4)) _ _ (λ c.
      when _ (ltb 5 (length bs)) _ _ (λ l5. when _ (fitting sizes (ltb 3 (at 1)) (at 5)) _ _ (λ d. when _ (leb (mode_count (variable_sizes sizes (at 1) (at 2 ∷ at 3 ∷ at 4 ∷ at 5 ∷ []))) most_modes) _ _ (λ modes.
      let long : 6 ≤ length bs = ltb-true _ _ l5 in
      plain 6 (transition (take (at 1) (drop 2 bs))) (omega arith) long refl
      (heard_transition (take (at 1) (drop 2 bs)) (subst (λ (l : List ℕ). Varied sizes (take (at 1) l)) (sym (four bs long)) (first_fit sizes (at 2) (at 3) (at 4) (at 5) (drop 6 bs) (at 1) (leb-true _ _ few) a b c d (leb-true _ _ modes)))))))))))))))
    where
      four : (l : List ℕ) → 6 ≤ length l → drop 2 l ≡ get_or l 2 0 ∷ get_or l 3 0 ∷ get_or l 4 0 ∷ get_or l 5 0 ∷ drop 6 l
      four [] h = let z : ⊥ = omega arith in absurd z
      four (a ∷ []) h = let z : ⊥ = omega arith in absurd z
      four (a ∷ b ∷ []) h = let z : ⊥ = omega arith in absurd z
      four (a ∷ b ∷ c ∷ []) h = let z : ⊥ = omega arith in absurd z
      four (a ∷ b ∷ c ∷ d ∷ []) h = let z : ⊥ = omega arith in absurd z
      four (a ∷ b ∷ c ∷ d ∷ e ∷ []) h = let z : ⊥ = omega arith in absurd z
      four (a ∷ b ∷ c ∷ d ∷ e ∷ f ∷ r) h = refl
  taken code.Guard = when _ (ltb 0 (length bs)) _ _ (λ l0.
      worded 1 guard (IsTerm x.signature vars 0) (omega arith) (ltb-true _ _ l0) (λ t. refl) (guard_term x.signature vars x.ends (drop 1 bs)) (guard_read x.signature vars x.ends (drop 1 bs) (All-drop (λ b. b < 256) 1 bs bytes)) heard_guard)
  taken code.InArc = arc_taken code.InArc direction.In heard_in
  taken code.OutArc = arc_taken code.OutArc direction.Out heard_out
  taken code.Claim =
      let m = at 2 * 256 + at 3 in
      when _ (ltb 1 (length bs)) _ _ (λ l1. when _ (leb 1 (at 1) && leb (at 1) 6) _ _ (λ k. when _ (ltb 2 (length bs)) _ _ (λ l2. when _ (ltb 3 (length bs)) _ _ (λ l3. when _ (modulus_fits (at 1) m) _ _ (λ f.
      plain 4 (claim (kind_of (at 1) m)) (omega arith) (ltb-true _ _ l3) refl (heard_claim (kind_of (at 1) m)))))))
  taken code.PlaceWeight =
      let c = signed (at 2) (at 3) (at 4) (at 5) in
      when _ (ltb 1 (length bs)) _ _ (λ l1. when _ (ltb (at 1) (length x.places)) _ _ (λ known. when _ (ltb 2 (length bs)) _ _ (λ l2. when _ (ltb 3 (length bs)) _ _ (λ l3. when _ (ltb 4 (length bs)) _ _ (λ l4. when _ (ltb 5 (length bs)) _ _ (λ l5.
      when _ (kind_weighs x.kind c) _ _ (λ w. plain 6 (place_weight (at 1) c) (omega arith) (ltb-true _ _ l5) refl (heard_place_weight (at 1) c w))))))))
  taken code.ElementWeight =
      let c = signed (at 3) (at 4) (at 5) (at 6) in
      when _ (ltb 1 (length bs)) _ _ (λ l1. when _ (ltb (at 1) (length x.places)) _ _ (λ known. when _ (ltb 2 (length bs)) _ _ (λ l2. when _ (ltb (at 2) (place_size sizes x.places (at 1))) _ _ (λ on.
      when _ (ltb 3 (length bs)) _ _ (λ l3. when _ (ltb 4 (length bs)) _ _ (λ l4. when _ (ltb 5 (length bs)) _ _ (λ l5. when _ (ltb 6 (length bs)) _ _ (λ l6.
      when _ (kind_weighs x.kind c) _ _ (λ w. plain 7 (element_weight (at 1) (at 2) c) (omega arith) (ltb-true _ _ l6) refl (heard_element_weight (at 1) (at 2) c (ltb-true _ _ on) w))))))))))
  taken code.End = when _ (ltb 0 (length bs)) _ _ (λ l0. cond_both (ltb 1 (length bs)) _ _ (Goal code.End) (λ _. tt) (λ _. plain 1 end (omega arith) (ltb-true _ _ l0) refl heard_end))
