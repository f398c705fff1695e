-- Sorts and operations, as they are declared.
use Rattle.std.proofs.Common.{◌≡◌, ℕ, ◌+◌, ◌<◌, ◌≤◌, ◌⊎◌, inl, inr, List, [], ◌∷◌, ◌++◌, length, get_or, sum_by, refl, sym, subst, ◌∙◌, ⊎_elim, arith}
use Rattle.std.specs.List.{All}
use Rattle.std.proofs.lemmas.List.{get_or-append-add, get_or_append_left, get_or_past, get_or_push, length-append, length_push}
use Rattle.std.proofs.lemmas.List.Elements.{All-append, All-push}
use Rattle.std.proofs.lemmas.List.Sums.{sum_by_push}
use Rattle.std.proofs.lemmas.Bool.{cases_lt}
use Rattle.term.specs.declared.signature.Arguments.{Arguments}
use Rattle.term.specs.declared.signature.BagOperation.{BagOperation}
use Rattle.term.specs.declared.signature.Operation.{Operation}
use Rattle.term.specs.Meaning.{Sig, no_bag, no_operation, size_of}
use Rattle.net.specs.WellFormed.{Among, Bytes, IsCount, IsResult, WellFormedBagOperation, WellFormedOperation, counts_of, entries, results_of}
use Rattle.net.proofs.Anywhere.{anywhere}
use Rattle.net.proofs.Operands.{Counting, Resulting}
use Rattle.net.specs.System.{most_bag_operations, most_operations, most_sorts}

-- within the limits of sorts and operations; sort 0 has two elements, and every sort 1 to 64
pub record Signed (s : Sig) : Type 0 where
  pub sorts : length s.sizes ≤ most_sorts
  pub truths : size_of s.sizes 0 ≡ 2
  pub inhabited : All (λ k. 1 ≤ k) s.sizes
  pub sizes : All (λ k. k ≤ 64) s.sizes
  pub few_operations : length s.operations ≤ most_operations
  pub operations : All (WellFormedOperation s.sizes s.tables) s.operations
  pub few_bags : length s.bags ≤ most_bag_operations
  pub bags : All (WellFormedBagOperation s.sizes s.tables) s.bags
  pub tables : Bytes s.tables
  pub whole : length s.tables ≡ entries s
  pub owned : (i : ℕ) → i < length s.tables → IsResult s i ⊎ IsCount s i

-- no list, no sum
no_sum : {X : Type 0} (f : X → ℕ) (xs : List X) → length xs ≡ 0 → sum_by f xs ≡ 0
no_sum f [] h = refl
no_sum f (x ∷ xs) h = let z : ⊥ = omega arith in absurd z

-- with another table behind the others, what stood there stands there still, and the new one follows
module _ (sizes tables t : List ℕ) where
  stands : (i : ℕ) → i < length tables → get_or (tables ++ t) i 0 ≡ get_or tables i 0
  stands i h = get_or_append_left tables t 0 i h

  still : (o : Operation) → WellFormedOperation sizes tables o → WellFormedOperation sizes (tables ++ t) o
  still o f =
      let in-all = f.within in
      record {
        arguments = f.arguments;
        result = f.result;
        within = omega (arith, in-all, length-append tables t);
        results = λ i h. let k = f.results i h in let e = stands (o.table + i) (omega (arith, in-all, h)) in omega (arith, k, e);
      }

  still_bag : (o : BagOperation) → WellFormedBagOperation sizes tables o → WellFormedBagOperation sizes (tables ++ t) o
  still_bag o f =
      let in-all = f.within in
      record {
        argument = f.argument;
        result = f.result;
        within = omega (arith, in-all, length-append tables t);
        counts = λ i h. let k = f.counts i h in let e = stands (o.table + i) (omega (arith, in-all, h)) in omega (arith, k, e);
      }

  follows : (a : Arguments) (r : ℕ) → Resulting sizes a r t → WellFormedOperation sizes (tables ++ t) (record { arguments = a; result = r; table = length tables })
  follows a r h = record {
    arguments = h.arguments;
    result = h.result;
    within = omega (arith, h.whole, length-append tables t);
    results = λ i l. let k = h.results i 0 (omega (arith, h.whole, l)) in let e = get_or-append-add tables t i 0 in omega (arith, k, e);
  }

  follows_bag : (a r : ℕ) → Counting sizes a r t → WellFormedBagOperation sizes (tables ++ t) (record { argument = a; result = r; table = length tables })
  follows_bag a r h = record {
    argument = h.argument;
    result = h.result;
    within = omega (arith, h.whole, length-append tables t);
    counts = λ i l. let k = h.counts i 0 (omega (arith, h.whole, l)) in let e = get_or-append-add tables t i 0 in omega (arith, k, e);
  }

module _ (s : Sig) (f : Signed s) where
  some_sort : 0 < length s.sizes
  some_sort = ⊎_elim (λ (h : 0 < length s.sizes). h) (λ (h : length s.sizes ≤ 0). let e = get_or_past s.sizes 0 0 h in let t = f.truths in omega arith) (cases_lt 0 (length s.sizes))

  -- no sort has more than 64 elements
  pub small : (k : ℕ) → size_of s.sizes k ≤ 64
  small = anywhere (λ j. j ≤ 64) s.sizes 0 f.sizes (omega arith)

  -- a sort, before there are operations
  pub with_sort : (k : ℕ) → 1 ≤ k → k ≤ 64 → length s.sizes < most_sorts → length s.operations ≡ 0 → length s.bags ≡ 0 → Signed (record s { sizes = s.sizes ++ k ∷ [] })
  with_sort k low high room none no_bags = record {
    sorts = omega (arith, length_push s.sizes k);
    truths = get_or_append_left s.sizes (k ∷ []) 0 0 some_sort ∙ f.truths;
    inhabited = All-push (λ j. 1 ≤ j) s.sizes k f.inhabited low;
    sizes = All-push (λ j. j ≤ 64) s.sizes k f.sizes high;
    few_operations = f.few_operations;
    operations = λ i d l. let z : ⊥ = omega arith in absurd z;
    few_bags = f.few_bags;
    bags = λ i d l. let z : ⊥ = omega arith in absurd z;
    tables = f.tables;
    whole = f.whole ∙ nothing s.sizes ∙ sym (nothing (s.sizes ++ k ∷ []));
    owned = λ i l. let z : ⊥ = omega (arith, f.whole, nothing s.sizes) in absurd z;
  }
    where
      nothing : (sizes : List ℕ) → sum_by (results_of sizes) s.operations + sum_by (counts_of sizes) s.bags ≡ 0
      nothing sizes = omega (arith, no_sum (results_of sizes) s.operations none, no_sum (counts_of sizes) s.bags no_bags)

  pub with_operation : (a : Arguments) (r : ℕ) (t : List ℕ) → Resulting s.sizes a r t → length s.operations < most_operations
      → Signed (record s { operations = s.operations ++ (record { arguments = a; result = r; table = length s.tables }) ∷ []; tables = s.tables ++ t })
  with_operation a r t h room =
      record {
        sorts = f.sorts;
        truths = f.truths;
        inhabited = f.inhabited;
        sizes = f.sizes;
        few_operations = omega (arith, length_push s.operations o);
        operations = All-push (WellFormedOperation s.sizes (s.tables ++ t)) s.operations o (λ i d l. still s.sizes s.tables t _ (f.operations i d l)) (follows s.sizes s.tables t a r h);
        few_bags = f.few_bags;
        bags = λ i d l. still_bag s.sizes s.tables t _ (f.bags i d l);
        tables = All-append (λ b. b < 256) s.tables t f.tables h.bytes;
        whole = omega (arith, f.whole, h.whole, length-append s.tables t, sum_by_push (results_of s.sizes) s.operations o);
        owned = λ i l. ⊎_elim (λ b. stays i (f.owned i b)) (λ b. inl (added i b l)) (cases_lt i (length s.tables));
      }
    where
      o : Operation
      o = record { arguments = a; result = r; table = length s.tables }

      all : Sig
      all = record s { operations = s.operations ++ o ∷ []; tables = s.tables ++ t }

      stays : (i : ℕ) → IsResult s i ⊎ IsCount s i → IsResult all i ⊎ IsCount all i
      stays i = ⊎_elim
          (λ (x : IsResult s i). inl (x.0, omega (arith, x.1, length_push s.operations o), subst (λ (y : Operation). Among y.table (results_of s.sizes y) i) (sym (get_or_append_left s.operations (o ∷ []) no_operation x.0 x.1)) x.2))
          (λ (x : IsCount s i). inr x)

      added : (i : ℕ) → length s.tables ≤ i → i < length all.tables → IsResult all i
      added i b l = (
        length s.operations,
        omega (arith, length_push s.operations o),
        subst (λ (y : Operation). Among y.table (results_of s.sizes y) i) (sym (get_or_push s.operations o no_operation (length s.operations) refl)) (omega arith, omega (arith, h.whole, length-append s.tables t)),
      )

  pub with_bag_operation : (a r : ℕ) (t : List ℕ) → Counting s.sizes a r t → length s.bags < most_bag_operations
      → Signed (record s { bags = s.bags ++ (record { argument = a; result = r; table = length s.tables }) ∷ []; tables = s.tables ++ t })
  with_bag_operation a r t h room =
      record {
        sorts = f.sorts;
        truths = f.truths;
        inhabited = f.inhabited;
        sizes = f.sizes;
        few_operations = f.few_operations;
        operations = λ i d l. still s.sizes s.tables t _ (f.operations i d l);
        few_bags = omega (arith, length_push s.bags o);
        bags = All-push (WellFormedBagOperation s.sizes (s.tables ++ t)) s.bags o (λ i d l. still_bag s.sizes s.tables t _ (f.bags i d l)) (follows_bag s.sizes s.tables t a r h);
        tables = All-append (λ b. b < 256) s.tables t f.tables h.counts;
        whole = omega (arith, f.whole, h.whole, length-append s.tables t, sum_by_push (counts_of s.sizes) s.bags o);
        owned = λ i l. ⊎_elim (λ b. stays i (f.owned i b)) (λ b. inr (added i b l)) (cases_lt i (length s.tables));
      }
    where
      o : BagOperation
      o = record { argument = a; result = r; table = length s.tables }

      all : Sig
      all = record s { bags = s.bags ++ o ∷ []; tables = s.tables ++ t }

      stays : (i : ℕ) → IsResult s i ⊎ IsCount s i → IsResult all i ⊎ IsCount all i
      stays i = ⊎_elim
          (λ (x : IsResult s i). inl x)
          (λ (x : IsCount s i). inr (x.0, omega (arith, x.1, length_push s.bags o), subst (λ (y : BagOperation). Among y.table (counts_of s.sizes y) i) (sym (get_or_append_left s.bags (o ∷ []) no_bag x.0 x.1)) x.2))

      added : (i : ℕ) → length s.tables ≤ i → i < length all.tables → IsCount all i
      added i b l = (
        length s.bags,
        omega (arith, length_push s.bags o),
        subst (λ (y : BagOperation). Among y.table (counts_of s.sizes y) i) (sym (get_or_push s.bags o no_bag (length s.bags) refl)) (omega arith, omega (arith, h.whole, length-append s.tables t)),
      )
