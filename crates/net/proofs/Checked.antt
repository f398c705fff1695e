-- What passed the check of terms and bags is written out in the bytes before what follows it, and is read from them alone.
use Rattle.std.proofs.Common.{◌≡◌, ℕ, zero, suc, ◌-◌, ◌<◌, Bool, true, false, cond, ◌&&◌, eqb, ltb, leb, List, [], ◌∷◌, ◌++◌, length, get_or, take, drop, sym, refl, ap, ◌∙◌, subst, arith, eqb-true}
use Rattle.std.proofs.lemmas.List.{append_assoc, length-append, take_at}
use Rattle.std.proofs.lemmas.Bool.{cond_both}
use Rattle.std.proofs.lemmas.Bool.Decides.{nat_tests}
use Rattle.term.specs.Check.{Checked, Front, bad, check_bag, check_term, constant_at, done, equality_at, application_at, flexible_at, front, head_at, logic_at, none, parts, then, variable_at}
use Rattle.term.specs.Meaning.{Bag, Sig, Term, apply, bag_operation, bag_sorted, both, constant, each, empty, equal, flexible, negate, operation, size, single, sorted, sum, variable}
use Rattle.term.specs.Prefix.{Read, ReadBag, applied, bag_at, bag_front, missing, one, term_at, two}
use Rattle.term.specs.declared.fault.FileFault.{FileFault}
use Rattle.term.specs.declared.signature.Arguments.{Arguments}
use Rattle.term.specs.declared.signature.Arguments.TheVariants as arguments
use Rattle.term.proofs.Shapes.{both_true}
use Rattle.term.proofs.Turns.{front_apply, front_both, front_constant, front_equal, front_negate, front_variable, is, is_not}
use Rattle.format.specs.Format.{front_of}
use Rattle.net.specs.Written.{argument_bytes, bag_bytes, term_bytes}

-- Q of what follows; of a fault nothing
abbrev pub Leaves : (List ℕ → Type 0) → Checked → Type 0
Leaves Q (done r) = Q r
Leaves Q (bad e) = Unit {0}

pub leave : {P Q : List ℕ → Type 0} (c : Checked) → ((r : List ℕ) → P r → Q r) → Leaves P c → Leaves Q c
leave (done r) f h = f r h
leave (bad e) f h = tt

in_turn : {P : List ℕ → Type 0} (Q : List ℕ → Type 0) (c : Checked) (k : List ℕ → Checked) → Leaves P c → ((r : List ℕ) → P r → Leaves Q (k r)) → Leaves Q (then c k)
in_turn Q (done r) k h f = f r h
in_turn Q (bad e) k h f = tt

tested : {X : Type 0} (P : X → Type 0) (ok : Bool) (x y : X) → P y → (ok ≡ true → P x) → P (cond ok x y)
tested P true x y n h = h refl
tested P false x y n h = n

-- the bytes before r are a term of the sort want, which is read from them whatever follows
pub record Spelt (s : Sig) (vars : List ℕ) (d want : ℕ) (bs r : List ℕ) : Type 0 where
  pub term : Term
  pub bytes : bs ≡ term_bytes s term ++ r
  pub over : sorted s vars want term ≡ true
  pub again : (q : List ℕ) → term_at s d (term_bytes s term ++ q) ≡ (term, q)

-- the same of a bag
pub record SpeltBag (s : Sig) (vars : List ℕ) (d want : ℕ) (bs r : List ℕ) : Type 0 where
  pub bag : Bag
  pub bytes : bs ≡ bag_bytes s bag ++ r
  pub over : bag_sorted s vars want bag ≡ true
  pub again : (q : List ℕ) → bag_at s d (bag_bytes s bag ++ q) ≡ (bag, q)

-- one part after the first bytes
joined : (head w r ys all : List ℕ) → ys ≡ w ++ r → all ≡ head ++ w → head ++ ys ≡ all ++ r
joined head w r ys all e is = ap (λ l. head ++ l) e ∙ sym (append_assoc head w r) ∙ ap (λ l. l ++ r) (sym is)

-- two parts, one after the other
chained : (v w r u ys : List ℕ) → ys ≡ v ++ r → r ≡ w ++ u → ys ≡ (v ++ w) ++ u
chained v w r u ys e f = e ∙ ap (λ l. v ++ l) f ∙ sym (append_assoc v w u)

-- a bag by its code
module _ (p : List ℕ → Read) (q : List ℕ → ReadBag) (bs : List ℕ) where
  bag_empty : 0 < length bs → get_or bs 0 0 ≡ 0x30 → bag_front p q bs ≡ (empty, drop 1 bs)
  bag_empty h e = rw (is 0x30 0 bs h e)

  bag_single : 0 < length bs → get_or bs 0 0 ≡ 0x31 → bag_front p q bs ≡ (single (p (drop 1 bs)).0, (p (drop 1 bs)).1)
  bag_single h e = rw (is_not 0x31 0x30 0 bs e (λ x. omega arith), is 0x31 0 bs h e)

  bag_sum : 0 < length bs → get_or bs 0 0 ≡ 0x32 → bag_front p q bs ≡ (sum (q (drop 1 bs)).0 (q (q (drop 1 bs)).1).0, (q (q (drop 1 bs)).1).1)
  bag_sum h e = rw (is_not 0x32 0x30 0 bs e (λ x. omega arith), is_not 0x32 0x31 0 bs e (λ x. omega arith), is 0x32 0 bs h e)

  bag_flexible : 1 < length bs → get_or bs 0 0 ≡ 0x33 → bag_front p q bs ≡ (flexible (get_or bs 1 0) (p (drop 2 bs)).0, (p (drop 2 bs)).1)
  bag_flexible h e = rw (is_not 0x33 0x30 0 bs e (λ x. omega arith), is_not 0x33 0x31 0 bs e (λ x. omega arith), is_not 0x33 0x32 0 bs e (λ x. omega arith), is 0x33 1 bs h e)

module _ (s : Sig) (vars : List ℕ) (ends : ℕ) where
  -- a term whose parts have at most the depth d
  module _ (d want : ℕ) (inner : (w : ℕ) (l : List ℕ) → Leaves (Spelt s vars d w l) (check_term s vars ends d w l)) where
    abbrev t : ℕ → List ℕ → Checked
    t = check_term s vars ends d

    abbrev Goal : List ℕ → Front → Type 0
    Goal bs f = Leaves (Spelt s vars (suc d) want bs) (parts t f)

    when : (bs : List ℕ) (ok : Bool) (f : Front) (e : FileFault) → (ok ≡ true → Goal bs f) → Goal bs (cond ok f (none e))
    when bs ok f e h = tested (Goal bs) ok f (none e) tt h

    one_part : (head : List ℕ) (f : Term → Term) (a : ℕ) (ys : List ℕ) → ((x : Term) → term_bytes s (f x) ≡ head ++ term_bytes s x)
        → ((l : List ℕ) → term_at s (suc d) (head ++ l) ≡ one (term_at s d) f l) → ((x : Term) → sorted s vars a x ≡ true → sorted s vars want (f x) ≡ true)
        → Leaves (Spelt s vars (suc d) want (head ++ ys)) (t a ys)
    one_part head f a ys is reads keeps = leave (t a ys) (λ r h. let w = term_bytes s h.term in record {
      term = f h.term;
      bytes = joined head w r ys (term_bytes s (f h.term)) h.bytes (is h.term);
      over = keeps h.term h.over;
      again = λ q. ap (term_at s (suc d)) (ap (λ l. l ++ q) (is h.term) ∙ append_assoc head w q) ∙ reads (w ++ q) ∙ ap (λ (y : Read). (f y.0, y.1)) (h.again q);
    }) (inner a ys)

    two_parts : (head : List ℕ) (f : Term → Term → Term) (a b : ℕ) (ys : List ℕ) → ((x y : Term) → term_bytes s (f x y) ≡ head ++ (term_bytes s x ++ term_bytes s y))
        → ((l : List ℕ) → term_at s (suc d) (head ++ l) ≡ two (term_at s d) f l) → ((x y : Term) → sorted s vars a x ≡ true → sorted s vars b y ≡ true → sorted s vars want (f x y) ≡ true)
        → Leaves (Spelt s vars (suc d) want (head ++ ys)) (then (t a ys) (t b))
    two_parts head f a b ys is reads keeps = in_turn (Spelt s vars (suc d) want (head ++ ys)) (t a ys) (t b) (inner a ys) (λ r h. leave (t b r) (λ u g.
        let v = term_bytes s h.term in
        let w = term_bytes s g.term in
        let p = term_at s d in
        record {
          term = f h.term g.term;
          bytes = joined head (v ++ w) u ys (term_bytes s (f h.term g.term)) (chained v w r u ys h.bytes g.bytes) (is h.term g.term);
          over = keeps h.term g.term h.over g.over;
          again = λ q.
              ap (term_at s (suc d)) (ap (λ l. l ++ q) (is h.term g.term) ∙ append_assoc head (v ++ w) q ∙ ap (λ l. head ++ l) (append_assoc v w q))
              ∙ reads (v ++ (w ++ q))
              ∙ ap (λ (y : Read). (f y.0 (p y.1).0, (p y.1).1)) (h.again (w ++ q))
              ∙ ap (λ (y : Read). (f h.term y.0, y.1)) (g.again q);
        }) (inner b r))

    variable_spelt : (xs : List ℕ) → Goal (0x20 ∷ xs) (variable_at vars want (0x20 ∷ xs) ends)
    unfolding term_at
    variable_spelt [] = tt
    variable_spelt (v ∷ ys) =
        let bs : List ℕ = 0x20 ∷ v ∷ ys in
        when bs (ltb 1 (length bs)) _ _ (λ long. when bs (ltb v (length vars)) _ _ (λ there. when bs (eqb (get_or vars v 0) want) _ _ (λ over.
        record { term = variable v; bytes = refl; over = both_true _ _ there over; again = λ q. front_variable s (term_at s d) (0x20 ∷ v ∷ q) (omega arith) refl })))

    constant_spelt : (xs : List ℕ) → Goal (0x21 ∷ xs) (constant_at s want (0x21 ∷ xs) ends)
    unfolding term_at
    constant_spelt [] = tt
    constant_spelt (k ∷ []) =
        let bs : List ℕ = 0x21 ∷ k ∷ [] in
        when bs (ltb k (length s.sizes)) _ _ (λ there. when bs (eqb k want) _ _ (λ over. tt))
    constant_spelt (k ∷ e ∷ ys) =
        let bs : List ℕ = 0x21 ∷ k ∷ e ∷ ys in
        when bs (ltb 1 (length bs)) _ _ (λ long. when bs (ltb k (length s.sizes)) _ _ (λ there. when bs (eqb k want) _ _ (λ over.
        when bs (ltb 2 (length bs)) _ _ (λ longer. when bs (ltb e (size s k)) _ _ (λ known.
        record { term = constant k e; bytes = refl; over = both_true _ _ over known; again = λ q. front_constant s (term_at s d) (0x21 ∷ k ∷ e ∷ q) (omega arith) refl })))))

    module _ (k : ℕ) (ys : List ℕ) (there : ltb k (length s.operations) ≡ true) (over : eqb (operation s k).result want ≡ true) where
      fits : (a : Arguments) → (operation s k).arguments ≡ a → (x y : Term) → each (λ v. sorted s vars v x) (λ v. sorted s vars v y) a ≡ true → sorted s vars want (apply k x y) ≡ true
      fits a z x y h = both_true _ _ there (both_true _ _ over (ap (each (λ v. sorted s vars v x) (λ v. sorted s vars v y)) z ∙ h))

      bytes_as : (a : Arguments) → (operation s k).arguments ≡ a → (x y : Term) → term_bytes s (apply k x y) ≡ 0x22 ∷ k ∷ argument_bytes a (term_bytes s x) (term_bytes s y)
      bytes_as a z x y = ap (λ o. 0x22 ∷ k ∷ argument_bytes o (term_bytes s x) (term_bytes s y)) z

      reads_as : (a : Arguments) → (operation s k).arguments ≡ a → (l : List ℕ) → term_at s (suc d) (0x22 ∷ k ∷ l) ≡ applied (term_at s d) k a l
      unfolding term_at
      reads_as a z l = front_apply s (term_at s d) (0x22 ∷ k ∷ l) (omega arith) refl ∙ ap (λ o. applied (term_at s d) k o l) z

      applied_spelt : (a : Arguments) → (operation s k).arguments ≡ a → Goal (0x22 ∷ k ∷ ys) (front a ys)
      applied_spelt arguments.None z = record {
        term = apply k missing missing;
        bytes = ap (λ l. l ++ ys) (sym (bytes_as _ z missing missing));
        over = fits _ z missing missing refl;
        again = λ q. ap (λ l. term_at s (suc d) (l ++ q)) (bytes_as _ z missing missing) ∙ reads_as _ z q;
      }
      applied_spelt (arguments.One a) z = one_part (0x22 ∷ k ∷ []) (λ x. apply k x missing) a ys (λ x. bytes_as _ z x missing) (reads_as _ z) (λ x h. fits _ z x missing h)
      applied_spelt (arguments.Two a b) z = two_parts (0x22 ∷ k ∷ []) (apply k) a b ys (bytes_as _ z) (reads_as _ z) (λ x y h g. fits _ z x y (both_true _ _ h g))
      applied_spelt (arguments.More a b) z = two_parts (0x22 ∷ k ∷ []) (apply k) a b ys (bytes_as _ z) (reads_as _ z) (λ x y h g. fits _ z x y (both_true _ _ h g))

    application_spelt : (xs : List ℕ) → Goal (0x22 ∷ xs) (application_at s want (0x22 ∷ xs) ends)
    application_spelt [] = tt
    application_spelt (k ∷ ys) =
        let bs : List ℕ = 0x22 ∷ k ∷ ys in
        when bs (ltb 1 (length bs)) _ _ (λ long. when bs (ltb k (length s.operations)) _ _ (λ there. when bs (eqb (operation s k).result want) _ _ (λ over.
        applied_spelt k ys there over (operation s k).arguments refl)))

    equality_spelt : (xs : List ℕ) → Goal (0x23 ∷ xs) (equality_at s want (0x23 ∷ xs) ends)
    unfolding term_at
    equality_spelt [] = when (0x23 ∷ []) (eqb want 0) _ _ (λ over. tt)
    equality_spelt (k ∷ ys) =
        let bs : List ℕ = 0x23 ∷ k ∷ ys in
        when bs (eqb want 0) _ _ (λ over. when bs (ltb 1 (length bs)) _ _ (λ long. when bs (ltb k (length s.sizes)) _ _ (λ there.
        two_parts (0x23 ∷ k ∷ []) (equal k) k k ys (λ x y. refl) (λ l. front_equal s (term_at s d) (0x23 ∷ k ∷ l) (omega arith) refl) (λ x y h g. both_true _ _ over (both_true _ _ there (both_true _ _ h g))))))

    negation_spelt : (xs : List ℕ) → Goal (0x24 ∷ xs) (logic_at (arguments.One 0) want (0x24 ∷ xs) ends)
    unfolding term_at
    negation_spelt xs = when (0x24 ∷ xs) (eqb want 0) _ _ (λ over. one_part (0x24 ∷ []) negate 0 xs (λ x. refl) (λ l. front_negate s (term_at s d) (0x24 ∷ l) (omega arith) refl) (λ x h. both_true _ _ over h))

    both_spelt : (xs : List ℕ) → Goal (0x25 ∷ xs) (logic_at (arguments.Two 0 0) want (0x25 ∷ xs) ends)
    unfolding term_at
    both_spelt xs = when (0x25 ∷ xs) (eqb want 0) _ _ (λ over. two_parts (0x25 ∷ []) both 0 0 xs (λ x y. refl) (λ l. front_both s (term_at s d) (0x25 ∷ l) (omega arith) refl) (λ x y h g. both_true _ _ over (both_true _ _ h g)))

    -- a term by its code
    from_code : (f : List ℕ → Front) (c k : ℕ) (xs : List ℕ) → Goal (k ∷ xs) (f (k ∷ xs)) → c ≡ k → Goal (c ∷ xs) (f (c ∷ xs))
    from_code f c k xs h e = subst (λ (j : ℕ). Goal (j ∷ xs) (f (j ∷ xs))) (sym e) h

    head_spelt : (bs : List ℕ) → Goal bs (head_at s vars false want bs ends)
    head_spelt [] = tt
    head_spelt (c ∷ xs) =
        let bs : List ℕ = c ∷ xs in
        when bs (ltb 0 (length bs)) _ _ (λ long. when bs (leb 0x20 c && leb c 0x25) _ _ (λ known.
        cond_both (eqb c 0x20) _ _ (Goal bs) (λ e. from_code (λ l. variable_at vars want l ends) c 0x20 xs (variable_spelt xs) (eqb-true _ _ e)) (λ n0.
        cond_both (eqb c 0x21) _ _ (Goal bs) (λ e. from_code (λ l. constant_at s want l ends) c 0x21 xs (constant_spelt xs) (eqb-true _ _ e)) (λ n1.
        cond_both (eqb c 0x22) _ _ (Goal bs) (λ e. from_code (λ l. application_at s want l ends) c 0x22 xs (application_spelt xs) (eqb-true _ _ e)) (λ n2.
        cond_both (eqb c 0x23) _ _ (Goal bs) (λ e. from_code (λ l. equality_at s want l ends) c 0x23 xs (equality_spelt xs) (eqb-true _ _ e)) (λ n3.
        cond_both (eqb c 0x24) _ _ (Goal bs) (λ e. from_code (λ l. logic_at (arguments.One 0) want l ends) c 0x24 xs (negation_spelt xs) (eqb-true _ _ e)) (λ n4.
        let e : c ≡ 0x25 = grind (arith, nat_tests) in from_code (λ l. logic_at (arguments.Two 0 0) want l ends) c 0x25 xs (both_spelt xs) e)))))))

  pub term_spelt : (d want : ℕ) (bs : List ℕ) → Leaves (Spelt s vars d want bs) (check_term s vars ends d want bs)
  term_spelt zero want [] = tt
  term_spelt zero want (c ∷ xs) =
      let P : Front → Type 0 = λ f. Leaves (Spelt s vars zero want (c ∷ xs)) (parts (λ t r. done r) f) in
      tested P (ltb 0 (length (c ∷ xs))) _ _ tt (λ long. tested P (leb 0x20 c && leb c 0x25) _ _ tt (λ known. tt))
  term_spelt (suc d) want bs = head_spelt d want (term_spelt d) bs

  -- a bag whose parts have at most the depth d
  module _ (d want : ℕ) (inner : (l : List ℕ) → Leaves (SpeltBag s vars d want l) (check_bag s vars ends d want l)) where
    abbrev b : List ℕ → Checked
    b = check_bag s vars ends d want

    abbrev BagGoal : List ℕ → Checked → Type 0
    BagGoal bs c = Leaves (SpeltBag s vars (suc d) want bs) c

    when_bag : (bs : List ℕ) (ok : Bool) (c : Checked) (e : FileFault) → (ok ≡ true → BagGoal bs c) → BagGoal bs (cond ok c (bad e))
    when_bag bs ok c e h = tested (BagGoal bs) ok c (bad e) tt h

    -- a term after the first bytes
    with_term : (head : List ℕ) (f : Term → Bag) (a : ℕ) (ys : List ℕ) → ((x : Term) → bag_bytes s (f x) ≡ head ++ term_bytes s x)
        → ((l : List ℕ) → bag_at s (suc d) (head ++ l) ≡ (f (term_at s d l).0, (term_at s d l).1)) → ((x : Term) → sorted s vars a x ≡ true → bag_sorted s vars want (f x) ≡ true)
        → Leaves (SpeltBag s vars (suc d) want (head ++ ys)) (check_term s vars ends d a ys)
    with_term head f a ys is reads keeps = leave (check_term s vars ends d a ys) (λ r h. let w = term_bytes s h.term in record {
      bag = f h.term;
      bytes = joined head w r ys (bag_bytes s (f h.term)) h.bytes (is h.term);
      over = keeps h.term h.over;
      again = λ q. ap (bag_at s (suc d)) (ap (λ l. l ++ q) (is h.term) ∙ append_assoc head w q) ∙ reads (w ++ q) ∙ ap (λ (y : Read). (f y.0, y.1)) (h.again q);
    }) (term_spelt d a ys)

    sum_spelt : (ys : List ℕ) → Leaves (SpeltBag s vars (suc d) want (0x32 ∷ ys)) (then (b ys) b)
    unfolding bag_at
    sum_spelt ys = in_turn (SpeltBag s vars (suc d) want (0x32 ∷ ys)) (b ys) b (inner ys) (λ r h. leave (b r) (λ u g.
        let v = bag_bytes s h.bag in
        let w = bag_bytes s g.bag in
        let p = bag_at s d in
        record {
          bag = sum h.bag g.bag;
          bytes = ap (λ l. 0x32 ∷ l) (chained v w r u ys h.bytes g.bytes);
          over = both_true _ _ h.over g.over;
          again = λ q.
              bag_sum (term_at s d) p (0x32 ∷ ((v ++ w) ++ q)) (omega arith) refl
              ∙ ap (λ l. (sum (p l).0 (p (p l).1).0, (p (p l).1).1)) (append_assoc v w q)
              ∙ ap (λ (y : ReadBag). (sum y.0 (p y.1).0, (p y.1).1)) (h.again (w ++ q))
              ∙ ap (λ (y : ReadBag). (sum h.bag y.0, y.1)) (g.again q);
        }) (inner r))

    empty_spelt : (ys : List ℕ) → BagGoal (0x30 ∷ ys) (done (drop 1 (0x30 ∷ ys)))
    unfolding bag_at
    empty_spelt ys = record { bag = empty; bytes = refl; over = refl; again = λ q. bag_empty (term_at s d) (bag_at s d) (0x30 ∷ q) (omega arith) refl }

    single_spelt : (ys : List ℕ) → BagGoal (0x31 ∷ ys) (check_term s vars ends d want ys)
    unfolding bag_at
    single_spelt ys = with_term (0x31 ∷ []) single want ys (λ x. refl) (λ l. bag_single (term_at s d) (bag_at s d) (0x31 ∷ l) (omega arith) refl) (λ x h. h)

    flexible_spelt : (xs : List ℕ) → BagGoal (0x33 ∷ xs) (flexible_at s (check_term s vars ends d) want (0x33 ∷ xs) ends)
    unfolding bag_at
    flexible_spelt [] = tt
    flexible_spelt (k ∷ ys) =
        let bs : List ℕ = 0x33 ∷ k ∷ ys in
        when_bag bs (ltb 1 (length bs)) _ _ (λ long. when_bag bs (ltb k (length s.bags)) _ _ (λ there. when_bag bs (eqb (bag_operation s k).result want) _ _ (λ over.
        with_term (0x33 ∷ k ∷ []) (flexible k) (bag_operation s k).argument ys (λ x. refl) (λ l. bag_flexible (term_at s d) (bag_at s d) (0x33 ∷ k ∷ l) (omega arith) refl)
        (λ x h. both_true _ _ there (both_true _ _ over h)))))

    -- a bag by its code
    bag_from_code : (f : List ℕ → Checked) (c k : ℕ) (xs : List ℕ) → BagGoal (k ∷ xs) (f (k ∷ xs)) → c ≡ k → BagGoal (c ∷ xs) (f (c ∷ xs))
    bag_from_code f c k xs h e = subst (λ (j : ℕ). BagGoal (j ∷ xs) (f (j ∷ xs))) (sym e) h

    bag_spelt_deep : (bs : List ℕ) → BagGoal bs (check_bag s vars ends (suc d) want bs)
    unfolding check_bag
    bag_spelt_deep [] = tt
    bag_spelt_deep (c ∷ xs) =
        let bs : List ℕ = c ∷ xs in
        when_bag bs (ltb 0 (length bs)) _ _ (λ long. when_bag bs (leb 0x30 c && leb c 0x33) _ _ (λ known.
        cond_both (eqb c 0x30) _ _ (BagGoal bs) (λ e. bag_from_code (λ l. done (drop 1 l)) c 0x30 xs (empty_spelt xs) (eqb-true _ _ e)) (λ n0.
        cond_both (eqb c 0x31) _ _ (BagGoal bs) (λ e. bag_from_code (λ l. check_term s vars ends d want (drop 1 l)) c 0x31 xs (single_spelt xs) (eqb-true _ _ e)) (λ n1.
        cond_both (eqb c 0x32) _ _ (BagGoal bs) (λ e. bag_from_code (λ l. then (b (drop 1 l)) b) c 0x32 xs (sum_spelt xs) (eqb-true _ _ e)) (λ n2.
        let e : c ≡ 0x33 = grind (arith, nat_tests) in bag_from_code (λ l. flexible_at s (check_term s vars ends d) want l ends) c 0x33 xs (flexible_spelt xs) e)))))

  pub bag_spelt : (d want : ℕ) (bs : List ℕ) → Leaves (SpeltBag s vars d want bs) (check_bag s vars ends d want bs)
  unfolding check_bag
  bag_spelt zero want [] = tt
  bag_spelt zero want (c ∷ xs) =
      let P : Checked → Type 0 = Leaves (SpeltBag s vars zero want (c ∷ xs)) in
      tested P (ltb 0 (length (c ∷ xs))) _ _ tt (λ long. tested P (leb 0x30 c && leb c 0x33) _ _ tt (λ known. tt))
  bag_spelt (suc d) want bs = bag_spelt_deep d want (bag_spelt d want) bs

-- the bytes before r
pub own_front : (bs own r : List ℕ) → bs ≡ own ++ r → front_of bs r ≡ own
own_front bs own r e =
    let k : length bs - length r ≡ length own = omega (arith, ap length e, length-append own r) in
    ap (λ j. take j bs) k ∙ ap (take (length own)) e ∙ take_at own r (length own) refl
