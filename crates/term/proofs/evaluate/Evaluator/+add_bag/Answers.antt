use Rattle.std.proofs.Common.{◌≡◌, ◌+◌, ◌-◌, cond, eqb, get_or, take, drop, length, refl, ap, ◌∙◌, arith, rules}
use Rattle.std.proofs.lemmas.Bool.Decides.{nat_tests}
use Rattle.term.specs.Meaning.{bag_operation, copies_in, count, largest_row, most_tokens, of, value as value_of}
use Rattle.term.specs.Prefix.{term_at, bag_at}
use Rattle.term.proofs.Cuts.{tail}
use Rattle.term.proofs.Tallies.{row_copies, same_sum}
use Rattle.term.proofs.Turns.{bag_none, at_empty, at_single, at_sum, at_flexible, at_other, first_part}
use Rattle.term.proofs.evaluate.Evaluator.+add_bag.Goals as goal

pub returns-then-depth-eq0 : goal.returns-then-depth-eq0
returns-then-depth-eq0 g t c =
    rw (bag_none (of c.args.self.now.signature) c.args.depth c.args.bytes.now c.if-depth-eq0.true)
    (record { sum = g.met.T.Tally.laws.nothing c.args.tally.now; rest = refl })

pub returns-in-48 : goal.returns-in-48
returns-in-48 g t c =
    rw (at_empty (of c.args.self.now.signature) c.args.depth c.args.bytes.now (omega arith) (search rules) (search rules))
    (record { sum = g.met.T.Tally.laws.nothing c.args.tally.now; rest = tail 1 c.args.bytes.now })

pub returns-in-49 : goal.returns-in-49
returns-in-49 g t c =
    let s = of c.args.self.now.signature in
    let m = c.args.self.now.mode.now in
    let bs = c.args.bytes.now in
    let q = first_part (term_at s (c.args.depth - 1)) (value_of s m) (drop 1 bs) _ (tail 1 bs)
    c.value-element.result.0 c.value-element.result.1.now c.value-element.ensures.value c.value-element.ensures.rest in
    rw (at_single s c.args.depth bs (omega arith) (search rules) (search rules))
    (record {
      sum = g.met.T.Tally.laws.alike c.args.tally.now c.add.new.self (λ i. cond (eqb c.value-element.result.0 i) 1 0) (λ i. cond (eqb (value_of s m (term_at s (c.args.depth - 1) (drop 1 bs)).0) i) 1 0) 1 1
          (λ i. ap (λ z. cond (eqb z i) 1 0) q.0) (omega arith) c.add.ensures;
      rest = q.1;
    })

pub returns-in-50 : goal.returns-in-50
returns-in-50 g t c =
    let s = of c.args.self.now.signature in
    let m = c.args.self.now.mode.now in
    let bs = c.args.bytes.now in
    let p = bag_at s (c.args.depth - 1) in
    let r0 = take (length bs - 1) (drop 1 bs) in
    let r1 = c.add_bag-rest.result.now in
    let e1 : r1 ≡ (p (drop 1 bs)).1 = c.add_bag-rest.ensures.rest ∙ ap (λ x. (p x).1) (tail 1 bs) in
    let a = (p r0).0 in
    let b = (p r1).0 in
    let ea : a ≡ (p (drop 1 bs)).0 = ap (λ x. (p x).0) (tail 1 bs) in
    let eb : b ≡ (p (p (drop 1 bs)).1).0 = ap (λ x. (p x).0) e1 in
    rw (at_sum s c.args.depth bs (omega arith) (search rules) (search rules))
    (record {
      sum = g.met.T.Tally.laws.alike c.args.tally.now c.add_bag.new.tally
          (λ i. count s m a i + count s m b i) (λ i. count s m (p (drop 1 bs)).0 i + count s m (p (p (drop 1 bs)).1).0 i)
          (most_tokens a + most_tokens b) (most_tokens (p (drop 1 bs)).0 + most_tokens (p (p (drop 1 bs)).1).0)
          (λ i. same_sum _ _ _ _ (ap (λ x. count s m x i) ea) (ap (λ x. count s m x i) eb))
          (let u = ap most_tokens ea in let v = ap most_tokens eb in omega arith)
          (g.met.T.Tally.laws.after c.args.tally.now c.add_bag-rest.new.tally c.add_bag.new.tally (count s m a) (count s m b) (most_tokens a) (most_tokens b)
          c.add_bag-rest.ensures.sum c.add_bag.ensures.sum);
      rest = c.add_bag.ensures.rest ∙ ap (λ x. (p x).1) e1;
    })

pub returns-in-51 : goal.returns-in-51
returns-in-51 g t c =
    let s = of c.args.self.now.signature in
    let m = c.args.self.now.mode.now in
    let bs = c.args.bytes.now in
    let k = get_or bs 1 0 in
    let q = first_part (term_at s (c.args.depth - 1)) (value_of s m) (drop 2 bs) _ (tail 2 bs)
    c.value-argument.result.0 c.value-argument.result.1.now c.value-argument.ensures.value c.value-argument.ensures.rest in
    let a = c.value-argument.result.0 in
    let x = value_of s m (term_at s (c.args.depth - 1) (drop 2 bs)).0 in
    rw (at_flexible s c.args.depth bs (omega arith) (search rules) (search rules))
    (record {
      sum = g.met.T.Tally.laws.alike c.args.tally.now c.add_row.new.self (λ i. get_or c.row.result.now i 0) (copies_in s (bag_operation s k) x) largest_row largest_row
          (λ i. row_copies s c.bag_operation-o.result a c.row.result.now c.row.ensures.value i ∙ ap (λ o. copies_in s o a i) c.bag_operation-o.ensures ∙ ap (λ z. copies_in s (bag_operation s k) z i) q.0)
          (omega arith) c.add_row.ensures;
      rest = q.1;
    })

pub returns-in_default : goal.returns-in_default
returns-in_default g t c =
    rw (at_other (of c.args.self.now.signature) c.args.depth c.args.bytes.now (omega arith) (grind (arith, nat_tests)) (grind (arith, nat_tests)) (grind (arith, nat_tests)) (grind (arith, nat_tests)))
    (record { sum = g.met.T.Tally.laws.nothing c.args.tally.now; rest = refl })

pub returns-in_default-2 : goal.returns-in_default-2
returns-in_default-2 g t c =
    rw (at_other (of c.args.self.now.signature) c.args.depth c.args.bytes.now (omega arith) (grind (arith, nat_tests)) (grind (arith, nat_tests)) (grind (arith, nat_tests)) (grind (arith, nat_tests)))
    (record { sum = g.met.T.Tally.laws.nothing c.args.tally.now; rest = refl })

pub returns-in_default-3 : goal.returns-in_default-3
returns-in_default-3 g t c =
    rw (at_other (of c.args.self.now.signature) c.args.depth c.args.bytes.now (omega arith) (grind (arith, nat_tests)) (grind (arith, nat_tests)) (grind (arith, nat_tests)) (grind (arith, nat_tests)))
    (record { sum = g.met.T.Tally.laws.nothing c.args.tally.now; rest = refl })
