use Rattle.std.proofs.Common.{◌≡◌, ℕ, ◌-◌, Bool, true, false, ◌&&◌, eqb, get_or, drop, sym, refl, ap, ◌∙◌, arith, rules}
use Rattle.std.specs.Int.{from_bool}
use Rattle.std.proofs.lemmas.Bool.Decides.{nat_tests}
use Rattle.term.specs.Meaning.{of, value as value_of, result as result_of, truth, operation as op_of}
use Rattle.term.specs.Prefix.{term_at}
use Rattle.term.proofs.Cuts.{tail}
use Rattle.term.proofs.Turns.{none, at_nothing, at_variable, at_constant, at_apply, at_equal, at_negate, at_both, applied_two, first_part, both_parts}
use Rattle.term.proofs.evaluate.Evaluator.+terms.Goals as goal

pub next-returns-then-depth-eq0 : goal.next-returns-then-depth-eq0
next-returns-then-depth-eq0 t c = rw (none (of c.args.self.now.signature) c.args.depth c.args.bytes.now.now c.if-depth-eq0.true) (record { value = refl; rest = refl })

pub next-returns-in-32 : goal.next-returns-in-32
next-returns-in-32 t c = rw (at_variable (of c.args.self.now.signature) c.args.depth c.args.bytes.now.now (omega arith) (search rules) (search rules)) (record { value = c.at.ensures; rest = tail 2 c.args.bytes.now.now })

pub next_other-returns-in-33 : goal.next_other-returns-in-33
next_other-returns-in-33 t c = rw (at_constant (of c.args.self.now.signature) c.args.depth c.args.bytes.now.now (omega arith) (search rules) (search rules)) (record { value = refl; rest = tail 3 c.args.bytes.now.now })

same_two : (f : ℕ → ℕ → ℕ) (a b x y : ℕ) → a ≡ x → b ≡ y → f a b ≡ f x y
same_two f a b x y p q = ap (λ z. f z b) p ∙ ap (f x) q

byte_of : (b : Bool) → from_bool b ≡ truth b
byte_of true = refl
byte_of false = refl

pub next_other-returns-in-35 : goal.next_other-returns-in-35
next_other-returns-in-35 t c =
    let q = both_parts (term_at (of c.args.self.now.signature) (c.args.depth - 1)) (value_of (of c.args.self.now.signature) c.args.self.now.mode.now) (drop 2 c.args.bytes.now.now) _ (tail 2 c.args.bytes.now.now)
    c.next-a.result c.next-b.result c.next-a.new.bytes.now c.next-b.new.bytes.now
    c.next-a.ensures.value c.next-a.ensures.rest c.next-b.ensures.value c.next-b.ensures.rest in
    rw (at_equal (of c.args.self.now.signature) c.args.depth c.args.bytes.now.now (omega arith) (search rules) (search rules))
    (record { value = c.from.ensures ∙ byte_of _ ∙ same_two (λ x y. truth (eqb x y)) _ _ _ _ q.0 q.1; rest = q.2 })

pub next_other-returns-in-36 : goal.next_other-returns-in-36
next_other-returns-in-36 t c =
    let q = first_part (term_at (of c.args.self.now.signature) (c.args.depth - 1)) (value_of (of c.args.self.now.signature) c.args.self.now.mode.now) (drop 1 c.args.bytes.now.now) _ (tail 1 c.args.bytes.now.now)
    c.next-a-in-36.result c.next-a-in-36.new.bytes.now c.next-a-in-36.ensures.value c.next-a-in-36.ensures.rest in
    rw (at_negate (of c.args.self.now.signature) c.args.depth c.args.bytes.now.now (omega arith) (search rules) (search rules))
    (record { value = c.from-in-36.ensures ∙ byte_of _ ∙ ap (λ x. truth (eqb x 0)) q.0; rest = q.1 })

pub next_other-returns-after-a-eq1 : goal.next_other-returns-after-a-eq1
next_other-returns-after-a-eq1 t c =
    let q = both_parts (term_at (of c.args.self.now.signature) (c.args.depth - 1)) (value_of (of c.args.self.now.signature) c.args.self.now.mode.now) (drop 1 c.args.bytes.now.now) _ (tail 1 c.args.bytes.now.now)
    c.next-a-in-37.result c.next-b-in-37.result c.next-a-in-37.new.bytes.now c.next-b-in-37.new.bytes.now
    c.next-a-in-37.ensures.value c.next-a-in-37.ensures.rest c.next-b-in-37.ensures.value c.next-b-in-37.ensures.rest in
    let both : c.from-in-37.result ≡ truth (eqb c.next-a-in-37.result 1 && eqb c.next-b-in-37.result 1) = c.from-in-37.ensures ∙ byte_of _ ∙ ap truth (search rules) in
    rw (at_both (of c.args.self.now.signature) c.args.depth c.args.bytes.now.now (omega arith) (search rules) (search rules))
    (record { value = both ∙ same_two (λ x y. truth (eqb x 1 && eqb y 1)) _ _ _ _ q.0 q.1; rest = q.2 })

pub next_other-returns-in-None : goal.next_other-returns-in-None
next_other-returns-in-None t c =
    let s = of c.args.self.now.signature in
    let is = c.operation-o.ensures in
    rw (at_apply s c.args.depth c.args.bytes.now.now (omega arith) (search rules) (search rules), sym (ap (λ o. o.arguments) is) ∙ c.in-None.is)
    (record { value = c.result.ensures ∙ ap (λ o. result_of s o 0 0) is; rest = tail 2 c.args.bytes.now.now })

pub next_other-returns-in-One : goal.next_other-returns-in-One
next_other-returns-in-One t c =
    let s = of c.args.self.now.signature in
    let k = get_or c.args.bytes.now.now 1 0 in
    let is = c.operation-o.ensures in
    let q = first_part (term_at s (c.args.depth - 1)) (value_of s c.args.self.now.mode.now) (drop 2 c.args.bytes.now.now) _ (tail 2 c.args.bytes.now.now)
    c.next-a-in-One.result c.next-a-in-One.new.bytes.now c.next-a-in-One.ensures.value c.next-a-in-One.ensures.rest in
    rw (at_apply s c.args.depth c.args.bytes.now.now (omega arith) (search rules) (search rules), sym (ap (λ o. o.arguments) is) ∙ c.in-One.is)
    (record { value = c.result-in-One.ensures ∙ ap (λ o. result_of s o c.next-a-in-One.result 0) is ∙ ap (λ x. result_of s (op_of s k) x 0) q.0; rest = q.1 })

pub next_other-returns-in-Two : goal.next_other-returns-in-Two
next_other-returns-in-Two t c =
    let s = of c.args.self.now.signature in
    let k = get_or c.args.bytes.now.now 1 0 in
    let is = c.operation-o.ensures in
    let q = both_parts (term_at s (c.args.depth - 1)) (value_of s c.args.self.now.mode.now) (drop 2 c.args.bytes.now.now) _ (tail 2 c.args.bytes.now.now)
    c.next-a-in-Two.result c.next-b-in-Two.result c.next-a-in-Two.new.bytes.now c.next-b-in-Two.new.bytes.now
    c.next-a-in-Two.ensures.value c.next-a-in-Two.ensures.rest c.next-b-in-Two.ensures.value c.next-b-in-Two.ensures.rest in
    rw (at_apply s c.args.depth c.args.bytes.now.now (omega arith) (search rules) (search rules), applied_two (term_at s (c.args.depth - 1)) k _ _ (drop 2 c.args.bytes.now.now) (sym (ap (λ o. o.arguments) is)) c.in-Two.is)
    (record { value = c.result-in-Two.ensures ∙ ap (λ o. result_of s o c.next-a-in-Two.result c.next-b-in-Two.result) is ∙ same_two (result_of s (op_of s k)) _ _ _ _ q.0 q.1; rest = q.2 })

-- no term begins here: too few bytes, or no code
pub next_other-returns-in_default : goal.next_other-returns-in_default
next_other-returns-in_default t c =
    rw (at_nothing (of c.args.self.now.signature) c.args.depth c.args.bytes.now.now (omega arith) (grind (arith, nat_tests)) (grind (arith, nat_tests)) (grind (arith, nat_tests)) (grind (arith, nat_tests)) (grind (arith, nat_tests)) (grind (arith, nat_tests)))
    (record { value = refl; rest = refl })

pub next_other-returns-in_default-2 : goal.next_other-returns-in_default-2
next_other-returns-in_default-2 t c =
    rw (at_nothing (of c.args.self.now.signature) c.args.depth c.args.bytes.now.now (omega arith) (grind (arith, nat_tests)) (grind (arith, nat_tests)) (grind (arith, nat_tests)) (grind (arith, nat_tests)) (grind (arith, nat_tests)) (grind (arith, nat_tests)))
    (record { value = refl; rest = refl })

pub next_other-returns-in_default-3 : goal.next_other-returns-in_default-3
next_other-returns-in_default-3 t c =
    rw (at_nothing (of c.args.self.now.signature) c.args.depth c.args.bytes.now.now (omega arith) (grind (arith, nat_tests)) (grind (arith, nat_tests)) (grind (arith, nat_tests)) (grind (arith, nat_tests)) (grind (arith, nat_tests)) (grind (arith, nat_tests)))
    (record { value = refl; rest = refl })

pub next_other-returns-in_default-4 : goal.next_other-returns-in_default-4
next_other-returns-in_default-4 t c =
    rw (at_nothing (of c.args.self.now.signature) c.args.depth c.args.bytes.now.now (omega arith) (grind (arith, nat_tests)) (grind (arith, nat_tests)) (grind (arith, nat_tests)) (grind (arith, nat_tests)) (grind (arith, nat_tests)) (grind (arith, nat_tests)))
    (record { value = refl; rest = refl })
