use Rattle.std.proofs.Common.{◌<◌, ℕ, List, vec_items, vec_len, sym, ap, ◌∙◌, arith, rules}
use Rattle.std.proofs.lemmas.Result.{on_ok_weaker}
use Rattle.format.specs.declared.command.Direction.{Direction}
use Rattle.format.specs.declared.command.Direction.TheVariants.{In, Out}
use Rattle.net.specs.Reading.{linked, renew}
use Rattle.net.specs.System.{Transition, no_transition, transitions_told}
use Rattle.net.specs.Held.{Once}
use Rattle.net.proofs.Held.{once_put, once_take}
use Rattle.net.proofs.Linked.{added_put, added_take, last_puts, last_takes}
use Rattle.net.proofs.parts.transitions.Transitions.add_arc.Goals as goal

pub returns-in-In-clause-told : goal.returns-in-In-clause-told
returns-in-In-clause-told c =
    let s = c.keep.new.self in
    let some : 0 < vec_len s.list = search rules in
    let p = c.args.place in
    let to : Direction → List ℕ → List Transition → List Transition = λ d b l. renew l no_transition (linked d (record { place = p; bag = b })) in
    on_ok_weaker c.link.result
    (λ e. added_take (vec_items s.list) (vec_items s.takes) (vec_items s.puts) (vec_items s.bytes) s.in_place (vec_len s.list) s.list.ok.0 some c.in-Some.t.now c.in-Some.ensures.value (record { place = p; bag = c.in_ok-bag.bag }) _ _ e.0 e.1
    ∙ ap (λ b. to In b (transitions_told s)) c.in_ok-bag.ensures.bytes
    ∙ ap (to In c.args.bag.now) c.keep.ensures.told
    ∙ ap (λ d. to d c.args.bag.now (transitions_told c.args.self.now)) (sym c.in-In.is))
    c.link.ensures.ok

pub returns-in-Out-clause-told : goal.returns-in-Out-clause-told
returns-in-Out-clause-told c =
    let s = c.keep.new.self in
    let some : 0 < vec_len s.list = search rules in
    let p = c.args.place in
    let to : Direction → List ℕ → List Transition → List Transition = λ d b l. renew l no_transition (linked d (record { place = p; bag = b })) in
    on_ok_weaker c.link-in-Out.result
    (λ e. added_put (vec_items s.list) (vec_items s.takes) (vec_items s.puts) (vec_items s.bytes) s.in_place (vec_len s.list) s.list.ok.0 some c.in-Some.t.now c.in-Some.ensures.value (record { place = p; bag = c.in_ok-bag.bag }) _ _ e.0 e.1
    ∙ ap (λ b. to Out b (transitions_told s)) c.in_ok-bag.ensures.bytes
    ∙ ap (to Out c.args.bag.now) c.keep.ensures.told
    ∙ ap (λ d. to d c.args.bag.now (transitions_told c.args.self.now)) (sym c.in-Out.is))
    c.link-in-Out.ensures.ok

pub returns-in-In-clause-no_more : goal.returns-in-In-clause-no_more
returns-in-In-clause-no_more c =
    let s = c.keep.new.self in
    let old = c.args.self.now in
    let k = c.in_ok-bag.ensures in
    let some : 0 < vec_len s.list = search rules in
    let t = c.in-Some.t.now in
    on_ok_weaker c.link.result
    (λ e f h.
    let was : Once (vec_items s.list) (vec_items s.takes) (vec_items s.puts) (vec_items old.bytes) = rw (k.others.0, k.others.1, k.others.2) h in
    rw (e.0, e.1) (once_take (vec_items s.list) (vec_items s.takes) (vec_items s.puts) (vec_items old.bytes) (vec_items s.bytes) was (vec_len s.list) s.list.ok.0 some t c.in-Some.ensures.value
    (record { place = c.args.place; bag = c.in_ok-bag.bag }) (k.place.0 ∙ old.bytes.ok.0) (omega (arith, k.place.0, k.place.1, k.more, s.bytes.ok.0))
    (last_takes (vec_items s.list) (vec_items s.takes) (vec_items s.puts) (vec_items s.bytes) s.in_place (vec_len s.list) s.list.ok.0 some t c.in-Some.ensures.value)))
    c.link.ensures.ok

pub returns-in-Out-clause-no_more : goal.returns-in-Out-clause-no_more
returns-in-Out-clause-no_more c =
    let s = c.keep.new.self in
    let old = c.args.self.now in
    let k = c.in_ok-bag.ensures in
    let some : 0 < vec_len s.list = search rules in
    let t = c.in-Some.t.now in
    on_ok_weaker c.link-in-Out.result
    (λ e f h.
    let was : Once (vec_items s.list) (vec_items s.takes) (vec_items s.puts) (vec_items old.bytes) = rw (k.others.0, k.others.1, k.others.2) h in
    rw (e.0, e.1) (once_put (vec_items s.list) (vec_items s.takes) (vec_items s.puts) (vec_items old.bytes) (vec_items s.bytes) was (vec_len s.list) s.list.ok.0 some t c.in-Some.ensures.value
    (record { place = c.args.place; bag = c.in_ok-bag.bag }) (k.place.0 ∙ old.bytes.ok.0) (omega (arith, k.place.0, k.place.1, k.more, s.bytes.ok.0))
    (last_puts (vec_items s.list) (vec_items s.takes) (vec_items s.puts) (vec_items s.bytes) s.in_place (vec_len s.list) s.list.ok.0 some t c.in-Some.ensures.value)))
    c.link-in-Out.ensures.ok
