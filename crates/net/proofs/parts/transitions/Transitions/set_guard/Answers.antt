use Rattle.std.proofs.Common.{◌<◌, ℕ, List, refl, vec_items, vec_len, ap, ◌∙◌, arith, rules}
use Rattle.net.specs.Held.{Once}
use Rattle.net.specs.Reading.{guarded, newest, renew}
use Rattle.net.specs.System.{Transition, no_transition, transition_told}
use Rattle.net.proofs.Held.{once_guard, unguarded}
use Rattle.net.proofs.Renewed.{told_anew}
use Rattle.net.proofs.parts.transitions.Transitions.set_guard.Goals as goal

pub returns-in-Some-clause-told : goal.returns-in-Some-clause-told
returns-in-Some-clause-told c =
    let s = c.keep.new.self in
    let some : 0 < vec_len s.list = search rules in
    let t = c.in-Some.t.now in
    let told = transition_told (vec_items s.takes) (vec_items s.puts) (vec_items s.bytes) in
    told_anew told told (vec_items s.list) (vec_len s.list) no_transition (guarded c.args.term.now) t _ s.list.ok.0 some c.in-Some.ensures.value (λ k d l. refl)
    (ap told c.set_guard.ensures ∙ ap (λ (b : List ℕ). guarded b (told t)) c.in_ok-term.ensures.bytes)
    ∙ ap (λ (l : List Transition). renew l no_transition (guarded c.args.term.now)) c.keep.ensures.told

pub returns-in-Some-clause-no_more : goal.returns-in-Some-clause-no_more
returns-in-Some-clause-no_more c f h =
    let s = c.keep.new.self in
    let old = c.args.self.now in
    let k = c.in_ok-term.ensures in
    let some : 0 < vec_len s.list = search rules in
    let t = c.in-Some.t.now in
    let was : Once (vec_items s.list) (vec_items s.takes) (vec_items s.puts) (vec_items old.bytes) = rw (k.others.0, k.others.1, k.others.2) h in
    let none = unguarded s (vec_len s.list) t s.list.ok.0 some c.in-Some.ensures.value (ap (λ (l : List Transition). (newest l no_transition).guard) k.told ∙ f.1) in
    rw c.set_guard.ensures (once_guard (vec_items s.list) (vec_items s.takes) (vec_items s.puts) (vec_items old.bytes) (vec_items s.bytes) was (vec_len s.list) s.list.ok.0 some t c.in-Some.ensures.value c.in_ok-term.term
    (k.place.0 ∙ old.bytes.ok.0) (omega (arith, k.place.0, k.place.1, k.more, s.bytes.ok.0)) none)
