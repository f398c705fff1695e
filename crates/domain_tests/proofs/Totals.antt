-- One weight more, from the laws alone.
use Rattle.std.proofs.Common.{◌≡◌, ℕ, ◌+◌, ◌*◌, ◌<◌, ◌≤◌, Bool, true, false, cond, leb, leb-true, leb-false, List, get_or, length, ℤ, pos, ap, ◌∙◌, refl, add-one, arith}
use Rattle.domain.specs.Meaning.{Added, Grown, Laws, Meaning, copies, largest_sum, largest_weight}
use Rattle.domain.proofs.Copies.{copies_one}
use Rattle.domain_tests.specs.Total.{running_to, total_to, weight_at, within}

module _ {V : Type 0} {d : Meaning V} (l : Laws d) (codes : List ℤ) where
  pub next : (i : ℕ) (sum r : V) → i < length codes → length codes * largest_weight ≤ largest_sum → d.holds sum → d.size sum ≤ i * largest_weight → sum ≡ total_to d codes i
      → Grown d sum 1 (get_or codes i (pos 0)) r → (d.size r ≤ (i + 1) * largest_weight) × (r ≡ total_to d codes (i + 1))
  next i sum r few room h s e g =
      let w = d.weight (get_or codes i (pos 0)) in
      let one : copies d 1 w ≡ w = copies_one l w (l.weight_holds (get_or codes i (pos 0))) in
      let is : r ≡ d.plus sum (copies d 1 w) = g.exact (omega arith) in
      (omega (arith, g.small h), rw add-one (is ∙ ap (d.plus sum) one ∙ ap (λ (x : V). d.plus x w) e))

  within_by : (v w r : V) (b : Bool) → leb (d.size v + d.size w) largest_sum ≡ b → copies d 1 w ≡ w → Added d v 1 w r → r ≡ cond b (d.plus v w) d.nil
  within_by v w r true p one a = a.exact (omega (arith, leb-true (d.size v + d.size w) largest_sum p)) ∙ ap (d.plus v) one
  within_by v w r false p one a = a.beyond (omega (arith, leb-false (d.size v + d.size w) largest_sum p))

  pub runs : (i : ℕ) (sum r : V) → sum ≡ running_to d codes i → Grown d sum 1 (get_or codes i (pos 0)) r → r ≡ running_to d codes (i + 1)
  runs i sum r e g =
      let w = weight_at d codes i in
      let is : r ≡ within d sum w = within_by sum w r (leb (d.size sum + d.size w) largest_sum) refl (copies_one l w (l.weight_holds (get_or codes i (pos 0)))) g.added in
      rw add-one (is ∙ ap (λ (x : V). within d x w) e)
