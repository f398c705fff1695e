use Rattle.std.proofs.Common.{sym, subst, ap}
use Rattle.net.specs.System.{SystemNet}
use Rattle.net.specs.WellFormed.{WellFormed}
use Rattle.net.proofs.Held.{none_no_more}
use Rattle.net.proofs.WellFormedness.{well_formed_empty}
use Rattle.net.proofs.net.Net.new.Goals as goal

pub invariant_of-result : goal.invariant_of-result
invariant_of-result c =
    let e = c.in_ok-new.ensures in
    record {
      well_formed = ∣ subst WellFormed (sym e.told) well_formed_empty ∣₁;
      no_more = ∣ none_no_more c.in_ok-new.field-0.transitions (ap (λ (n : SystemNet). n.transitions) e.told) e.nothing ∣₁;
    }
