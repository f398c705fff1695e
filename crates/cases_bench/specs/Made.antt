-- What the examples' calls of a bench do: each is the call of the bench that it names.
use Rattle.std.specs.Prelude.{◌≡◌, Ok, Result}
use Rattle.term.specs.declared.fault.Fault.{Fault}
use Rattle.net.specs.System.{SystemNet}
use Rattle.bench.specs.Calls.{BackCalled, Begun, FireCalled, Lent}
use Rattle.cases_bench.specs.declared.calls.Call.{Call}
use Rattle.cases_bench.specs.declared.calls.Call.TheVariants as call

abbrev pub Made : SystemNet → Call → Lent → Lent → Result (Unit {0}) Fault → Type 0
Made n (call.Fire t m) l k r = FireCalled n (record { transition = t; mode = m }) l k r
Made n call.Back l k r = BackCalled n l k r
Made n call.Restart l k r = (r ≡ Ok tt) × Begun n l k
