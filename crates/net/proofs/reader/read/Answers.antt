use Rattle.std.proofs.Common.{◌<◌, arith}
use Rattle.std.proofs.lemmas.List.Elements.{All-from_get_or}
use Rattle.net.specs.WellFormed.{Bytes}
use Rattle.net.specs.System.{told_by}
use Rattle.net.proofs.WellFormedness.{reads_well_formed}
use Rattle.net.proofs.reader.read.Goals as goal

pub invariant_of-net : goal.invariant_of-net
invariant_of-net c =
    let bytes : Bytes c.args.file.now = All-from_get_or (λ b. b < 256) c.args.file.now 0 (λ i h. omega (arith, c.type_inv.file i)) in
    record { well_formed = ∣ reads_well_formed c.load.result c.args.file.now (told_by c.load.new.parts) bytes c.load.ensures.told ∣₁; no_more = ∣ c.load.ensures.no_more ∣₁ }
