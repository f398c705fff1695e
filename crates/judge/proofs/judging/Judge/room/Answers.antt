use Rattle.std.proofs.Common.{◌≡◌, ◌<◌, length, get_or, pos, arith, of_z, to_z, w32, SFits, rules}
use Rattle.std.proofs.lemmas.Int.{to_z-of_z}
use Rattle.term.specs.Worth.{weight_of}
use Rattle.judge.specs.Calls.{net_of}
use Rattle.judge.proofs.Limits.{tells_cap}
use Rattle.judge.proofs.judging.Judge.room.Goals as goal

pub returns : goal.returns
returns g c =
    let m = c.args.m.now in
    let d = g.M.WeightDomain.meaning m in
    let codes = c.args.self.now.codes.now in
    let here : c.args.cell < length codes = omega (arith, c.requires.long) in
    let read : c.weight-w.result ≡ d.weight (to_z w32 (of_z w32 (get_or codes c.args.cell (pos 0)))) = rw c.codes.ensures at c.weight-w.ensures in
    let fits : SFits w32 (get_or codes c.args.cell (pos 0)) = search rules in
    let is : c.weight-w.result ≡ weight_of d codes c.args.cell = simp to_z-of_z at read in
    tells_cap (g.met.M.WeightDomain.lawful m) codes (g.met.M.Measuring.measured m) c.requires.plain (net_of c.args.self.now) c.args.cell here
    c.initial_value-v.result c.weight-w.result c.largest.result c.initial_value-v.ensures is c.largest.ensures.plains
