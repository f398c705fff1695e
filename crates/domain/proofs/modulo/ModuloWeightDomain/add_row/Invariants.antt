use Rattle.std.proofs.Common.{◌≡◌, ◌*◌, ◌%◌, ◌≤◌, length}
use Rattle.domain.specs.Domains.{modulo}
use Rattle.domain.specs.Meaning.{row_to}
use Rattle.domain.proofs.modulo.ModuloWeightDomain.add_row.Given as goal

-- the row so far, not reduced
abbrev pub invariant-loop-count : goal.invariant-loop-count
invariant-loop-count l = (l.row % l.self.k ≡ row_to (modulo l.self.k) l.counts l.codes (length l.yielded)) × (l.row ≤ 255 * 65535 * length l.yielded)
