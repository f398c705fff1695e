-- The algebraic system net that a net in memory holds.
use Rattle.net.specs.System.{SystemNet, told_by}
use Rattle.net.specs.declared.net.Net.{Net}

-- the net as a plain value
abbrev pub system : Net → SystemNet
system n = told_by n.parts
