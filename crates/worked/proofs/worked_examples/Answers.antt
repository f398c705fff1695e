use Rattle.worked.proofs.Computed.{worked_examples}
use Rattle.worked.proofs.worked_examples.Goals as goal

pub returns-clause-hold : goal.returns-clause-hold
returns-clause-hold c = worked_examples
