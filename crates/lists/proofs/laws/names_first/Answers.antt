use Rattle.lists.proofs.FirstFaults.{names_first}
use Rattle.lists.proofs.laws.names_first.Goals as goal

pub returns : goal.returns
returns c = names_first
