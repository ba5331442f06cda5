use Rattle.recurrences.proofs.RunTheorems.{counts_are_bounded, settled_is_final}
use Rattle.recurrences.proofs.ContinuationTheorem.{continuation_is_unique}
use Rattle.recurrences.proofs.theorems.ends_are_final.Goals as goal

pub returns : goal.returns
returns c = record { counts_are_bounded = counts_are_bounded; settled_is_final = settled_is_final; continuation_is_unique = continuation_is_unique }
