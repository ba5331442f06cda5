use Rattle.recurrences.proofs.Recorded.{worked_recordings}
use Rattle.recurrences.proofs.worked.compute_recordings.Goals as goal

pub returns : goal.returns
returns c = worked_recordings
