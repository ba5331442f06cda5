use Rattle.lists.proofs.Listable.{list_ok}
use Rattle.lists.proofs.ReadBack.{reads_back}
use Rattle.lists.proofs.laws.reads_back.Goals as goal

pub returns : goal.returns
returns c = λ h cs n e. reads_back h cs (list_ok h cs n e).0
