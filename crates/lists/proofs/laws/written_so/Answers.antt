use Rattle.lists.proofs.WrittenSo.{written_so}
use Rattle.lists.proofs.laws.written_so.Goals as goal

pub returns : goal.returns
returns c = written_so
