use Rattle.std.proofs.Common.{refl}
use Rattle.lists.proofs.Writing.{written_one}
use Rattle.lists.proofs.put.put.Goals as goal

pub returns : goal.returns
returns g c = record { next = refl; place = written_one c.args.place.now c.args.at c.args.x c.requires }
