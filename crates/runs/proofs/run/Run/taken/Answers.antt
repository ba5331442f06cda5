use Rattle.std.proofs.Common.{sym}
use Rattle.rings.specs.Arithmetic.{reading}
use Rattle.runs.proofs.Recalled.{count_recorded}
use Rattle.runs.proofs.run.Run.taken.Goals as goal

pub returns : goal.returns
returns g c =
    let run = c.args.self.now in
    sym (count_recorded (reading g.F.Ring.size (g.F.Ring.means run.field) (g.F.Field.inverse run.field)) run.state run.sound.some)
