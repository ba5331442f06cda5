use Rattle.rings.proofs.Decoding.{decodes}
use Rattle.rings.proofs.tie.Tie.told.Goals as goal

pub returns : goal.returns
returns g c =
    decodes g.F.Ring.size (g.F.Ring.means c.args.self.now.field) (g.F.Field.inverse c.args.self.now.field) (g.met.F.Ring.lawful c.args.self.now.field) c.args.self.now.table
