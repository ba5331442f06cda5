use Rattle.rings.proofs.Decoding.{decodes}
use Rattle.rings.proofs.tie.Tie.new.Goals as goal

pub returns-clause-arithmetic : goal.returns-clause-arithmetic
returns-clause-arithmetic g c = decodes g.F.Ring.size (g.F.Ring.means c.args.field) (g.F.Field.inverse c.args.field) (g.met.F.Ring.lawful c.args.field) c.result-1.given.0
