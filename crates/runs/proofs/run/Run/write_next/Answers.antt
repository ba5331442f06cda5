use Rattle.std.proofs.Common.{sym}
use Rattle.runs.specs.Equations.{matrix_of}
use Rattle.runs.proofs.NextWritten.{written_codes, written_zeros}
use Rattle.runs.proofs.run.Run.write_next.Goals as goal

pub returns : goal.returns
returns g c =
    let q = g.F.Ring.size in
    let m = g.F.Ring.means c.args.self.now.field in
    let inverse = g.F.Field.inverse c.args.self.now.field in
    let laws = g.met.F.Ring.lawful c.args.self.now.field in
    let inverts = g.met.F.Field.inverts c.args.self.now.field in
    let s = c.args.self.now.state in
    let before = c.args.place.now in
    let after = c.write_matrix.new.place in
    let equations = c.equations.result in
    let x = matrix_of c.solve-matrix.result in
    let k = c.write_matrix.ensures in
    record {
      before = k.before;
      codes = written_codes q m inverse laws inverts s c.args.self.now.sound before after c.args.i equations x c.equations.ensures c.solve-matrix.ensures.solution k.written;
      zeros = written_zeros q m inverse laws inverts s c.args.self.now.sound before after c.args.i equations x c.equations.ensures c.solve-matrix.ensures.solution k.written
          (λ y lt. sym (k.before y lt));
    }
