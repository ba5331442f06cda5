use Rattle.std.proofs.Common.{eqb, arith}
use Rattle.std.proofs.lemmas.List.Splits.{length-slice_split}
use Rattle.lists.proofs.line.Line.count.Goals as goal

pub returns : goal.returns
returns c = omega (arith, length-slice_split (λ b. eqb b 44) c.args.self.bytes.now, c.count_marks.ensures)
