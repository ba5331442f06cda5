use Rattle.std.proofs.Common.{◌++◌, drop, replicate, arith}
use mathlib.Core.Path.{fun_ext}
use Rattle.std.proofs.lemmas.List.{length-take-le}
use Rattle.runs.specs.Views.{no_vector, zero_vector}
use Rattle.runs.specs.Equations.{entries_of}
use Rattle.runs.proofs.Cut.{cut_to}
use Rattle.runs.proofs.Squares.{zero_rows}
use Rattle.runs.proofs.Part.{part_more, part_start}
use Rattle.runs.proofs.lanes.Lanes.solution.Goals as goal

pub loop-r-init : goal.loop-r-init
loop-r-init g c = part_start no_vector entries_of _ _ c.args.self.size (replicate 4 zero_vector) zero_rows

pub loop-r-preserved : goal.loop-r-preserved
loop-r-preserved g c =
    part_more no_vector entries_of _ _ (drop c.args.self.size (replicate 4 zero_vector)) c.loop-r.row-items c.loop-r.r c.solution_row.result (omega arith) c.loop-r.invariant (fun_ext c.solution_row.ensures)

pub returns : goal.returns
returns g c =
    let zeros = replicate 4 zero_vector in
    cut_to no_vector entries_of _ _ (c.loop-r.row-items ++ drop c.args.self.size zeros) c.loop-r.r c.args.self.size (omega (arith, length-take-le c.args.self.size zeros)) c.loop-r.invariant
