use Rattle.std.proofs.Common.{◌/◌, ◌<◌, div-lt_iff_lt-mul, arith}
use Rattle.runs.proofs.run.continuation.write_matrix.Goals as goal

pub bounds-matrix-t : goal.bounds-matrix-t
bounds-matrix-t c = let row : c.loop-t.t / c.args.size < c.args.size = (div-lt_iff_lt-mul c.requires.some).1 (omega arith) in let size = c.requires.size in omega arith
