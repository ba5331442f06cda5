use Rattle.std.proofs.Common.{◌++◌, drop, get_or, refl, arith}
use Rattle.std.proofs.lemmas.List.{length-take-le}
use Rattle.rings.specs.Arithmetic.{reading}
use Rattle.runs.specs.Views.{no_vector, vector_of, coefficients_of}
use Rattle.runs.proofs.Cut.{cut_end}
use Rattle.runs.proofs.Part.{part_here, part_more}
use Rattle.runs.proofs.Vectors.{vector_plus_times}
use Rattle.runs.proofs.lanes.Lanes.add_multiples.Goals as goal

pub loop-k-preserved : goal.loop-k-preserved
loop-k-preserved g c =
    let a = reading g.F.Ring.size (g.F.Ring.means c.args.self.field) (g.F.Field.inverse c.args.self.field) in
    let N = c.args.self.size in
    let k = c.loop-k.k in
    let own = c.loop-k.vector-items in
    let rest = drop c.args.count c.args.own.now in
    part_more no_vector (vector_of N) _ _ rest own k c.add_multiple.new.own (omega arith) c.loop-k.invariant
    (vector_plus_times a N c.args.c (get_or own k no_vector) (get_or c.args.other.now k no_vector) c.add_multiple.new.own (coefficients_of N c.args.own.now k) (coefficients_of N c.args.other.now k)
    (part_here no_vector (vector_of N) _ _ rest own k (omega arith) c.loop-k.invariant) refl c.add_multiple.ensures)

pub returns : goal.returns
returns g c =
    cut_end no_vector (vector_of c.args.self.size) _ _ (c.loop-k.vector-items ++ drop c.args.count c.args.own.now) c.loop-k.k c.args.count
    (omega (arith, length-take-le c.args.count c.args.own.now)) c.loop-k.invariant
