use Rattle.std.proofs.Common.{ℕ, cond, ltb, drop}
use Rattle.rings.specs.Arithmetic.{reading}
use Rattle.runs.specs.Views.{no_vector, vector_of, coefficients_of}
use Rattle.runs.specs.Losses.{plus_times}
use Rattle.runs.proofs.Part.{PartCut}
use Rattle.runs.proofs.lanes.Lanes.add_multiples.Given as goal

abbrev pub invariant-loop-k : goal.invariant-loop-k
invariant-loop-k g l =
    let a = reading g.F.Ring.size (g.F.Ring.means l.self.field) (g.F.Field.inverse l.self.field) in
    PartCut {Y = ℕ → ℕ} no_vector (vector_of l.self.size)
    (λ k e. cond (ltb e l.self.size) (plus_times a l.c (coefficients_of l.self.size l.fn.own k e) (coefficients_of l.self.size l.other k e)) 0)
    (coefficients_of l.self.size l.fn.own) (drop l.fn.count l.fn.own) l.k l.vector-items
