use Rattle.std.proofs.Common.{◌≡◌, ℕ, ◌<◌, ◌≤◌, cond, ltb, length, get_or, drop}
use Rattle.rings.specs.Arithmetic.{reading}
use Rattle.runs.specs.Views.{no_vector, vector_of, coefficients_of}
use Rattle.runs.specs.Losses.{plus_times}
use Rattle.runs.specs.declared.tables.Vector.{Vector}
use Rattle.runs.proofs.Cut.{Cut}
use Rattle.runs.proofs.Part.{PartCut}
use Rattle.runs.proofs.lanes.Lanes.trade_coefficients.Given as goal

abbrev pub invariant-loop-k : goal.invariant-loop-k
invariant-loop-k g l =
    let a = reading g.F.Ring.size (g.F.Ring.means l.self.field) (g.F.Field.inverse l.self.field) in
    (length l.other ≡ 130)
    × ((x : ℕ) → l.k ≤ x → x < l.fn.count → get_or l.vector-items x no_vector ≡ get_or l.fn.own x no_vector)
    × PartCut {Y = ℕ → ℕ} no_vector (vector_of l.self.size)
    (λ k e. cond (ltb e l.self.size) (plus_times a l.c (coefficients_of l.self.size l.fn.own k e) (coefficients_of l.self.size l.fn.other k e)) 0)
    (coefficients_of l.self.size l.fn.own) (drop l.fn.count l.fn.own) l.k l.vector-items
    × Cut {Y = Vector} no_vector (λ (v : Vector). v) (λ k. get_or l.fn.own k no_vector) (λ k. get_or l.fn.other k no_vector) l.k l.other
