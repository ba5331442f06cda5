use Rattle.std.proofs.Common.{◌≡◌, ℕ, ◌<◌, ◌≢◌, ◌++◌, get_or, drop, ap, ◌∙◌, arith, length-set, get_or-set_other}
use Rattle.std.proofs.lemmas.List.{length-take-le}
use Rattle.rings.specs.Arithmetic.{reading}
use Rattle.runs.specs.Views.{no_vector, vector_of, coefficients_of}
use Rattle.runs.specs.declared.tables.Vector.{Vector}
use Rattle.runs.proofs.Cut.{cut_more, cut_here, cut_end}
use Rattle.runs.proofs.Part.{part_here, part_more}
use Rattle.runs.proofs.Vectors.{vector_plus_times}
use Rattle.runs.proofs.lanes.Lanes.trade_coefficients.Goals as goal

pub loop-k-preserved : goal.loop-k-preserved
loop-k-preserved g c =
    let a = reading g.F.Ring.size (g.F.Ring.means c.args.self.field) (g.F.Field.inverse c.args.self.field) in
    let N = c.args.self.size in
    let k = c.loop-k.k in
    let own = c.loop-k.vector-items in
    let rest = drop c.args.count c.args.own.now in
    let other = c.loop-k.other in
    let old = get_or own k no_vector in
    let new = c.add_multiple.new.own in
    let (long-other, left, done, done-other) = c.loop-k.invariant in
    let below : k < c.args.count = omega (arith, length-take-le c.args.count c.args.own.now) in
    let here : get_or other k no_vector ≡ get_or c.args.other.now k no_vector = cut_here no_vector (λ (v : Vector). v) _ _ other k done-other in (
      length-set other k old ∙ long-other,
      λ x h xn. let ne : x ≢ k = omega arith in get_or-set_other own k x new no_vector ne ∙ left x (omega arith) xn,
      part_more no_vector (vector_of N) _ _ rest own k new (omega arith) done
          (vector_plus_times a N c.args.c old (get_or other k no_vector) new (coefficients_of N c.args.own.now k) (coefficients_of N c.args.other.now k)
          (part_here no_vector (vector_of N) _ _ rest own k (omega arith) done) (ap {B = ℕ → ℕ} (vector_of N) here) c.add_multiple.ensures),
      cut_more no_vector (λ (v : Vector). v) _ _ other k old (omega arith) done-other (left k (omega arith) below),
    )

pub returns-clause-own : goal.returns-clause-own
returns-clause-own g c =
    cut_end no_vector (vector_of c.args.self.size) _ _ (c.loop-k.vector-items ++ drop c.args.count c.args.own.now) c.loop-k.k c.args.count
    (omega (arith, length-take-le c.args.count c.args.own.now)) c.loop-k.invariant.2
