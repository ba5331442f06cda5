use Rattle.std.proofs.Common.{get_or, ap, arith}
use Rattle.runs.specs.Recorded.{recorded}
use Rattle.analysis.proofs.Degrees.{shown_small}
use Rattle.analysis.proofs.finding.numbers_of.Goals as goal

pub overflow_cast-result-3 : goal.overflow_cast-result-3
overflow_cast-result-3 g c =
    let r = c.args.run.now in
    omega (arith, ap (λ s. get_or s.generator_degrees 0 0) c.standing-standing.ensures.standing, shown_small _ r.state.size r.bound (recorded r.state) r.sound.small r.bounded c.standing-standing.ensures.promise 0 (omega arith))

pub overflow_cast-result-4 : goal.overflow_cast-result-4
overflow_cast-result-4 g c =
    let r = c.args.run.now in
    omega (arith, ap (λ s. get_or s.generator_degrees 1 0) c.standing-standing.ensures.standing, shown_small _ r.state.size r.bound (recorded r.state) r.sound.small r.bounded c.standing-standing.ensures.promise 1 (omega arith))

pub overflow_cast-result-5 : goal.overflow_cast-result-5
overflow_cast-result-5 g c =
    let r = c.args.run.now in
    omega (arith, ap (λ s. get_or s.generator_degrees 2 0) c.standing-standing.ensures.standing, shown_small _ r.state.size r.bound (recorded r.state) r.sound.small r.bounded c.standing-standing.ensures.promise 2 (omega arith))

pub overflow_cast-result-6 : goal.overflow_cast-result-6
overflow_cast-result-6 g c =
    let r = c.args.run.now in
    omega (arith, ap (λ s. get_or s.generator_degrees 3 0) c.standing-standing.ensures.standing, shown_small _ r.state.size r.bound (recorded r.state) r.sound.small r.bounded c.standing-standing.ensures.promise 3 (omega arith))
