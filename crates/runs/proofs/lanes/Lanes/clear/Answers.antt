use Rattle.std.proofs.Common.{get_or, ap}
use Rattle.rings.specs.Arithmetic.{reading}
use Rattle.runs.specs.Equations.{no_equation, equation_of, equations_of}
use Rattle.runs.proofs.OneTurn.{clears_by}
use Rattle.runs.proofs.Swaps.{swapped_from}
use Rattle.runs.proofs.lanes.Lanes.clear.Goals as goal

pub returns : goal.returns
returns g c =
    let before = c.args.equations.now in
    let after = c.swap.new.self in
    let places = c.swap.ensures.by_index in
    clears_by (reading g.F.Ring.size (g.F.Ring.means c.args.self.field) (g.F.Field.inverse c.args.self.field)) c.args.self.size c.args.c c.pivot-p.result
    (equations_of before) (equations_of after) (equations_of c.clear_others.new.equations) c.inverse_or_zero-inverse.result
    c.pivot-p.ensures.from c.pivot-p.ensures.below c.pivot-p.ensures.none
    (λ j. ap equation_of (swapped_from (λ i. get_or after i no_equation) (λ i. get_or before i no_equation) c.args.c c.pivot-p.result
    (places.0 no_equation) (places.1 no_equation) (λ i. places.2 i no_equation) j))
    c.inverse_or_zero-inverse.ensures c.clear_others.ensures
