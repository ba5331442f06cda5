use Rattle.std.proofs.Common.{◌*◌, length, sym, ◌∙◌}
use Rattle.recurrences.proofs.FirstFailure.{failure_later, failure_done}
use Rattle.recurrences.proofs.Rooms.{matrix_room}
use Rattle.recurrences.proofs.check.Check.failure.Goals as goal

pub failing_row-requires : goal.failing_row-requires
failing_row-requires g c =
    let s = c.args.self.now in
    record { place_inside = matrix_room c.loop-place.place (s.size * s.size) (length s.list.now) c.loop-place-test.true }

pub loop-place-preserved : goal.loop-place-preserved
loop-place-preserved g c =
    let s = c.args.self.now in
    c.loop-place.invariant ∙ failure_later _ _ s.size s.degree s.list.now s.column.now c.loop-place.place _ c.loop-place-test.true (sym c.in_default.ensures.row)

pub returns : goal.returns
returns g c =
    let s = c.args.self.now in
    sym (c.loop-place.invariant ∙ failure_done g.R.Ring.size (g.R.Ring.means s.ring) s.size s.degree s.list.now s.column.now c.loop-place.place _ c.loop-place-test.false)
