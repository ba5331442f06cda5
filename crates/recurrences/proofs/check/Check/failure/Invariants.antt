use Rattle.std.proofs.Common.{◌≡◌, ◌-◌}
use Rattle.recurrences.specs.Fits.{first_failure}
use Rattle.recurrences.proofs.check.Check.failure.Given as goal

abbrev pub invariant-loop-place : goal.invariant-loop-place
invariant-loop-place g l =
    let s = l.self in
    let failure-from = first_failure g.R.Ring.size (g.R.Ring.means s.ring) s.size s.degree s.list.now s.column.now in
    failure-from s.degree (l.count - s.degree) ≡ failure-from l.place (l.count - l.place)
