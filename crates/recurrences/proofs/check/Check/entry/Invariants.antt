use Rattle.std.proofs.Common.{◌≡◌, ◌-◌}
use Rattle.recurrences.specs.Operations.{numbers}
use Rattle.recurrences.specs.Reading.{matrices_in, column_in}
use Rattle.recurrences.specs.Sums.{sum}
use Rattle.recurrences.proofs.check.Check.entry.Given as goal

abbrev pub invariant-loop-k : goal.invariant-loop-k
invariant-loop-k g l =
    let s = l.self in
    let O = numbers g.R.Ring.size (g.R.Ring.means s.ring) in
    l.total ≡ sum O l.k (λ k. sum O s.size (λ c. O.mul (matrices_in s.size s.size s.list.now (l.place - k) l.row c) (column_in s.size s.column.now k c)))
