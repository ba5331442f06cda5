use Rattle.std.proofs.Common.{◌≡◌}
use Rattle.runs.specs.Candidates.{best_of}
use Rattle.runs.specs.Views.{degree_at}
use Rattle.runs.proofs.pivot.best.Given as goal

abbrev pub invariant-loop-j : goal.invariant-loop-j
invariant-loop-j l = l.best ≡ best_of l.entries (degree_at l.columns) l.j
