use Rattle.std.proofs.Common.{◌≡◌, ◌+◌, ◌≤◌, length}
use Rattle.lists.specs.Bytes.{line_end}
use Rattle.lists.specs.Cursor.{left}
use Rattle.lists.specs.FileChecks.{checked_body}
use Rattle.lists.specs.Limits.{greatest_length}
use Rattle.lists.proofs.body.check_body.Given as goal

abbrev pub invariant-loop-line : goal.invariant-loop-line
invariant-loop-line l = (l.n + length (left line_end l.lines.parts.rest) ≤ greatest_length)
    × (checked_body l.header l.n (l.lines.number + 1) (left line_end l.lines.parts.rest) ≡ checked_body l.header 0 (l.initial.lines.number + 1) (left line_end l.initial.lines.parts.rest))

abbrev pub decreases-loop-line : goal.decreases-loop-line
decreases-loop-line l = length (left line_end l.lines.parts.rest)
