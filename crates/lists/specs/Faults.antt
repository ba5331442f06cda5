-- Faults with their line and field.
use Rattle.std.specs.Prelude.{ℕ, Err, Result}
use Rattle.lists.specs.Checks.{carried}
use Rattle.lists.specs.declared.fault.LineFault.{LineFault}
use Rattle.lists.specs.declared.fault.Found.{Found}
use Rattle.lists.specs.declared.fault.FileFault.{FileFault}
use Rattle.lists.specs.declared.fault.FileFault.TheVariants.{InLine}

abbrev pub found : {E : Type 0} → ℕ → ℕ → E → Found E
found line field e = record { fault = e; line = line; field = field }

-- a result whose fault is given its line and field
abbrev pub located : {X E : Type 0} → ℕ → ℕ → Result X E → Result X (Found E)
located line field r = carried (found line field) r

-- the refusal of a file for a fault of one of its lines
abbrev pub line_refused : {X : Type 0} → LineFault → ℕ → ℕ → Result X FileFault
line_refused e line field = Err (InLine (found line field e))
