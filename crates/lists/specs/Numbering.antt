-- The number, the line and the field of each fault.
use Rattle.std.specs.Prelude.{ℕ}
use Rattle.recurrences.specs.Numbering.{number}
use Rattle.lists.specs.declared.fault.FileFault.{FileFault}
use Rattle.lists.specs.declared.fault.FileFault.TheVariants.{Whole, InLine, InNumber, InRun}
use Rattle.lists.specs.declared.fault.LineFault.{LineFault}
use Rattle.lists.specs.declared.fault.LineFault.TheVariants.{Letter, Count, Ring, EndCount}
use Rattle.lists.specs.declared.fault.NumberFault.{NumberFault}
use Rattle.lists.specs.declared.fault.NumberFault.TheVariants.{NotNumber}
use Rattle.lists.specs.declared.fault.WholeFault.{WholeFault}
use Rattle.lists.specs.declared.fault.WholeFault.TheVariants.{TooLong, Place, Unended}
use Rattle.lists.specs.declared.fault.WriteFault.{WriteFault}
use Rattle.lists.specs.declared.fault.WriteFault.TheVariants.{OfList, OfText}

abbrev pub whole_number : WholeFault → ℕ
whole_number TooLong = 10
whole_number Place = 11
whole_number Unended = 12

abbrev pub line_number : LineFault → ℕ
line_number Letter = 13
line_number Count = 14
line_number Ring = 16
line_number EndCount = 17

abbrev pub field_number : NumberFault → ℕ
field_number NotNumber = 15

abbrev pub number_of : FileFault → ℕ
number_of (Whole e) = whole_number e
number_of (InLine f) = line_number f.fault
number_of (InNumber f) = field_number f.fault
number_of (InRun f) = number f.fault

abbrev pub write_number : WriteFault → ℕ
write_number (OfList e) = number e
write_number (OfText e) = whole_number e

-- a fault of the whole file has line 0 and field 0
abbrev pub line_of : FileFault → ℕ
line_of (Whole e) = 0
line_of (InLine f) = f.line
line_of (InNumber f) = f.line
line_of (InRun f) = f.line

abbrev pub field_of : FileFault → ℕ
field_of (Whole e) = 0
field_of (InLine f) = f.field
field_of (InNumber f) = f.field
field_of (InRun f) = f.field
