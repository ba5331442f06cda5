-- The answer of the C form: one number.
use Rattle.std.specs.Prelude.{ℕ, ◌+◌, ◌*◌, ◌^◌, Ok, Err, Result}
use Rattle.lists.specs.Numbering.{number_of, line_of, field_of}
use Rattle.lists.specs.declared.fault.FileFault.{FileFault}

-- a refusal's number, line and field
abbrev pub packed : FileFault → ℕ
packed e = number_of e * 2 ^ 32 + line_of e * 2 ^ 8 + field_of e

-- the count of bytes, or the refusal
abbrev pub as_number : Result ℕ FileFault → ℕ
as_number (Ok n) = n
as_number (Err e) = packed e
