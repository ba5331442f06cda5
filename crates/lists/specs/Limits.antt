-- The limits on list files. Those on sizes and bounds are the runs' own.
use Rattle.std.specs.Prelude.{ℕ, ◌^◌}

-- the greatest length of a file, in bytes
abbrev pub greatest_length : ℕ
greatest_length = 32768

-- the least place for codes that is lent to a reader; every file's codes go into it
abbrev pub least_place : ℕ
least_place = 16384

-- every number of a file is below this
abbrev pub numbers_end : ℕ
numbers_end = 2 ^ 32
