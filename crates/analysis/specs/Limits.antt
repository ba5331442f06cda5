-- The place that an answer is written into.
use Rattle.std.specs.Prelude.{ℕ}

-- the least place for an answer that is lent, in bytes; every answer goes into it
abbrev pub least_answer : ℕ
least_answer = 2048
