use Rattle.recurrences.proofs.RunTheorems.{degrees_add_up, columns_generate_numbers, degrees_are_least, short_exactly_when_beyond}
use Rattle.recurrences.proofs.theorems.degrees_are_least.Goals as goal

pub returns : goal.returns
returns c = record { degrees_add_up = degrees_add_up; columns_generate = columns_generate_numbers; degrees_are_least = degrees_are_least; short_exactly_when_beyond = short_exactly_when_beyond }
