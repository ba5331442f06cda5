use Rattle.recurrences.proofs.MidstepTheorems.{generator_degrees_are_at_most_count, run_rests_on_matrices_taken}
use Rattle.recurrences.proofs.theorems.runs_are_bounded.Goals as goal

pub returns : goal.returns
returns c = record { degrees_are_at_most_count = generator_degrees_are_at_most_count; rests_on_matrices_taken = run_rests_on_matrices_taken }
