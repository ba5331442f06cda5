-- The worked recordings, by computation from the definitions.
use Rattle.std.proofs.Common.{refl}
use native.Mathlib.Decide.{ℕ_discrete, dec_le, dec_lt}
use Rattle.rings.specs.Bytes.{polynomial_product, byte_product, reduced as remainder}
use Rattle.rings.specs.PowersOfThree.{powers_of_three}
use Rattle.recurrences.specs.Sums.{sum}
use Rattle.recurrences.specs.Choice.{pick, put}
use Rattle.recurrences.specs.Degrees.{total}
use Rattle.recurrences.specs.Discrepancy.{discrepancy}
use Rattle.recurrences.specs.Columns.{shift, constant}
use Rattle.recurrences.specs.Pivot.{better, best, against, candidate_by, candidate, pivot}
use Rattle.recurrences.specs.Step.{reduced, by_auxiliary, moved, traded, copied, by_open, row_by, row, rows, shifted, step}
use Rattle.recurrences.specs.Run.{start, run}
use Rattle.recurrences.specs.Standing.{listed, taken}
use Rattle.recurrences.specs.WorkedRecordings.{WorkedRecordings}
use Rattle.recurrences.specs.Fits.{first, first_failure}

pub worked_recordings : WorkedRecordings
unfolding run step rows row row_by pivot against best better candidate candidate_by by_auxiliary by_open traded copied moved reduced shifted shift start constant discrepancy sum total pick put taken listed dec_le dec_lt ℕ_discrete polynomial_product byte_product remainder powers_of_three first first_failure
worked_recordings = record {
  bits_at_three = refl;
  bits_at_two = refl;
  bits_at_zero = refl;
  bits_too_short = refl;
  bits_with_a_tie = refl;
  remainders_doubled = refl;
  remainders_repeated = refl;
  bytes_tripled = refl;
  words_fit = refl;
  words_fail = refl;
}
