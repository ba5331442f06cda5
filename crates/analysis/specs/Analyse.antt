-- What analyse answers, and what it leaves in the place.
use Rattle.std.specs.Prelude.{ℕ, Bool, true, false, cond, List, length, Some, None, Ok, Err, Option, Result, nat_lt}
use Rattle.rings.specs.Arithmetic.{Arithmetic}
use Rattle.lists.specs.Checks.{then}
use Rattle.lists.specs.Contents.{reading}
use Rattle.lists.specs.Faults.{line_refused}
use Rattle.lists.specs.FileChecks.{letter_in, lines_handed, opened}
use Rattle.lists.specs.Limits.{greatest_length}
use Rattle.lists.specs.Places.{written}
use Rattle.lists.specs.declared.fault.FileFault.{FileFault}
use Rattle.lists.specs.declared.fault.FileFault.TheVariants.{Whole}
use Rattle.lists.specs.declared.fault.LineFault.TheVariants.{Ring}
use Rattle.lists.specs.declared.fault.WholeFault.TheVariants.{TooLong, Place}
use Rattle.lists.specs.declared.header.Header.{Header}
use Rattle.lists.specs.declared.letter.RingLetter.{RingLetter}
use Rattle.lists.specs.declared.letter.RingLetter.TheVariants.{B, P, Y, W}
use Rattle.analysis.specs.Answer.{answer_text}
use Rattle.analysis.specs.Fields.{arithmetic_of}
use Rattle.analysis.specs.Limits.{least_answer}

-- the answer to the list of a header and codes, over a field; without a field the ring letter is refused
abbrev pub answer_over : Option Arithmetic → Header → List ℕ → Result (List ℕ) FileFault
answer_over None h codes = line_refused Ring 1 2
answer_over (Some a) h codes = Ok (answer_text a h.size h.bound codes)

-- whether the letter is that of words that wrap
abbrev pub names_words : Option RingLetter → Bool
names_words None = false
names_words (Some B) = false
names_words (Some P) = false
names_words (Some Y) = false
names_words (Some W) = true

-- the answer to the list that a file holds
abbrev pub answer_to_list : List ℕ → Result (List ℕ) FileFault
answer_to_list b = then (reading b) (λ c. answer_over (arithmetic_of c.listing.header.letter) c.listing.header c.codes)

-- The answer to a file. It is refused as reading refuses it; but where its header names words that wrap, that is refused in its order:
-- before anything behind the letter is looked at.
abbrev pub answer_to : List ℕ → Result (List ℕ) FileFault
answer_to b = cond (names_words (letter_in (lines_handed (opened b) b))) (line_refused Ring 1 2) (answer_to_list b)

-- the answer, written into a place with room for so many bytes
abbrev pub answer_into : ℕ → List ℕ → Result (List ℕ) FileFault
answer_into room b = cond (nat_lt greatest_length (length b)) (Err (Whole TooLong)) (cond (nat_lt room least_answer) (Err (Whole Place)) (answer_to b))

-- how many bytes the answer has
abbrev pub answer_length : Result (List ℕ) FileFault → Result ℕ FileFault
answer_length (Ok t) = Ok (length t)
answer_length (Err e) = Err e

abbrev pub answer_place : Result (List ℕ) FileFault → List ℕ → List ℕ
answer_place (Ok t) place = written 0 t place
answer_place (Err e) place = place
