-- What read answers, and what it leaves in the place.
use Rattle.std.specs.Prelude.{ℕ, cond, List, length, Ok, Err, Result, nat_lt}
use Rattle.lists.specs.Contents.{Contents, reading}
use Rattle.lists.specs.Limits.{greatest_length, least_place}
use Rattle.lists.specs.Places.{written}
use Rattle.lists.specs.declared.fault.FileFault.{FileFault}
use Rattle.lists.specs.declared.fault.FileFault.TheVariants.{Whole}
use Rattle.lists.specs.declared.fault.WholeFault.TheVariants.{TooLong, Place}
use Rattle.lists.specs.declared.header.Listing.{Listing}

-- the contents of a file, read into a place with room for so many codes
abbrev pub read_into : ℕ → List ℕ → Result Contents FileFault
read_into room b = cond (nat_lt greatest_length (length b)) (Err (Whole TooLong)) (cond (nat_lt room least_place) (Err (Whole Place)) (reading b))

abbrev pub read_answer : Result Contents FileFault → Result Listing FileFault
read_answer (Ok c) = Ok c.listing
read_answer (Err e) = Err e

abbrev pub read_place : Result Contents FileFault → List ℕ → List ℕ
read_place (Ok c) place = written 0 c.codes place
read_place (Err e) place = place
