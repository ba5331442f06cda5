-- What write answers, and what it leaves in the place.
use Rattle.std.specs.Prelude.{ℕ, ◌+◌, ◌%◌, cond, List, length, Ok, Err, Result, ◌==◌, nat_lt}
use Rattle.recurrences.specs.declared.refusal.Refusal.{Refusal}
use Rattle.recurrences.specs.declared.refusal.Refusal.TheVariants.{Length, Code}
use Rattle.lists.specs.Checks.{then, carried}
use Rattle.lists.specs.Limits.{greatest_length}
use Rattle.lists.specs.Places.{written}
use Rattle.recurrences.specs.Codes.{all_codes}
use Rattle.recurrences.specs.Ranges.{checked_size, checked_bound}
use Rattle.lists.specs.Rings.{size_of}
use Rattle.lists.specs.Text.{cells, text}
use Rattle.lists.specs.declared.fault.WholeFault.{WholeFault}
use Rattle.lists.specs.declared.fault.WholeFault.TheVariants.{TooLong, Place}
use Rattle.lists.specs.declared.fault.WriteFault.{WriteFault}
use Rattle.lists.specs.declared.fault.WriteFault.TheVariants.{OfList, OfText}
use Rattle.lists.specs.declared.header.Header.{Header}

-- whole matrices of k codes
abbrev pub checked_multiple : ℕ → List ℕ → Result (Unit {0}) Refusal
checked_multiple k cs = cond (length cs % k == 0) (Ok tt) (Err Length)

abbrev pub checked_codes : ℕ → List ℕ → Result (Unit {0}) Refusal
checked_codes q cs = cond (all_codes q cs) (Ok tt) (Err Code)

-- the length of a text that is no longer than a file may be
abbrev pub checked_text : List ℕ → Result ℕ WholeFault
checked_text t = cond (nat_lt greatest_length (length t)) (Err TooLong) (Ok (length t))

-- the checks of a list of an accepted size and bound; the answer is the length of its text
abbrev pub checked_contents : Header → List ℕ → Result ℕ WriteFault
checked_contents h cs =
    then (carried OfList (checked_multiple (cells h) cs)) (λ _.
    then (carried OfList (checked_codes (size_of h.letter) cs)) (λ _.
    carried OfText (checked_text (text h cs))))

-- the checks of a list in order
abbrev pub checked_list : Header → List ℕ → Result ℕ WriteFault
checked_list h cs =
    then (carried OfList (checked_size h.size)) (λ _.
    then (carried OfList (checked_bound h.bound)) (λ _.
    checked_contents h cs))

-- the length of the text of a list, written into a place with room for so many bytes
abbrev pub written_into : ℕ → Header → List ℕ → Result ℕ WriteFault
written_into room h cs = then (checked_list h cs) (λ n. cond (nat_lt room n) (Err (OfText Place)) (Ok n))

abbrev pub write_place : Result ℕ WriteFault → List ℕ → List ℕ → List ℕ
write_place (Ok n) t place = written 0 t place
write_place (Err e) t place = place

-- the place behind a line that is written at a place, with room for so many bytes in all
abbrev pub line_written_into : ℕ → ℕ → List ℕ → Result ℕ WholeFault
line_written_into room at t = then (checked_text t) (λ n. cond (nat_lt room (at + n)) (Err Place) (Ok (at + n)))

abbrev pub line_place : Result ℕ WholeFault → ℕ → List ℕ → List ℕ → List ℕ
line_place (Ok n) at t place = written at t place
line_place (Err e) at t place = place
