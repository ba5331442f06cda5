-- What an answer tells.
use Rattle.std.specs.Prelude.{◌≡◌, ℕ, ◌≤◌, List, length, take, Some, None, Ok, Err, Option, Result}
use Rattle.rings.specs.Arithmetic.{Arithmetic}
use Rattle.lists.specs.Contents.{Contents, reading}
use Rattle.lists.specs.FileChecks.{lines_of}
use Rattle.lists.specs.FirstFault.{FirstFault}
use Rattle.lists.specs.declared.fault.FileFault.{FileFault}
use Rattle.lists.specs.declared.header.Header.{Header}
use Rattle.verdicts.specs.Entitlements.{Entitles}
use Rattle.verdicts.specs.Verdicts.{verdict_on}
use Rattle.analysis.specs.Answer.{answer_text}
use Rattle.analysis.specs.Fields.{arithmetic_of}
use Rattle.analysis.specs.Limits.{least_answer}

-- Some bytes answer the list of a header and codes: they are the lines of the verdict on it, over the field of its letter, and whoever
-- prints from them may say what the verdict entitles to.
pub record Answers (h : Header) (codes bytes : List ℕ) : Type 0 where
  pub field : Arithmetic
  pub field_of_letter : arithmetic_of h.letter ≡ Some field
  pub lines : bytes ≡ answer_text field h.size h.bound codes
  pub entitles : Entitles field h.size h.bound codes (verdict_on field h.size h.bound codes)

-- of the answer to the list of a header and codes over a field: it goes into the least place, and this is what its verdict entitles to
abbrev pub Entitled : Option Arithmetic → Header → List ℕ → Type 0
Entitled None h codes = Unit {0}
Entitled (Some a) h codes = (length (answer_text a h.size h.bound codes) ≤ least_answer) × Entitles a h.size h.bound codes (verdict_on a h.size h.bound codes)

-- What an answer of analyse tells, when the place has been written: its first n bytes, which are no more than the least place has, answer
-- the list that the file holds, or the fault is the file's first.
abbrev pub LawfulAnswer : List ℕ → List ℕ → Result ℕ FileFault → Type 0
LawfulAnswer b place (Ok n) = (n ≤ least_answer) × (c : Contents) × (reading b ≡ Ok c) × Answers c.listing.header c.codes (take n place)
LawfulAnswer b place (Err e) = FirstFault (lines_of b) e
