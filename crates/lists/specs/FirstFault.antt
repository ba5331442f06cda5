-- A refusal names the first fault of a file.
use Rattle.std.specs.Prelude.{◌≡◌, ℕ, ◌-◌, ◌<◌, ◌≤◌, min, true, List, [], length, take, Err, slice_index_or}
use Rattle.std.specs.List.{AllByRecursion}
use Rattle.recurrences.specs.Limits.{greatest_bound}
use Rattle.lists.specs.Bytes.{comma}
use Rattle.lists.specs.Contents.{reading}
use Rattle.lists.specs.FileChecks.{lines_of}
use Rattle.recurrences.specs.Ranges.{is_size}
use Rattle.lists.specs.Rings.{size_of}
use Rattle.lists.specs.Split.{split}
use Rattle.lists.specs.Text.{cells, list_fields, list_lines}
use Rattle.lists.specs.declared.fault.FileFault.{FileFault}
use Rattle.lists.specs.declared.fault.FileFault.TheVariants.{Whole, InLine, InNumber, InRun}
use Rattle.lists.specs.declared.fault.LineFault.{LineFault}
use Rattle.lists.specs.declared.fault.LineFault.TheVariants.{Letter, Count, Ring, EndCount}
use Rattle.lists.specs.declared.header.Header.{Header}

-- a matrix of the header's size and ring
abbrev pub MatrixOf : Header → List ℕ → Type 0
MatrixOf h m = (length m ≡ cells h) × AllByRecursion (λ c. c < size_of h.letter) m

-- a list of any length
pub record IsList (h : Header) (ms : List (List ℕ)) : Type 0 where
  pub size : is_size h.size ≡ true
  pub bound : h.bound ≤ greatest_bound
  pub matrices : AllByRecursion (MatrixOf h) ms

-- The first lines are as in the text of some list, and of the line behind them the first fields: so they have no fault.
pub record Faultless (ls : List (List ℕ)) (lines fields : ℕ) : Type 0 where
  pub header : Header
  pub matrices : List (List ℕ)
  pub is_list : IsList header matrices
  pub lines_alike : take lines ls ≡ take lines (list_lines header matrices)
  pub fields_alike : take fields (split comma (slice_index_or ls lines [])) ≡ take fields (slice_index_or (list_fields header matrices) lines [])

-- The lines before it and the letter of its own line have no fault; its line has the fields before it and is due to have them, but
-- either the line or what is due ends there.
pub record Miscounted (ls : List (List ℕ)) (lines fields : ℕ) : Type 0 where
  pub faultless : Faultless ls lines 1
  pub first : fields ≡ min (length (split comma (slice_index_or ls lines []))) (length (slice_index_or (list_fields faultless.header faultless.matrices) lines []))

-- a fault of a line other than its count names the first field with a fault
abbrev pub FirstOf : LineFault → List (List ℕ) → ℕ → ℕ → Type 0
FirstOf Letter = Faultless
FirstOf Count = Miscounted
FirstOf Ring = Faultless
FirstOf EndCount = Faultless

-- every line before the fault is faultless, and in its line every field before it
abbrev pub FirstFault : List (List ℕ) → FileFault → Type 0
FirstFault ls (Whole e) = Unit {0}
FirstFault ls (InLine f) = FirstOf f.fault ls (f.line - 1) (f.field - 1)
FirstFault ls (InNumber f) = Faultless ls (f.line - 1) (f.field - 1)
FirstFault ls (InRun f) = Faultless ls (f.line - 1) (f.field - 1)

abbrev pub NamesFirst : Type 0
NamesFirst = (b : List ℕ) (e : FileFault) → reading b ≡ Err e → FirstFault (lines_of b) e
