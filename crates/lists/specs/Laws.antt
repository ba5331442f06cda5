-- Reading and writing are exact inverses of each other.
use Rattle.std.specs.Prelude.{◌≡◌, ℕ, ◌*◌, List, length, take, Ok, Err, Result}
use Rattle.lists.specs.Contents.{Contents, reading}
use Rattle.lists.specs.FileChecks.{lines_of}
use Rattle.lists.specs.FirstFault.{FirstFault}
use Rattle.lists.specs.Text.{cells, count_of, text}
use Rattle.lists.specs.Write.{checked_list}
use Rattle.lists.specs.declared.fault.FileFault.{FileFault}
use Rattle.lists.specs.declared.fault.WriteFault.{WriteFault}
use Rattle.lists.specs.declared.header.Header.{Header}
use Rattle.lists.specs.declared.header.Listing.{Listing}

-- the list of a header and codes
abbrev pub list_of : Header → List ℕ → Contents
list_of h cs = record { listing = record { header = h; count = count_of h cs }; codes = cs }

-- what is written reads back as that list, for every list that write accepts
abbrev pub ReadsBack : Type 0
ReadsBack = (h : Header) (cs : List ℕ) (n : ℕ) → checked_list h cs ≡ Ok n → reading (text h cs) ≡ Ok (list_of h cs)

-- the bytes are what the list is written as, and write accepts it
pub record WrittenAs (b : List ℕ) (h : Header) (cs : List ℕ) : Type 0 where
  pub accepted : checked_list h cs ≡ Ok (length b)
  pub text : text h cs ≡ b

-- each accepted file is, byte for byte, what its list is written as
abbrev pub WrittenSo : Type 0
WrittenSo = (b : List ℕ) (c : Contents) → reading b ≡ Ok c → (c ≡ list_of c.listing.header c.codes) × WrittenAs b c.listing.header c.codes

-- what an answer of read tells, when the place has been written: the file is what the list is written as, or the fault is its first
abbrev pub LawfulRead : List ℕ → List ℕ → Result Listing FileFault → Type 0
LawfulRead b place (Ok l) = WrittenAs b l.header (take (l.count * cells l.header) place)
LawfulRead b place (Err e) = FirstFault (lines_of b) e

-- what an answer of write tells: the bytes that were written read back as the list
abbrev pub LawfulWrite : Header → List ℕ → List ℕ → Result ℕ WriteFault → Type 0
LawfulWrite h cs place (Ok n) = reading (take n place) ≡ Ok (list_of h cs)
LawfulWrite h cs place (Err e) = Unit {0}
