-- What the answer of read tells of the file.
use Rattle.std.proofs.Common.{◌≡◌, ℕ, ◌*◌, List, length, take, Ok, Err, Result, sym, refl, ap, ◌∙◌, subst}
use Rattle.lists.specs.Contents.{Contents, codes_of, reading}
use Rattle.lists.specs.FileChecks.{checked_file}
use Rattle.lists.specs.Laws.{WrittenAs, LawfulRead}
use Rattle.lists.specs.Places.{written}
use Rattle.lists.specs.Read.{read_answer, read_place}
use Rattle.lists.specs.Text.{cells}
use Rattle.lists.specs.declared.fault.FileFault.{FileFault}
use Rattle.lists.specs.declared.header.Listing.{Listing}
use Rattle.lists.proofs.FirstFaults.{names_first}
use Rattle.lists.proofs.Steps.{then_ok}
use Rattle.lists.proofs.WrittenSo.{file_parts, accepted_length, written_so}
use Rattle.lists.proofs.Writing.{take_written}

pub codes_length : (b : List ℕ) (c : Contents) → reading b ≡ Ok c → length c.codes ≡ c.listing.count * cells c.listing.header
codes_length b c e =
    let a = then_ok (checked_file b) (λ r. Ok (record { listing = r; codes = codes_of b })) c e in
    let p = file_parts b a.0 a.1 in
    let same : record { listing = a.0; codes = codes_of b } ≡ c = cc in
    let P : Contents → Type 0 = λ d. length d.codes ≡ d.listing.count * cells d.listing.header in
    subst P same (accepted_length b a.0 p.0 p.1)

module _ (b place exit : List ℕ) where
  accepted : (c : Contents) → reading b ≡ Ok c → exit ≡ written 0 c.codes place → LawfulRead b exit (Ok c.listing)
  accepted c e p =
      let front : take (c.listing.count * cells c.listing.header) exit ≡ c.codes = ap (take (c.listing.count * cells c.listing.header)) p ∙ take_written (c.listing.count * cells c.listing.header) c.codes place (codes_length b c e) in
      subst (WrittenAs b c.listing.header) (sym front) (written_so b c e).1

  pub read_lawful : (r : Result Listing FileFault) → r ≡ read_answer (reading b) → exit ≡ read_place (reading b) place → LawfulRead b exit r
  read_lawful r a p = by (reading b) refl a p
    where
      by : (x : Result Contents FileFault) → reading b ≡ x → r ≡ read_answer x → exit ≡ read_place x place → LawfulRead b exit r
      by (Ok c) e a p = subst (LawfulRead b exit) (sym a) (accepted c e p)
      by (Err e) q a p = subst (LawfulRead b exit) (sym a) (names_first b e q)
