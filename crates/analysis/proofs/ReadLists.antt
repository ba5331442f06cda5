-- The list that a file holds.
use Rattle.std.proofs.Common.{◌≡◌, ℕ, ◌*◌, ◌%◌, ◌≤◌, cond, eqb, ltb, Bool, false, ◌≢◌, List, length, take, Some, None, Ok, Err, Option, Result, sym, refl, ap, ◌∙◌, subst, arith}
use mathlib.Core.Path.{transport}
use Rattle.std.proofs.lemmas.Bool.{cond-true, cond-false, eq-eqb, le-ltb}
use Rattle.recurrences.specs.Codes.{all_codes}
use Rattle.recurrences.specs.declared.refusal.Refusal.{Refusal}
use Rattle.recurrences.specs.declared.refusal.Refusal.TheVariants.{Length, Code}
use Rattle.analysis.specs.Fields.{arithmetic_of}
use Rattle.lists.specs.Checks.{then}
use Rattle.lists.specs.Faults.{found, line_refused}
use Rattle.lists.specs.declared.fault.LineFault.TheVariants.{Ring}
use Rattle.lists.specs.declared.letter.RingLetter.{RingLetter}
use Rattle.lists.specs.declared.letter.RingLetter.TheVariants.{B, P, Y, W}
use Rattle.analysis.specs.Analyse.{answer_length, answer_over, answer_place, answer_to, answer_to_list, names_words}
use Rattle.analysis.specs.Laws.{Entitled, LawfulAnswer}
use Rattle.analysis.proofs.Answered.{answered}
use Rattle.lists.specs.Contents.{Contents, codes_of, reading}
use Rattle.lists.specs.FileChecks.{checked_file, letter_in, lines_handed, lines_of, opened}
use Rattle.lists.specs.Laws.{LawfulRead, WrittenAs, list_of}
use Rattle.lists.specs.Limits.{least_place}
use Rattle.lists.specs.Read.{read_answer}
use Rattle.lists.specs.Rings.{size_of}
use Rattle.lists.specs.Text.{cells}
use Rattle.lists.specs.declared.fault.FileFault.{FileFault}
use Rattle.lists.specs.declared.fault.FileFault.TheVariants.{InLine}
use Rattle.lists.specs.FirstFault.{FirstFault}
use Rattle.lists.specs.declared.fault.WholeFault.{WholeFault}
use Rattle.lists.specs.declared.header.Header.{Header}
use Rattle.lists.specs.declared.header.Listing.{Listing}
use Rattle.lists.proofs.Accepted.{lines_ok}
use Rattle.lists.proofs.FirstLetters.{faultless_before_letter, letter_from}
use Rattle.lists.proofs.Headers.{size_least, size_greatest}
use Rattle.lists.proofs.Listable.{Listable, all_codes_from, list_ok}
use Rattle.lists.proofs.ReadBack.{reads_back}
use Rattle.lists.proofs.ReadLaw.{codes_length}
use Rattle.lists.proofs.Room.{accepted_room}
use Rattle.lists.proofs.Steps.{err_ok, ok_err, then_ok}
use Rattle.lists.proofs.WrittenSo.{file_parts, written_so}
use Rattle.verdicts.specs.Refusals.{list_refusal}

-- a letter that is not that of words that wrap
pub not_words : (o : Option RingLetter) → o ≢ Some W → names_words o ≡ false
not_words None h = refl
not_words (Some B) h = refl
not_words (Some P) h = refl
not_words (Some Y) h = refl
not_words (Some W) h = absurd (h refl)

-- the answer to a file whose header does not name them
pub answer_to_other : (b : List ℕ) → letter_in (lines_handed (opened b) b) ≢ Some W → answer_to_list b ≡ answer_to b
answer_to_other b h = ap (λ (w : Bool). cond w (line_refused Ring 1 2) (answer_to_list b)) (sym (not_words _ h))

-- what an answer of read says of the reading
pub read_ok : (r : Result Contents FileFault) (l : Listing) → Ok l ≡ read_answer r → (c : Contents) × (r ≡ Ok c) × (c.listing ≡ l)
read_ok (Ok c) l h = (c, refl, cc)
read_ok (Err e) l h = absurd (ok_err h)

pub read_err : (r : Result Contents FileFault) (e : FileFault) → Err e ≡ read_answer r → r ≡ Err e
read_err (Ok c) e h = absurd (err_ok h)
read_err (Err d) e h = let same : d ≡ e = cc in ap (λ (x : FileFault). Err x) same

pub refused_to : (b : List ℕ) (e : FileFault) → reading b ≡ Err e → answer_to_list b ≡ Err e
refused_to b e h = ap (λ (r : Result Contents FileFault). then r (λ c. answer_over (arithmetic_of c.listing.header.letter) c.listing.header c.codes)) h

-- what holds of the list of an accepted file
pub record ReadList (b : List ℕ) (c : Contents) : Type 0 where
  pub long : length c.codes ≡ c.listing.count * cells c.listing.header
  pub few : length c.codes ≤ least_place
  pub small : c.listing.header.size ≤ 4
  pub accepted : list_refusal (size_of c.listing.header.letter) c.listing.header.size c.listing.header.bound c.codes ≡ None
  pub letter : letter_in (lines_handed (opened b) b) ≡ Some c.listing.header.letter

listable_accepted : (h : Header) (cs : List ℕ) → Listable h cs → list_refusal (size_of h.letter) h.size h.bound cs ≡ None
listable_accepted h cs l =
    ap (λ (o : Option Refusal). elim o [ Some e ↦ Some e | None ↦ cond (eqb (length cs % (h.size * h.size)) 0) (cond (all_codes (size_of h.letter) cs) None (Some Code)) (Some Length) ])
    (cond-false (ltb h.size 1) _ _ (le-ltb h.size 1 (size_least h.size l.size)) ∙ cond-false (ltb 4 h.size) _ _ (le-ltb 4 h.size (size_greatest h.size l.size)) ∙ cond-false (ltb 64 h.bound) _ _ (le-ltb 64 h.bound l.bound))
    ∙ cond-true (eqb (length cs % (h.size * h.size)) 0) _ _ (eq-eqb _ 0 l.multiple)
    ∙ cond-true (all_codes (size_of h.letter) cs) _ _ (all_codes_from (size_of h.letter) cs l.codes)

pub read_list : (b : List ℕ) (c : Contents) → reading b ≡ Ok c → ReadList b c
read_list b c e =
    let a = then_ok (checked_file b) (λ r. Ok (record { listing = r; codes = codes_of b })) c e in
    let p = file_parts b a.0 a.1 in
    let same : record { listing = a.0; codes = codes_of b } ≡ c = cc in
    let h = c.listing.header in
    let l = (list_ok h c.codes (length b) (written_so b c e).1.accepted).0 in
    record {
      long = codes_length b c e;
      few = subst (λ (d : Contents). length d.codes ≤ least_place) same (accepted_room b tt a.0 p.0 p.1);
      small = size_greatest h.size l.size;
      accepted = listable_accepted h c.codes l;
      letter = ap (λ (r : Result (Unit {0}) WholeFault). letter_in (lines_handed r b)) p.0 ∙ letter_from (lines_of b) a.0.header (lines_ok (lines_of b) a.0 p.1).fields ∙ ap (λ (d : Contents). Some d.listing.header.letter) same;
    }

-- what was read into a place is the codes of the list
pub codes_read : (b : List ℕ) (c : Contents) (cs : List ℕ) → reading b ≡ Ok c → WrittenAs b c.listing.header cs → cs ≡ c.codes
codes_read b c cs e w =
    let back : Ok (list_of c.listing.header cs) ≡ Ok c = sym (ap reading (sym w.text) ∙ reads_back c.listing.header cs (list_ok c.listing.header cs (length b) w.accepted).0) ∙ e in
    let same : list_of c.listing.header cs ≡ c = cc in
    ap (λ (d : Contents). d.codes) same

-- the list of an accepted file, as it was read into a place
module _ (b : List ℕ) (l : Listing) (place : List ℕ) (answer : Ok l ≡ read_answer (reading b)) (law : LawfulRead b place (Ok l)) (n : ℕ) (is_cells : n ≡ cells l.header) where
  abbrev codes : List ℕ
  codes = take (l.count * n) place

  pub contents : (c : Contents) × (reading b ≡ Ok c) × (c.listing ≡ l)
  contents = read_ok (reading b) l answer

  pub same_codes : codes ≡ contents.0.codes
  same_codes =
      ap (λ (k : ℕ). take (l.count * k) place) is_cells
      ∙ codes_read b contents.0 (take (l.count * cells l.header) place) contents.1 (subst (λ (x : Listing). WrittenAs b x.header (take (l.count * cells l.header) place)) (sym contents.2) law)

  pub codes_room : l.count * n ≤ least_place
  codes_room =
      let r = read_list b contents.0 contents.1 in
      let room : l.count * cells l.header ≤ least_place = subst (λ (x : Listing). x.count * cells x.header ≤ least_place) contents.2 (omega (arith, r.long, r.few)) in
      subst (λ (k : ℕ). l.count * k ≤ least_place) (sym is_cells) room

  pub answer_of_codes : answer_over (arithmetic_of l.header.letter) l.header codes ≡ answer_to_list b
  answer_of_codes =
      (λ i. answer_over (arithmetic_of (sym contents.2 i).header.letter) (sym contents.2 i).header (same_codes i))
      ∙ ap (λ (r : Result Contents FileFault). then r (λ c. answer_over (arithmetic_of c.listing.header.letter) c.listing.header c.codes)) (sym contents.1)

  -- what is answered keeps the law, if it is what the codes entitle to
  pub answer_lawful : letter_in (lines_handed (opened b) b) ≢ Some W → (before after : List ℕ) (r : Result ℕ FileFault)
      → r ≡ answer_length (answer_over (arithmetic_of l.header.letter) l.header codes) → after ≡ answer_place (answer_over (arithmetic_of l.header.letter) l.header codes) before
      → Entitled (arithmetic_of l.header.letter) l.header codes → LawfulAnswer b after r
  answer_lawful other before after r length_is place_is entitles =
      let c = contents.0 in
      let same : answer_over (arithmetic_of l.header.letter) l.header codes ≡ answer_over (arithmetic_of c.listing.header.letter) c.listing.header c.codes =
      (λ i. answer_over (arithmetic_of (sym contents.2 i).header.letter) (sym contents.2 i).header (same_codes i)) in
      answered b c contents.1 before after r (sym (ap names_words (read_list b c contents.1).letter) ∙ not_words _ other) (length_is ∙ ap answer_length same)
      (place_is ∙ ap (λ (x : Result (List ℕ) FileFault). answer_place x before) same)
      (transport (λ i. Entitled (arithmetic_of (sym contents.2 i).header.letter) (sym contents.2 i).header (same_codes i)) entitles)

-- the refusal of words that wrap names the first fault of a file whose header names them
pub words_lawful : (b place : List ℕ) (e : FileFault) → letter_in (lines_handed (opened b) b) ≡ Some W → e ≡ InLine (found 1 2 Ring) → LawfulAnswer b place (Err e)
words_lawful b place e words is = subst (FirstFault (lines_of b)) (sym is) (faultless_before_letter b W words)
