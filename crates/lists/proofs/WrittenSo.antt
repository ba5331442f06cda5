-- An accepted file is what its list is written as.
use Rattle.std.proofs.Common.{◌≡◌, ℕ, ◌+◌, ◌-◌, ◌*◌, ◌<◌, List, [], ◌∷◌, ◌++◌, length, get_or, take, Ok, sym, ap, ◌∙◌, subst, arith}
use Rattle.std.specs.List.{AllByRecursion}
use Rattle.std.proofs.ByRecursion.{All-weaker}
use Rattle.std.proofs.lemmas.List.{take_more, take_all}
use Rattle.lists.specs.Bytes.{line_end}
use Rattle.lists.specs.Checks.{carried}
use Rattle.lists.specs.Contents.{Contents, matrices_in, flat, codes_of, reading}
use Rattle.lists.specs.FileChecks.{checked_lines, lines_of, opened, checked_file}
use Rattle.lists.specs.FirstFault.{MatrixOf}
use Rattle.lists.specs.Laws.{list_of, WrittenAs}
use Rattle.lists.specs.Rings.{size_of}
use Rattle.lists.specs.Split.{join}
use Rattle.lists.specs.Text.{list_lines, closed, cells, count_of, matrices_of, parted, text}
use Rattle.lists.specs.declared.fault.FileFault.TheVariants.{Whole}
use Rattle.lists.specs.declared.header.Header.{Header}
use Rattle.lists.specs.declared.header.Listing.{Listing}
use Rattle.lists.proofs.Accepted.{ListFile, lines_ok}
use Rattle.lists.proofs.Joined.{header_line, body_lines, closed_join}
use Rattle.lists.proofs.Listable.{Listable, list_accepted, cells_some}
use Rattle.lists.proofs.Opened.{opened_short, opened_ended, opened_some}
use Rattle.lists.proofs.Parted.{parted_flat, count_flat, multiple_flat, length_flat, flat_all}
use Rattle.lists.proofs.Splitting.{join_split}
use Rattle.lists.proofs.Steps.{then_ok, carried_ok}

with_last : (b : List ℕ) → 0 < length b → take (length b - 1) b ++ (get_or b (length b - 1) 0 ∷ []) ≡ b
with_last b h = sym (take_more b (length b - 1) 0 (omega arith)) ∙ take_all (length b - 1 + 1) b (omega arith)

pub file_parts : (b : List ℕ) (r : Listing) → checked_file b ≡ Ok r → (opened b ≡ Ok tt) × (checked_lines (lines_of b) ≡ Ok r)
file_parts b r e =
    let a = then_ok (carried Whole (opened b)) (λ _. checked_lines (lines_of b)) r e in
    (carried_ok Whole (opened b) a.0 a.1, a.2)

-- a file that was accepted
module _ (b : List ℕ) (r : Listing) (o : opened b ≡ Ok tt) (e : checked_lines (lines_of b) ≡ Ok r) where
  abbrev h : Header
  h = r.header

  abbrev ms : List (List ℕ)
  ms = matrices_in (lines_of b)

  f : ListFile (lines_of b) r
  f = lines_ok (lines_of b) r e

  lengths : AllByRecursion (λ m. length m ≡ cells h) ms
  lengths = All-weaker (MatrixOf h) (λ m. length m ≡ cells h) (λ m w. w.0) ms f.matrices

  codes : AllByRecursion (λ c. c < size_of h.letter) (flat ms)
  codes = flat_all (λ c. c < size_of h.letter) ms (All-weaker (MatrixOf h) (AllByRecursion (λ c. c < size_of h.letter)) (λ m w. w.1) ms f.matrices)

  some : 0 < cells h
  some = cells_some h f.fields.is_size

  pub accepted_count : r.count ≡ count_of h (codes_of b)
  accepted_count = f.count ∙ sym (count_flat (cells h) some ms lengths)

  pub accepted_length : length (codes_of b) ≡ r.count * cells h
  accepted_length = length_flat (cells h) ms lengths ∙ ap (λ (n : ℕ). n * cells h) (sym f.count)

  same_matrices : matrices_of h (flat ms) ≡ ms
  same_matrices = ap (λ (n : ℕ). parted (cells h) n (flat ms)) (count_flat (cells h) some ms lengths) ∙ parted_flat (cells h) ms lengths

  pub accepted_text : text h (codes_of b) ≡ b
  accepted_text =
      ap (λ (x : List (List ℕ)). closed (list_lines h x)) same_matrices ∙ ap closed (sym f.written) ∙ closed_lines
      ∙ ap (λ (x : ℕ). take (length b - 1) b ++ (x ∷ [])) (sym (opened_ended b tt o)) ∙ with_last b (opened_some b tt o)
    where
      closed_all : (ls : List (List ℕ)) → ls ≡ list_lines h ms → closed ls ≡ join line_end ls ++ (line_end ∷ [])
      closed_all ls w = ap closed w ∙ closed_join (header_line h) (body_lines (length ms) ms) ∙ ap (λ (x : List (List ℕ)). join line_end x ++ (line_end ∷ [])) (sym w)

      closed_lines : closed (lines_of b) ≡ take (length b - 1) b ++ (line_end ∷ [])
      closed_lines = closed_all (lines_of b) f.written ∙ ap (λ (x : List ℕ). x ++ (line_end ∷ [])) (join_split line_end (take (length b - 1) b))

  accepted_listable : Listable h (codes_of b)
  accepted_listable = record {
    size = f.fields.is_size;
    bound = f.fields.is_bound;
    multiple = multiple_flat (cells h) some ms lengths;
    codes = codes;
    short = omega (arith, ap length accepted_text, opened_short b tt o);
  }

  pub accepted_written : WrittenAs b h (codes_of b)
  accepted_written = record {
    accepted = list_accepted h (codes_of b) accepted_listable ∙ ap (λ (x : List ℕ). Ok (length x)) accepted_text;
    text = accepted_text;
  }

pub written_so : (b : List ℕ) (c : Contents) → reading b ≡ Ok c → (c ≡ list_of c.listing.header c.codes) × WrittenAs b c.listing.header c.codes
written_so b c e =
    let a = then_ok (checked_file b) (λ r. Ok (record { listing = r; codes = codes_of b })) c e in
    let p = file_parts b a.0 a.1 in
    let same : record { listing = a.0; codes = codes_of b } ≡ c = cc in
    let P : Contents → Type 0 = λ d. (d ≡ list_of d.listing.header d.codes) × WrittenAs b d.listing.header d.codes in
    subst P same (ap (λ (n : ℕ). record { listing = record { header = a.0.header; count = n }; codes = codes_of b }) (accepted_count b a.0 p.0 p.1), accepted_written b a.0 p.0 p.1)
