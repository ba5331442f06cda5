-- The ring letter that the first line of a file names.
use Rattle.std.proofs.Common.{◌≡◌, ℕ, cond, eqb, List, [], ◌∷◌, length, get_or, take, Some, None, Ok, Err, Option, Result, refl, ap, ◌∙◌, arith}
use Rattle.std.proofs.lemmas.Bool.{cond-true, eq-eqb}
use Rattle.lists.specs.Bytes.{comma, start_letter}
use Rattle.lists.specs.FileChecks.{letter_in, lines_handed, lines_of, opened}
use Rattle.lists.specs.FirstFault.{Faultless}
use Rattle.lists.specs.Kinds.{by_kind, kind_of}
use Rattle.lists.specs.LineChecks.{letter_named}
use Rattle.lists.specs.Rings.{letter_of}
use Rattle.lists.specs.Split.{first, split}
use Rattle.lists.specs.declared.fault.WholeFault.{WholeFault}
use Rattle.lists.specs.declared.header.Header.{Header}
use Rattle.lists.specs.declared.kind.Kind.{Kind}
use Rattle.lists.specs.declared.kind.Kind.TheVariants.{Start, Matrix, End}
use Rattle.lists.specs.declared.letter.RingLetter.{RingLetter}
use Rattle.lists.specs.declared.letter.RingLetter.TheVariants.{B}
use Rattle.lists.proofs.Headers.{HeaderFields}
use Rattle.lists.proofs.Letters.{kind_field, none_some}

-- the first line of an accepted file names the letter of its header
pub letter_from : (ls : List (List ℕ)) (h : Header) → HeaderFields 1 (split comma (first ls)) h → letter_in ls ≡ Some h.letter
letter_from [] h f = absurd (none_some f.kind)
letter_from (l ∷ ls) h f =
    ap (λ (k : Option Kind). by_kind k (cond (eqb (length (split comma l)) 4) (letter_of (get_or (split comma l) 1 [])) None) None None None) f.kind
    ∙ cond-true (eqb (length (split comma l)) 4) (letter_of (get_or (split comma l) 1 [])) None (eq-eqb (length (split comma l)) 4 f.count) ∙ f.letter

-- a line that names a letter begins with the letter of a header
starts : (fs : List (List ℕ)) (g : RingLetter) → letter_named fs ≡ Some g → take 1 fs ≡ (start_letter ∷ []) ∷ []
starts [] g e = absurd (none_some e)
starts (f ∷ fs) g e = ap (λ (x : List ℕ). x ∷ []) (kind_field f Start (by (kind_of f) refl e))
  where
    by : (k : Option Kind) → kind_of f ≡ k → by_kind k (cond (eqb (length (f ∷ fs)) 4) (letter_of (get_or (f ∷ fs) 1 [])) None) None None None ≡ Some g → kind_of f ≡ Some Start
    by None s e = absurd (none_some e)
    by (Some Start) s e = s
    by (Some Matrix) s e = absurd (none_some e)
    by (Some End) s e = absurd (none_some e)

-- where the first line names a letter, the field before it has no fault
faultless_from : (ls : List (List ℕ)) (g : RingLetter) → letter_in ls ≡ Some g → Faultless ls 0 1
faultless_from [] g e = absurd (none_some e)
faultless_from (l ∷ ls) g e = record {
  header = record { letter = B; size = 1; bound = 0 };
  matrices = [];
  is_list = record { size = refl; bound = omega arith; matrices = tt };
  lines_alike = refl;
  fields_alike = starts (split comma l) g e;
}

pub faultless_before_letter : (b : List ℕ) (g : RingLetter) → letter_in (lines_handed (opened b) b) ≡ Some g → Faultless (lines_of b) 0 1
faultless_before_letter b g e = by (opened b) e
  where
    by : (r : Result (Unit {0}) WholeFault) → letter_in (lines_handed r b) ≡ Some g → Faultless (lines_of b) 0 1
    by (Ok u) e = faultless_from (lines_of b) g e
    by (Err w) e = absurd (none_some e)
