-- What is written has no mark inside its parts.
use Rattle.std.proofs.Common.{◌≡◌, ℕ, ◌^◌, ◌<◌, ◌≤◌, true, false, eqb, leb, List, [], ◌∷◌, map, decimal, refl, arith}
use Rattle.std.specs.Char.{is_ascii_digit}
use Rattle.std.specs.List.{AllByRecursion}
use Rattle.std.specs.Str.{all_ascii_digits}
use Rattle.std.proofs.ByRecursion.{All-append}
use Rattle.std.proofs.lemmas.Bool.{ne_eqb, leb-true, and_parts}
use Rattle.lists.specs.Bytes.{line_end, comma}
use Rattle.lists.specs.FirstFault.{MatrixOf}
use Rattle.lists.specs.Rings.{size_of, byte_of}
use Rattle.lists.specs.Split.{split, join}
use Rattle.lists.specs.Text.{header_fields, matrix_fields, end_fields}
use Rattle.lists.specs.declared.header.Header.{Header}
use Rattle.lists.specs.declared.letter.RingLetter.{RingLetter}
use Rattle.lists.specs.declared.letter.RingLetter.TheVariants.{B, P, Y, W}
use Rattle.lists.proofs.Letters.{ring_within_words}
use Rattle.lists.proofs.Numerals.{decimal_digits}
use Rattle.lists.proofs.Splitting.{Free, split_join}

digits_free : (c : ℕ) (ds : List ℕ) → c < 48 → all_ascii_digits ds ≡ true → Free c ds
digits_free c [] low h = tt
digits_free c (d ∷ ds) low h =
    let a = and_parts (is_ascii_digit d) (all_ascii_digits ds) h in
    let b = and_parts (leb 48 d) (leb d 57) a.0 in
    (ne_eqb d c (λ e. omega (arith, leb-true 48 d b.0)), digits_free c ds low a.1)

-- a byte below the digits is in no number
pub decimal_free : (c n : ℕ) → c < 48 → n < 2 ^ 32 → Free c (decimal n)
decimal_free c n low small = digits_free c (decimal n) low (decimal_digits n (omega arith))

numbers_free : (c q : ℕ) (m : List ℕ) → c < 48 → q ≤ 2 ^ 32 → AllByRecursion (λ x. x < q) m → AllByRecursion (Free c) (map decimal m)
numbers_free c q [] low fits h = tt
numbers_free c q (x ∷ m) low fits h = (decimal_free c x low (omega (arith, h.0)), numbers_free c q m low fits h.1)

pub join_free : (c k : ℕ) (ps : List (List ℕ)) → eqb k c ≡ false → AllByRecursion (Free c) ps → Free c (join k ps)
join_free c k [] e h = tt
join_free c k (p ∷ []) e h = h.0
join_free c k (p ∷ r ∷ ps) e h = All-append (λ b. eqb b c ≡ false) p (k ∷ join k (r ∷ ps)) h.0 (e, join_free c k (r ∷ ps) e h.1)

letter_free : (g : RingLetter) → (eqb (byte_of g) comma ≡ false) × (eqb (byte_of g) line_end ≡ false)
letter_free B = (refl, refl)
letter_free P = (refl, refl)
letter_free Y = (refl, refl)
letter_free W = (refl, refl)

-- ---- lines: their fields, and no line end in them
module _ (h : Header) (size : h.size < 2 ^ 32) (bound : h.bound < 2 ^ 32) where
  pub header_split : split comma (join comma (header_fields h)) ≡ header_fields h
  header_split = split_join comma _ _ ((refl, tt), (((letter_free h.letter).0, tt), (decimal_free comma h.size (omega arith) size, (decimal_free comma h.bound (omega arith) bound, tt))))

  pub header_free : Free line_end (join comma (header_fields h))
  header_free = join_free line_end comma (header_fields h) refl ((refl, tt), (((letter_free h.letter).1, tt), (decimal_free line_end h.size (omega arith) size, (decimal_free line_end h.bound (omega arith) bound, tt))))

module _ (h : Header) (m : List ℕ) (w : MatrixOf h m) where
  pub matrix_split : split comma (join comma (matrix_fields m)) ≡ matrix_fields m
  matrix_split = split_join comma _ (map decimal m) ((refl, tt), numbers_free comma (size_of h.letter) m (omega arith) (ring_within_words h.letter) w.1)

  pub matrix_free : Free line_end (join comma (matrix_fields m))
  matrix_free = join_free line_end comma (matrix_fields m) refl ((refl, tt), numbers_free line_end (size_of h.letter) m (omega arith) (ring_within_words h.letter) w.1)

module _ (n : ℕ) (small : n < 2 ^ 32) where
  pub end_split : split comma (join comma (end_fields n)) ≡ end_fields n
  end_split = split_join comma _ (decimal n ∷ []) ((refl, tt), (decimal_free comma n (omega arith) small, tt))

  pub end_free : Free line_end (join comma (end_fields n))
  end_free = join_free line_end comma (end_fields n) refl ((refl, tt), (decimal_free line_end n (omega arith) small, tt))
