-- A written list reads back as itself.
use Rattle.std.proofs.Common.{◌≡◌, ℕ, ◌+◌, ◌-◌, ◌^◌, ◌<◌, ◌≤◌, true, cond, eqb, ltb, leb, List, [], ◌∷◌, ◌++◌, map, length, get_or, drop, Ok, Err, decimal, Option, Result, refl, ap, ◌∙◌, arith, length-append}
use Rattle.std.specs.List.{AllByRecursion}
use Rattle.std.proofs.lemmas.List.{length-map, length_push, get_or_push, take_at}
use Rattle.std.proofs.lemmas.Bool.{eq-eqb, lt-ltb, le-ltb, le-leb, cond-true, cond-false}
use Rattle.recurrences.specs.Limits.{greatest_bound}
use Rattle.recurrences.specs.declared.refusal.Refusal.TheVariants.{Size, Bound, Code}
use Rattle.lists.specs.Bytes.{line_end}
use Rattle.lists.specs.Checks.{then, carried}
use Rattle.lists.specs.Contents.{value_of, number_or_zero, matrices_in, flat, codes_of, reading}
use Rattle.lists.specs.Faults.{found, line_refused}
use Rattle.lists.specs.FileChecks.{nothing_behind, checked_body, checked_lines, lines_of, opened}
use Rattle.lists.specs.FirstFault.{MatrixOf, IsList}
use Rattle.lists.specs.Kinds.{kind_of, by_kind}
use Rattle.lists.specs.Laws.{list_of}
use Rattle.lists.specs.Limits.{greatest_length}
use Rattle.lists.specs.LineChecks.{number_at, run_at, ring_at, size_at, bound_at, code_at, codes_from, checked_header, checked_matrix, checked_end}
use Rattle.recurrences.specs.Ranges.{is_size, checked_size, checked_bound, checked_code}
use Rattle.lists.specs.Rings.{size_of}
use Rattle.lists.specs.Split.{split, join, first}
use Rattle.lists.specs.Text.{header_fields, matrix_fields, end_fields, list_lines, closed, cells, count_of, matrices_of, text}
use Rattle.lists.specs.declared.fault.FileFault.{FileFault}
use Rattle.lists.specs.declared.fault.FileFault.TheVariants.{Whole, InNumber}
use Rattle.lists.specs.declared.fault.LineFault.TheVariants.{Letter, EndCount}
use Rattle.lists.specs.declared.fault.WholeFault.{WholeFault}
use Rattle.lists.specs.declared.fault.WholeFault.TheVariants.{TooLong, Unended}
use Rattle.lists.specs.declared.header.Header.{Header}
use Rattle.lists.specs.declared.header.Listing.{Listing}
use Rattle.lists.specs.declared.letter.RingLetter.{RingLetter}
use Rattle.lists.proofs.Headers.{size_greatest}
use Rattle.lists.proofs.Joined.{header_line, body_lines, closed_join}
use Rattle.lists.proofs.Letters.{letter_back, ring_within_words}
use Rattle.lists.proofs.Listable.{Listable, listed_codes, listed_count, listed}
use Rattle.lists.proofs.Marks.{header_split, header_free, matrix_split, matrix_free, end_split, end_free}
use Rattle.lists.proofs.Numerals.{numeral_decimal}
use Rattle.lists.proofs.Splitting.{Free, split_join}

pub number_back : (line k n : ℕ) → n < 2 ^ 32 → number_at line k (decimal n) ≡ Ok n
number_back line k n small = ap (carried (λ e. InNumber (found line k e))) (numeral_decimal n small)

-- ---- codes
module _ (q : ℕ) (fits : q ≤ 2 ^ 32) where
  code_back : (line k x : ℕ) → x < q → code_at q line k (decimal x) ≡ Ok x
  code_back line k x low =
      ap (λ (r : Result ℕ FileFault). then r (λ v. run_at line k (checked_code q v))) (number_back line k x (omega arith))
      ∙ ap (run_at line k) (cond-true (ltb x q) (Ok x) (Err Code) (lt-ltb x q low))

  codes_back : (line k : ℕ) (m : List ℕ) → AllByRecursion (λ x. x < q) m → codes_from q line k (map decimal m) ≡ Ok tt
  codes_back line k [] h = refl
  codes_back line k (x ∷ m) h = ap (λ (r : Result ℕ FileFault). then r (λ _. codes_from q line (k + 1) (map decimal m))) (code_back line k x h.0) ∙ codes_back line (k + 1) m h.1

  values_back : (m : List ℕ) → AllByRecursion (λ x. x < q) m → map value_of (map decimal m) ≡ m
  values_back [] h = refl
  values_back (x ∷ m) h = ap (λ (v : ℕ). v ∷ map value_of (map decimal m)) (ap number_or_zero (numeral_decimal x (omega (arith, h.0)))) ∙ ap (λ (xs : List ℕ). x ∷ xs) (values_back m h.1)

-- ---- one line
module _ (h : Header) where
  matrix_back : (line : ℕ) (m : List ℕ) → MatrixOf h m → checked_matrix h line (matrix_fields m) ≡ Ok tt
  matrix_back line m w =
      ap (λ (r : Result (Unit {0}) FileFault). then r (λ _. codes_from (size_of h.letter) line 2 (map decimal m)))
      (cond-true (eqb (length (matrix_fields m)) (cells h + 1)) (Ok tt) _ (eq-eqb (length (matrix_fields m)) (cells h + 1) (omega (arith, length-map m decimal, w.0))))
      ∙ codes_back (size_of h.letter) (ring_within_words h.letter) line 2 m w.1

  end_back : (n line : ℕ) → n < 2 ^ 32 → checked_end n line (end_fields n) ≡ Ok tt
  end_back n line small =
      ap (λ (r : Result ℕ FileFault). then r (λ v. cond (eqb v n) (Ok tt) (line_refused EndCount line 2))) (number_back line 2 n small)
      ∙ cond-true (eqb n n) (Ok tt) _ (eq-eqb n n refl)

  -- ---- the lines behind the header
  body_back : (n line m : ℕ) (ms : List (List ℕ)) → AllByRecursion (MatrixOf h) ms → m ≡ n + length ms → m < 2 ^ 32 → checked_body h n line (body_lines m ms) ≡ Ok m
  body_back n line m [] w e small =
      let same : n ≡ m = omega arith in
      ap (λ (fs : List (List ℕ)). by_kind (kind_of (first fs)) (line_refused Letter line 1) (then (checked_matrix h line fs) (λ _. checked_body h (n + 1) (line + 1) [])) (then (checked_end n line fs) (λ _. nothing_behind n (line + 1) [])) (line_refused Letter line 1)) (end_split m small)
      ∙ ap (λ (x : ℕ). then (checked_end x line (end_fields m)) (λ _. Ok x)) same
      ∙ ap (λ (r : Result (Unit {0}) FileFault). then r (λ _. Ok m)) (end_back m line small)
  body_back n line m (a ∷ ms) w e small =
      let ls = body_lines m ms in
      ap (λ (fs : List (List ℕ)). by_kind (kind_of (first fs)) (line_refused Letter line 1) (then (checked_matrix h line fs) (λ _. checked_body h (n + 1) (line + 1) ls)) (then (checked_end n line fs) (λ _. nothing_behind n (line + 1) ls)) (line_refused Letter line 1)) (matrix_split h a w.0)
      ∙ ap (λ (r : Result (Unit {0}) FileFault). then r (λ _. checked_body h (n + 1) (line + 1) ls)) (matrix_back line a w.0)
      ∙ body_back (n + 1) (line + 1) m ms w.1 (omega arith) small

  matrices_back : (m : ℕ) (ms : List (List ℕ)) → AllByRecursion (MatrixOf h) ms → m < 2 ^ 32 → matrices_in (body_lines m ms) ≡ ms
  matrices_back m [] w small = ap (λ (fs : List (List ℕ)). by_kind (kind_of (first fs)) [] (map value_of (drop 1 fs) ∷ []) [] []) (end_split m small)
  matrices_back m (a ∷ ms) w small =
      let ls = body_lines m ms in
      ap (λ (fs : List (List ℕ)). by_kind (kind_of (first fs)) (matrices_in ls) (map value_of (drop 1 fs) ∷ matrices_in ls) (matrices_in ls) (matrices_in ls)) (matrix_split h a w.0)
      ∙ ap (λ (x : List ℕ). x ∷ matrices_in ls) (values_back (size_of h.letter) (ring_within_words h.letter) a w.0.1) ∙ ap (λ (xs : List (List ℕ)). a ∷ xs) (matrices_back m ms w.1 small)

  body_free : (m : ℕ) (ms : List (List ℕ)) → AllByRecursion (MatrixOf h) ms → m < 2 ^ 32 → AllByRecursion (Free line_end) (body_lines m ms)
  body_free m [] w small = (end_free m small, tt)
  body_free m (a ∷ ms) w small = (matrix_free h a w.0, body_free m ms w.1 small)

  -- ---- the header
  module _ (size : is_size h.size ≡ true) (bound : h.bound ≤ greatest_bound) where
    size_small : h.size < 2 ^ 32
    size_small = omega (arith, size_greatest h.size size)

    bound_small : h.bound < 2 ^ 32
    bound_small = omega arith

    header_back : checked_header 1 (header_fields h) ≡ Ok h
    header_back =
        ap (λ (o : Option RingLetter). then (ring_at 1 2 o) (λ g. then (size_at 1 3 (decimal h.size)) (λ n. then (bound_at 1 4 (decimal h.bound)) (λ d. Ok (record { letter = g; size = n; bound = d }))))) (letter_back h.letter)
        ∙ ap (λ (r : Result ℕ FileFault). then r (λ n. then (bound_at 1 4 (decimal h.bound)) (λ d. Ok (record { letter = h.letter; size = n; bound = d }))))
        (ap (λ (r : Result ℕ FileFault). then r (λ v. run_at 1 3 (checked_size v))) (number_back 1 3 h.size size_small) ∙ ap (run_at 1 3) (cond-true (is_size h.size) (Ok h.size) (Err Size) size))
        ∙ ap (λ (r : Result ℕ FileFault). then r (λ d. Ok (record { letter = h.letter; size = h.size; bound = d })))
        (ap (λ (r : Result ℕ FileFault). then r (λ v. run_at 1 4 (checked_bound v))) (number_back 1 4 h.bound bound_small) ∙ ap (run_at 1 4) (cond-true (leb h.bound greatest_bound) (Ok h.bound) (Err Bound) (le-leb h.bound greatest_bound bound)))

-- ---- the whole
opened_back : (x : List ℕ) → length (x ++ (line_end ∷ [])) ≤ greatest_length → (opened (x ++ (line_end ∷ [])) ≡ Ok tt) × (lines_of (x ++ (line_end ∷ [])) ≡ split line_end x)
opened_back x short =
    let b = x ++ (line_end ∷ []) in
    let n : length x ≡ length b - 1 = omega (arith, length_push x line_end) in (
      cond-false (ltb greatest_length (length b)) (Err TooLong) _ (le-ltb greatest_length (length b) short)
          ∙ cond-true (eqb (get_or b (length b - 1) 0) line_end) (Ok tt) (Err Unended) (eq-eqb (get_or b (length b - 1) 0) line_end (get_or_push x line_end 0 (length b - 1) n)),
      ap (split line_end) (take_at x (line_end ∷ []) (length b - 1) n),
    )

join_long : (c : ℕ) (p : List ℕ) (ps : List (List ℕ)) → length ps ≤ length (join c (p ∷ ps))
join_long c p [] = omega arith
join_long c p (r ∷ ps) = omega (arith, length-append p (c ∷ join c (r ∷ ps)), join_long c r ps)

body_long : (m : ℕ) (ms : List (List ℕ)) → length (body_lines m ms) ≡ length ms + 1
body_long m [] = refl
body_long m (a ∷ ms) = omega (arith, body_long m ms)

-- the listing and the matrices of a written list
module _ (h : Header) (ms : List (List ℕ)) (l : IsList h ms) (short : length (closed (list_lines h ms)) ≤ greatest_length) where
  abbrev ls : List (List ℕ)
  ls = body_lines (length ms) ms

  abbrev x : List ℕ
  x = join line_end (header_line h ∷ ls)

  whole : closed (list_lines h ms) ≡ x ++ (line_end ∷ [])
  whole = closed_join (header_line h) ls

  short_joined : length (x ++ (line_end ∷ [])) ≤ greatest_length
  short_joined = omega (arith, ap length whole)

  few : length ms < 2 ^ 32
  few = omega (arith, short_joined, length_push x line_end, join_long line_end (header_line h) ls, body_long (length ms) ms)

  split_back : split line_end x ≡ header_line h ∷ ls
  split_back = split_join line_end (header_line h) ls (header_free h (size_small h l.size l.bound) (bound_small h l.size l.bound), body_free h (length ms) ms l.matrices few)

  lines_back : lines_of (closed (list_lines h ms)) ≡ header_line h ∷ ls
  lines_back = ap lines_of whole ∙ (opened_back x short_joined).1 ∙ split_back

  pub opens : opened (closed (list_lines h ms)) ≡ Ok tt
  opens = ap opened whole ∙ (opened_back x short_joined).0

  pub listing_back : checked_lines (lines_of (closed (list_lines h ms))) ≡ Ok (record { header = h; count = length ms })
  listing_back =
      ap checked_lines lines_back
      ∙ ap (λ (fs : List (List ℕ)). then (checked_header 1 fs) (λ g. then (checked_body g 0 2 ls) (λ n. Ok (record { header = g; count = n })))) (header_split h (size_small h l.size l.bound) (bound_small h l.size l.bound))
      ∙ ap (λ (r : Result Header FileFault). then r (λ g. then (checked_body g 0 2 ls) (λ n. Ok (record { header = g; count = n })))) (header_back h l.size l.bound)
      ∙ ap (λ (r : Result ℕ FileFault). then r (λ n. Ok (record { header = h; count = n }))) (body_back h 0 2 (length ms) ms l.matrices (omega arith) few)

  pub codes_read_back : codes_of (closed (list_lines h ms)) ≡ flat ms
  codes_read_back =
      ap (λ (ss : List (List ℕ)). flat (matrices_in ss)) lines_back
      ∙ ap (λ (fs : List (List ℕ)). flat (by_kind (kind_of (first fs)) (matrices_in ls) (map value_of (drop 1 fs) ∷ matrices_in ls) (matrices_in ls) (matrices_in ls))) (header_split h (size_small h l.size l.bound) (bound_small h l.size l.bound))
      ∙ ap flat (matrices_back h (length ms) ms l.matrices few)

pub reads_back : (h : Header) (cs : List ℕ) → Listable h cs → reading (text h cs) ≡ Ok (list_of h cs)
reads_back h cs v =
    let ms = matrices_of h cs in
    let t = text h cs in
    let l = listed h cs v in
    ap (λ (r : Result (Unit {0}) WholeFault). then (then (carried Whole r) (λ _. checked_lines (lines_of t))) (λ g. Ok (record { listing = g; codes = codes_of t }))) (opens h ms l v.short)
    ∙ ap (λ (r : Result Listing FileFault). then r (λ g. Ok (record { listing = g; codes = codes_of t }))) (listing_back h ms l v.short)
    ∙ ap (λ (n : ℕ). Ok (record { listing = record { header = h; count = n }; codes = codes_of t })) (listed_count h cs v)
    ∙ ap (λ (xs : List ℕ). Ok (record { listing = record { header = h; count = count_of h cs }; codes = xs })) (codes_read_back h ms l v.short ∙ listed_codes h cs v)
