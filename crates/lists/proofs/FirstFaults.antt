-- The refusal of a file names its first fault.
use Rattle.std.proofs.Common.{◌≡◌, ℕ, zero, suc, ◌+◌, ◌-◌, ◌<◌, ◌≤◌, min, true, List, [], ◌∷◌, ◌++◌, map, length, get_or, take, drop, replicate, Some, None, Ok, Err, decimal, Option, sym, refl, ap, ◌∙◌, subst, inl, inr, append_assoc, arith, length-append}
use Rattle.std.specs.List.{AllByRecursion}
use Rattle.std.proofs.ByRecursion.{All-append, All-push}
use Rattle.std.proofs.lemmas.List.{length-map, length_push, length-replicate, map-append, map_push, append-nil}
use Rattle.recurrences.specs.Limits.{greatest_bound}
use Rattle.lists.specs.Bytes.{comma, start_letter, matrix_letter}
use Rattle.lists.specs.Checks.{then, carried}
use Rattle.lists.specs.Contents.{values_of, reading}
use Rattle.lists.specs.Faults.{found, line_refused}
use Rattle.lists.specs.FileChecks.{nothing_behind, checked_body, checked_lines, lines_of, opened, checked_file}
use Rattle.lists.specs.FirstFault.{MatrixOf, IsList, Faultless, Miscounted, FirstFault}
use Rattle.lists.specs.Kinds.{kind_of, by_kind}
use Rattle.lists.specs.LineChecks.{counted, ring_at, size_at, bound_at, codes_from, checked_fields, checked_header, checked_matrix, checked_end}
use Rattle.recurrences.specs.Ranges.{is_size, checked_size, checked_bound}
use Rattle.lists.specs.Rings.{size_of, byte_of, letter_of}
use Rattle.lists.specs.Split.{split, join, first}
use Rattle.lists.specs.Text.{header_fields, matrix_fields, end_fields, list_fields, cells}
use Rattle.lists.specs.declared.fault.FileFault.{FileFault}
use Rattle.lists.specs.declared.fault.FileFault.TheVariants.{Whole, InLine}
use Rattle.lists.specs.declared.fault.LineFault.TheVariants.{Letter, Ring}
use Rattle.lists.specs.declared.header.Header.{Header}
use Rattle.lists.specs.declared.header.Listing.{Listing}
use Rattle.lists.specs.declared.kind.Kind.{Kind}
use Rattle.lists.specs.declared.kind.Kind.TheVariants.{Start, Matrix, End}
use Rattle.lists.specs.declared.letter.RingLetter.{RingLetter}
use Rattle.lists.specs.declared.letter.RingLetter.TheVariants.{B}
use Rattle.lists.proofs.Accepted.{header_written, MatrixLine, matrix_ok, end_ok}
use Rattle.lists.proofs.Counts.{counted_ok}
use Rattle.lists.proofs.FaultPlaces.{Placed, first_placed, value_placed, end_placed, codes_first, counted_err}
use Rattle.lists.proofs.Fields.{four_fields, some_fields, number_field}
use Rattle.lists.proofs.Headers.{header_ok, ring_ok, size_ok}
use Rattle.lists.proofs.Joined.{header_line, matrix_line, end_line}
use Rattle.lists.proofs.Letters.{kind_letter, kind_field, ring_field, ring_some}
use Rattle.lists.proofs.Splitting.{split_some}
use Rattle.lists.proofs.Steps.{ok_err, then_err, carried_err}

-- ---- lists one behind the other
module _ {X Y : Type 0} (f : X → Y) where
  take_mapped : (xs : List X) (ys : List Y) → take (length xs) (map f xs ++ ys) ≡ map f xs
  take_mapped [] ys = refl
  take_mapped (x ∷ xs) ys = ap (λ (zs : List Y). f x ∷ zs) (take_mapped xs ys)

  at_mapped : (xs : List X) (ys : List Y) (d : Y) → get_or (map f xs ++ ys) (length xs) d ≡ get_or ys 0 d
  at_mapped [] ys d = refl
  at_mapped (x ∷ xs) ys d = at_mapped xs ys d

at_behind : {X : Type 0} (xs ys : List X) (d : X) → get_or (xs ++ ys) (length xs) d ≡ get_or ys 0 d
at_behind [] ys d = refl
at_behind (x ∷ xs) ys d = at_behind xs ys d

-- the letter of a line
letter_field : (l : List ℕ) (k : Kind) → kind_of (first (split comma l)) ≡ Some k → take 1 (split comma l) ≡ (kind_letter k ∷ []) ∷ []
letter_field l k e = by (split comma l) (split_some comma l) e
  where
    by : (fs : List (List ℕ)) → 0 < length fs → kind_of (first fs) ≡ Some k → take 1 fs ≡ (kind_letter k ∷ []) ∷ []
    by [] h e = absurd (omega arith)
    by (f ∷ fs) h e = ap (λ (x : List ℕ). x ∷ []) (kind_field f k e)

-- ---- a list whose lines begin like those of the file: pre are their fields
module _ (h : Header) (ms : List (List ℕ)) (l : IsList h ms) (pre rest : List (List (List ℕ))) (parts : list_fields h ms ≡ pre ++ rest) (all ls : List (List ℕ)) (begins : all ≡ map (join comma) pre ++ ls) where
  here : get_or all (length pre) [] ≡ get_or ls 0 []
  here = ap (λ (x : List (List ℕ)). get_or x (length pre) []) begins ∙ at_mapped (join comma) pre ls []

  due : get_or (list_fields h ms) (length pre) [] ≡ get_or rest 0 []
  due = ap (λ (x : List (List (List ℕ))). get_or x (length pre) []) parts ∙ at_behind pre rest []

  faultless_at : (k : ℕ) → take k (split comma (get_or ls 0 [])) ≡ take k (get_or rest 0 []) → Faultless all (length pre) k
  faultless_at k e = record {
    header = h;
    matrices = ms;
    is_list = l;
    lines_alike = ap (take (length pre)) begins ∙ take_mapped (join comma) pre ls
        ∙ sym (ap (λ (x : List (List (List ℕ))). take (length pre) (map (join comma) x)) parts ∙ ap (take (length pre)) (map-append (join comma) pre rest) ∙ take_mapped (join comma) pre (map (join comma) rest));
    fields_alike = ap (λ (x : List ℕ). take k (split comma x)) here ∙ e ∙ ap (take k) (sym due);
  }

  module _ (line : ℕ) (place : line - 1 ≡ length pre) where
    -- the fault of a field
    field_first : (e : FileFault) (k k' : ℕ) → Placed e line k → k - 1 ≡ k' → take k' (split comma (get_or ls 0 [])) ≡ take k' (get_or rest 0 []) → FirstFault all e
    field_first e k k' p q same =
        first_placed all e line k p
        (subst (λ (x : ℕ). Faultless all x (k - 1)) (sym place) (subst (λ (x : ℕ). Faultless all (length pre) x) (sym q) (faultless_at k' same)))

    -- a wrong count
    count_first : (e : FileFault) (n : ℕ) → length (get_or rest 0 []) ≡ n → take 1 (split comma (get_or ls 0 [])) ≡ take 1 (get_or rest 0 []) → counted n line (split comma (get_or ls 0 [])) ≡ Err e → FirstFault all e
    unfolding faultless_at
    count_first e n d same c =
        let fs = split comma (get_or ls 0 []) in
        let k = min (length fs) n in
        let less : k + 1 - 1 ≡ min (length (split comma (get_or all (length pre) []))) (length (get_or (list_fields h ms) (length pre) [])) = omega (arith, ap (λ (x : List ℕ). length (split comma x)) here, ap length due, d) in
        let m : Miscounted all (length pre) (k + 1 - 1) = record { faultless = faultless_at 1 same; first = less } in
        subst (FirstFault all) (counted_err n line fs e c) (subst (λ (x : ℕ). Miscounted all x (k + 1 - 1)) (sym place) m)

-- ---- the header
abbrev least : RingLetter → ℕ → Header
least g n = record { letter = g; size = n; bound = 0 }

least_list : (g : RingLetter) (n : ℕ) → is_size n ≡ true → IsList (least g n) []
least_list g n s = record { size = s; bound = omega arith; matrices = tt }

-- the letter of a line is not the one due
letter_refused : (h : Header) (ms : List (List ℕ)) (l : IsList h ms) (pre rest : List (List (List ℕ))) → list_fields h ms ≡ pre ++ rest → (all ls : List (List ℕ)) → all ≡ map (join comma) pre ++ ls
    → (line : ℕ) → line - 1 ≡ length pre → {X : Type 0} (e : FileFault) → line_refused {X = X} Letter line 1 ≡ Err e → FirstFault all e
letter_refused h ms l pre rest parts all ls begins line place e r =
    let same : InLine (found line 1 Letter) ≡ e = cc in
    field_first h ms l pre rest parts all ls begins line place e 1 0 (subst (λ (x : FileFault). Placed x line 1) same (tt, refl, refl)) refl refl

module _ (l : List ℕ) (ls : List (List ℕ)) where
  any_letter_refused : {X : Type 0} (e : FileFault) → line_refused {X = X} Letter 1 1 ≡ Err e → FirstFault (l ∷ ls) e
  any_letter_refused e r = letter_refused (least B 1) [] (least_list B 1 refl) [] _ refl (l ∷ ls) (l ∷ ls) refl 1 refl e r

  module _ (e : FileFault) (kind : kind_of (first (split comma l)) ≡ Some Start) where
    count_refused : counted 4 1 (split comma l) ≡ Err e → FirstFault (l ∷ ls) e
    count_refused c = count_first (least B 1) [] (least_list B 1 refl) [] _ refl (l ∷ ls) (l ∷ ls) refl 1 refl e 4 refl (letter_field l Start kind) c

    ring_refused : ring_at 1 2 (letter_of (get_or (split comma l) 1 [])) ≡ Err e → FirstFault (l ∷ ls) e
    ring_refused r = field_first (least B 1) [] (least_list B 1 refl) [] _ refl (l ∷ ls) (l ∷ ls) refl 1 refl e 2 1 (by (letter_of (get_or (split comma l) 1 [])) r) refl (letter_field l Start kind)
      where
        by : (o : Option RingLetter) → ring_at 1 2 o ≡ Err e → Placed e 1 2
        by (Some g) h = absurd (ok_err h)
        by None h = let same : InLine (found 1 2 Ring) ≡ e = cc in subst (λ (x : FileFault). Placed x 1 2) same (tt, refl, refl)

    module _ (count : length (split comma l) ≡ 4) (g : RingLetter) (ring : letter_of (get_or (split comma l) 1 []) ≡ Some g) where
      fields : split comma l ≡ (start_letter ∷ []) ∷ (byte_of g ∷ []) ∷ get_or (split comma l) 2 [] ∷ get_or (split comma l) 3 [] ∷ []
      fields =
          four_fields (split comma l) count
          ∙ ap (λ (p : List ℕ). p ∷ get_or (split comma l) 1 [] ∷ get_or (split comma l) 2 [] ∷ get_or (split comma l) 3 [] ∷ []) (kind_field (first (split comma l)) Start kind)
          ∙ ap (λ (p : List ℕ). (start_letter ∷ []) ∷ p ∷ get_or (split comma l) 2 [] ∷ get_or (split comma l) 3 [] ∷ []) (ring_field (get_or (split comma l) 1 []) g ring)

      size_refused : size_at 1 3 (get_or (split comma l) 2 []) ≡ Err e → FirstFault (l ∷ ls) e
      size_refused r = field_first (least g 1) [] (least_list g 1 refl) [] _ refl (l ∷ ls) (l ∷ ls) refl 1 refl e 3 2 (value_placed 1 3 (get_or (split comma l) 2 []) checked_size e r) refl (ap (take 2) fields)

      bound_refused : (n : ℕ) → size_at 1 3 (get_or (split comma l) 2 []) ≡ Ok n → bound_at 1 4 (get_or (split comma l) 3 []) ≡ Err e → FirstFault (l ∷ ls) e
      bound_refused n s r =
          let z = size_ok 1 3 (get_or (split comma l) 2 []) n s in
          field_first (least g n) [] (least_list g n z.1) [] _ refl (l ∷ ls) (l ∷ ls) refl 1 refl e 4 3 (value_placed 1 4 (get_or (split comma l) 3 []) checked_bound e r) refl
          (ap (take 3) fields ∙ ap (λ (p : List ℕ). (start_letter ∷ []) ∷ (byte_of g ∷ []) ∷ p ∷ []) (number_field (get_or (split comma l) 2 []) n z.0))

    fields_refused : checked_fields 1 (split comma l) ≡ Err e → FirstFault (l ∷ ls) e
    fields_refused r =
        elim (then_err (counted 4 1 (split comma l)) _ e r) [
          | inl a ↦ count_refused a
          | inr a ↦
              let c = counted_ok 4 1 (split comma l) a.0 (sym a.1) in
              elim (then_err (ring_at 1 2 (letter_of (get_or (split comma l) 1 []))) _ e a.2) [
                | inl b ↦ ring_refused b
                | inr b ↦
                    let g = ring_ok 1 2 (letter_of (get_or (split comma l) 1 [])) b.0 b.1 in
                    elim (then_err (size_at 1 3 (get_or (split comma l) 2 [])) _ e b.2) [
                      | inl s ↦ size_refused c b.0 g s
                      | inr s ↦
                          elim (then_err (bound_at 1 4 (get_or (split comma l) 3 [])) _ e s.2) [ inl d ↦ bound_refused c b.0 g s.0 s.1 d | inr d ↦ absurd (ok_err d.2) ]
                    ]
              ]
        ]

  header_refused : (e : FileFault) → checked_header 1 (split comma l) ≡ Err e → FirstFault (l ∷ ls) e
  header_refused e r = by (kind_of (first (split comma l))) refl r
    where
      by : (k : Option Kind) → kind_of (first (split comma l)) ≡ k → by_kind k (checked_fields 1 (split comma l)) (line_refused Letter 1 1) (line_refused Letter 1 1) (line_refused Letter 1 1) ≡ Err e → FirstFault (l ∷ ls) e
      by None k r = any_letter_refused {X = Header} e r
      by (Some Start) k r = fields_refused e k r
      by (Some Matrix) k r = any_letter_refused {X = Header} e r
      by (Some End) k r = any_letter_refused {X = Header} e r

-- ---- the lines behind the header h and the matrices ps
zeros_codes : (q n : ℕ) → 1 ≤ q → AllByRecursion (λ c. c < q) (replicate n 0)
zeros_codes q zero h = tt
zeros_codes q (suc n) h = (omega arith, zeros_codes q n h)

module _ (h : Header) (size : is_size h.size ≡ true) (bound : h.bound ≤ greatest_bound) where
  abbrev before : List (List ℕ) → List (List (List ℕ))
  before ps = header_fields h ∷ map matrix_fields ps

  with_matrix : (ps : List (List ℕ)) (m : List ℕ) → list_fields h (ps ++ (m ∷ [])) ≡ before ps ++ (matrix_fields m ∷ end_fields (length (ps ++ (m ∷ []))) ∷ [])
  with_matrix ps m =
      let n = length (ps ++ (m ∷ [])) in
      ap (λ (x : List (List (List ℕ))). header_fields h ∷ (x ++ (end_fields n ∷ []))) (map_push matrix_fields ps m)
      ∙ ap (λ (x : List (List (List ℕ))). header_fields h ∷ x) (append_assoc (map matrix_fields ps) (matrix_fields m ∷ []) (end_fields n ∷ []))

  padded : (vs : List ℕ) → length vs ≤ cells h → AllByRecursion (λ c. c < size_of h.letter) vs → MatrixOf h (vs ++ replicate (cells h - length vs) 0)
  padded vs few c =
      let z = replicate (cells h - length vs) 0 in
      (omega (arith, length-append vs z, length-replicate {A = ℕ} (cells h - length vs) 0), All-append (λ x. x < size_of h.letter) vs z c (zeros_codes (size_of h.letter) (cells h - length vs) (ring_some h.letter)))

  module _ (ps : List (List ℕ)) (good : AllByRecursion (MatrixOf h) ps) (line : ℕ) (place : line ≡ length ps + 2) where
    is_list : IsList h ps
    is_list = record { size = size; bound = bound; matrices = good }

    and_matrix : (m : List ℕ) → MatrixOf h m → IsList h (ps ++ (m ∷ []))
    and_matrix m w = record { size = size; bound = bound; matrices = All-push (MatrixOf h) ps m good w }

    lines : line - 1 ≡ length (before ps)
    lines = omega (arith, length-map ps matrix_fields)

    module _ (all ls : List (List ℕ)) (begins : all ≡ map (join comma) (before ps) ++ ls) where
      body_letter : {X : Type 0} (e : FileFault) → line_refused {X = X} Letter line 1 ≡ Err e → FirstFault all e
      body_letter {X = X} e r = letter_refused h ps is_list (before ps) (end_fields (length ps) ∷ []) refl all ls begins line lines {X = X} e r

    module _ (all : List (List ℕ)) (l : List ℕ) (ls : List (List ℕ)) (begins : all ≡ map (join comma) (before ps) ++ (l ∷ ls)) (e : FileFault) where
      matrix_count : kind_of (first (split comma l)) ≡ Some Matrix → counted (cells h + 1) line (split comma l) ≡ Err e → FirstFault all e
      matrix_count k r =
          let m : List ℕ = [] ++ replicate (cells h - 0) 0 in
          let w = padded [] (omega arith) tt in
          count_first h (ps ++ (m ∷ [])) (and_matrix m w) (before ps) _ (with_matrix ps m) all (l ∷ ls) begins line lines e (cells h + 1) (omega (arith, length-map m decimal, w.0)) (letter_field l Matrix k) r

      matrix_codes : kind_of (first (split comma l)) ≡ Some Matrix → length (split comma l) ≡ cells h + 1 → codes_from (size_of h.letter) line 2 (drop 1 (split comma l)) ≡ Err e → FirstFault all e
      matrix_codes k n r =
          let f = codes_first (size_of h.letter) line 2 (drop 1 (split comma l)) e r in
          let vs = f.values in
          let some = some_fields (split comma l) (cells h) n in
          let z : List ℕ = replicate (cells h - length vs) 0 in
          let m : List ℕ = vs ++ z in
          let w = padded vs (omega (arith, f.few, n, ap length some)) f.codes in
          field_first h (ps ++ (m ∷ [])) (and_matrix m w) (before ps) _ (with_matrix ps m) all (l ∷ ls) begins line lines e (2 + length vs) (suc (length vs)) f.placed (omega arith)
          (ap (take (suc (length vs))) (some ∙ ap (λ (p : List ℕ). p ∷ drop 1 (split comma l)) (kind_field (first (split comma l)) Matrix k))
          ∙ ap (λ (x : List (List ℕ)). (matrix_letter ∷ []) ∷ x) (f.before ∙ sym (ap (take (length vs)) (map-append decimal vs z) ∙ take_mapped decimal vs (map decimal z))))

      matrix_refused : kind_of (first (split comma l)) ≡ Some Matrix → checked_matrix h line (split comma l) ≡ Err e → FirstFault all e
      matrix_refused k r =
          elim (then_err (counted (cells h + 1) line (split comma l)) _ e r) [ inl a ↦ matrix_count k a | inr a ↦ matrix_codes k (counted_ok (cells h + 1) line (split comma l) a.0 (sym a.1)) a.2 ]

      end_refused : (n : ℕ) → kind_of (first (split comma l)) ≡ Some End → checked_end n line (split comma l) ≡ Err e → FirstFault all e
      end_refused n k r =
          elim (then_err (counted 2 line (split comma l)) _ e r) [
            | inl a ↦ count_first h ps is_list (before ps) (end_fields (length ps) ∷ []) refl all (l ∷ ls) begins line lines e 2 refl (letter_field l End k) a
            | inr a ↦ field_first h ps is_list (before ps) (end_fields (length ps) ∷ []) refl all (l ∷ ls) begins line lines e 2 1 (end_placed n line (get_or (split comma l) 1 []) e a.2) refl (letter_field l End k)
          ]

      -- a line behind the end line
      behind_refused : (n : ℕ) → n ≡ length ps → end_line n ≡ l → nothing_behind n (line + 1) ls ≡ Err e → FirstFault all e
      behind_refused n same w r =
          let ended : l ≡ end_line (length ps) = sym w ∙ ap end_line same in
          let whole : all ≡ map (join comma) (list_fields h ps) ++ ls =
          begins ∙ ap (λ (x : List ℕ). map (join comma) (before ps) ++ (x ∷ ls)) ended
          ∙ sym (append_assoc (map (join comma) (before ps)) (end_line (length ps) ∷ []) ls)
          ∙ ap (λ (x : List (List ℕ)). x ++ ls) (sym (map-append (join comma) (before ps) (end_fields (length ps) ∷ []))) in
          let count : line + 1 - 1 ≡ length (list_fields h ps) = omega (arith, length-append (map matrix_fields ps) (end_fields (length ps) ∷ []), length-map ps matrix_fields) in
          by ls whole count r
        where
          by : (rest : List (List ℕ)) → all ≡ map (join comma) (list_fields h ps) ++ rest → line + 1 - 1 ≡ length (list_fields h ps) → nothing_behind n (line + 1) rest ≡ Err e → FirstFault all e
          by [] whole count r = absurd (ok_err r)
          by (x ∷ rest) whole count r = letter_refused h ps is_list (list_fields h ps) [] (sym (append-nil (list_fields h ps))) all (x ∷ rest) whole (line + 1) count {X = ℕ} e r

  moved_on : (ps : List (List ℕ)) (l : List ℕ) (ls : List (List ℕ)) → matrix_line (values_of l) ≡ l → map (join comma) (before ps) ++ (l ∷ ls) ≡ map (join comma) (before (ps ++ (values_of l ∷ []))) ++ ls
  moved_on ps l ls w =
      let m = values_of l in
      ap (λ (x : List ℕ). map (join comma) (before ps) ++ (x ∷ ls)) (sym w)
      ∙ sym (ap (λ (x : List (List (List ℕ))). header_line h ∷ (map (join comma) x ++ ls)) (map_push matrix_fields ps m)
      ∙ ap (λ (x : List (List ℕ)). header_line h ∷ (x ++ ls)) (map_push (join comma) (map matrix_fields ps) (matrix_fields m))
      ∙ ap (λ (x : List (List ℕ)). header_line h ∷ x) (append_assoc (map (join comma) (map matrix_fields ps)) (matrix_line m ∷ []) ls))

  body_refused : (ps : List (List ℕ)) → AllByRecursion (MatrixOf h) ps → (n line : ℕ) → n ≡ length ps → line ≡ length ps + 2 → (ls all : List (List ℕ)) → all ≡ map (join comma) (before ps) ++ ls → (e : FileFault) → checked_body h n line ls ≡ Err e → FirstFault all e
  body_refused ps good n line count place [] all begins e r = body_letter ps good line place all [] begins {X = ℕ} e r
  body_refused ps good n line count place (l ∷ ls) all begins e r =
      by (kind_of (first (split comma l))) refl r
      (λ w e'. body_refused (ps ++ (values_of l ∷ [])) (All-push (MatrixOf h) ps (values_of l) good w.matrix) (n + 1) (line + 1) (omega (arith, length_push ps (values_of l))) (omega (arith, length_push ps (values_of l))) ls all (begins ∙ moved_on ps l ls w.written) e e')
    where
      by : (k : Option Kind) → kind_of (first (split comma l)) ≡ k
          → by_kind k (line_refused Letter line 1) (then (checked_matrix h line (split comma l)) (λ _. checked_body h (n + 1) (line + 1) ls)) (then (checked_end n line (split comma l)) (λ _. nothing_behind n (line + 1) ls)) (line_refused Letter line 1) ≡ Err e
          → (MatrixLine h l → checked_body h (n + 1) (line + 1) ls ≡ Err e → FirstFault all e)
          → FirstFault all e
      by None k r ih = body_letter ps good line place all (l ∷ ls) begins {X = ℕ} e r
      by (Some Start) k r ih = body_letter ps good line place all (l ∷ ls) begins {X = ℕ} e r
      by (Some Matrix) k r ih =
          elim (then_err (checked_matrix h line (split comma l)) (λ _. checked_body h (n + 1) (line + 1) ls) e r) [ inl a ↦ matrix_refused ps good line place all l ls begins e k a | inr a ↦ ih (matrix_ok h line l a.0 k a.1) a.2 ]
      by (Some End) k r ih =
          elim (then_err (checked_end n line (split comma l)) (λ _. nothing_behind n (line + 1) ls) e r) [ inl a ↦ end_refused ps good line place all l ls begins e n k a | inr a ↦ behind_refused ps good line place all l ls begins e n count (end_ok n line l a.0 k a.1) a.2 ]

-- ---- the whole
lines_refused : (ls : List (List ℕ)) (e : FileFault) → checked_lines ls ≡ Err e → FirstFault ls e
lines_refused [] e r = letter_refused (least B 1) [] (least_list B 1 refl) [] _ refl [] [] refl 1 refl {X = Listing} e r
lines_refused (l ∷ ls) e r =
    elim (then_err (checked_header 1 (split comma l)) _ e r) [
      | inl a ↦ header_refused l ls e a
      | inr a ↦
          let f = header_ok 1 (split comma l) a.0 a.1 in
          elim (then_err (checked_body a.0 0 2 ls) _ e a.2) [ inl b ↦ body_refused a.0 f.is_size f.is_bound [] tt 0 2 refl refl ls (l ∷ ls) (ap (λ (x : List ℕ). x ∷ ls) (sym (header_written 1 l a.0 f))) e b | inr b ↦ absurd (ok_err b.2) ]
    ]

pub names_first : (b : List ℕ) (e : FileFault) → reading b ≡ Err e → FirstFault (lines_of b) e
names_first b e r =
    elim (then_err (checked_file b) _ e r) [
      | inr a ↦ absurd (ok_err a.2)
      | inl a ↦
          elim (then_err (carried Whole (opened b)) _ e a) [ inl o ↦ subst (FirstFault (lines_of b)) (carried_err Whole (opened b) e o).1 tt | inr o ↦ lines_refused (lines_of b) e o.2 ]
    ]
