-- The text of a list from left to right, and its length.
use Rattle.std.proofs.Common.{◌≡◌, ℕ, zero, suc, ◌+◌, ◌*◌, ◌/◌, ◌%◌, ◌<◌, ◌≤◌, List, [], ◌∷◌, ◌++◌, map, length, take, drop, decimal, sym, refl, ap, ◌∙◌, append_assoc, suc-mul, add-one, arith, length-append, length-drop}
use native.Mathlib.Nat.{add-div_left, div-eq_of_lt}
use Rattle.std.proofs.lemmas.List.{append-nil, take-append-drop, take_at, drop_at, nil_from_length}
use Rattle.lists.specs.Bytes.{line_end, comma, start_letter, matrix_letter, end_letter}
use Rattle.lists.specs.LineText.{commaed, line_text, matrix_texts}
use Rattle.lists.specs.Rings.{byte_of}
use Rattle.lists.specs.Split.{join}
use Rattle.lists.specs.Text.{closed, cells, count_of, parted, matrices_of, text}
use Rattle.lists.specs.declared.header.Header.{Header}
use Rattle.lists.proofs.Joined.{header_line, body_lines}
use Rattle.lists.proofs.Parted.{length_parted, count_times}

-- ---- one line
join_commaed : (p xs : List ℕ) → join comma (p ∷ map decimal xs) ≡ p ++ commaed xs
join_commaed p [] = sym (append-nil p)
join_commaed p (x ∷ xs) = ap (λ (s : List ℕ). p ++ (comma ∷ s)) (join_commaed (decimal x) xs)

line_closed : (p xs rest : List ℕ) → join comma (p ∷ map decimal xs) ++ (line_end ∷ rest) ≡ line_text p xs ++ rest
line_closed p xs rest =
    ap (λ (s : List ℕ). s ++ (line_end ∷ rest)) (join_commaed p xs)
    ∙ append_assoc p (commaed xs) (line_end ∷ rest)
    ∙ sym (append_assoc p (commaed xs ++ (line_end ∷ [])) rest ∙ ap (λ (s : List ℕ). p ++ s) (append_assoc (commaed xs) (line_end ∷ []) rest))

pub line_length : (p xs : List ℕ) → length (line_text p xs) ≡ length p + length (commaed xs) + 1
line_length p xs = omega (arith, length-append p (commaed xs ++ (line_end ∷ [])), length-append (commaed xs) (line_end ∷ []))

commaed_append : (xs ys : List ℕ) → commaed (xs ++ ys) ≡ commaed xs ++ commaed ys
commaed_append [] ys = refl
commaed_append (x ∷ xs) ys = ap (λ (s : List ℕ). (comma ∷ decimal x) ++ s) (commaed_append xs ys) ∙ sym (append_assoc (comma ∷ decimal x) (commaed xs) (commaed ys))

pub commaed_long : (xs : List ℕ) → length xs ≤ length (commaed xs)
commaed_long [] = omega arith
commaed_long (x ∷ xs) = omega (arith, commaed_long xs, length-append (comma ∷ decimal x) (commaed xs))

-- ---- all lines
abbrev pub start_of : Header → List ℕ
start_of h = start_letter ∷ comma ∷ byte_of h.letter ∷ []

body_closed : (k m n : ℕ) (cs : List ℕ) → closed (body_lines m (parted k n cs)) ≡ matrix_texts k n cs ++ line_text (end_letter ∷ []) (m ∷ [])
body_closed k m zero cs = line_closed (end_letter ∷ []) (m ∷ []) [] ∙ append-nil (line_text (end_letter ∷ []) (m ∷ []))
body_closed k m (suc n) cs =
    let rest = line_text (end_letter ∷ []) (m ∷ []) in
    ap (λ (s : List ℕ). join comma ((matrix_letter ∷ []) ∷ map decimal (take k cs)) ++ (line_end ∷ s)) (body_closed k m n (drop k cs))
    ∙ line_closed (matrix_letter ∷ []) (take k cs) (matrix_texts k n (drop k cs) ++ rest)
    ∙ sym (append_assoc (line_text (matrix_letter ∷ []) (take k cs)) (matrix_texts k n (drop k cs)) rest)

pub text_streamed : (h : Header) (cs : List ℕ) → text h cs ≡ line_text (start_of h) (h.size ∷ h.bound ∷ []) ++ (matrix_texts (cells h) (count_of h cs) cs ++ line_text (end_letter ∷ []) (count_of h cs ∷ []))
text_streamed h cs =
    let rest = matrix_texts (cells h) (count_of h cs) cs ++ line_text (end_letter ∷ []) (count_of h cs ∷ []) in
    ap (λ (m : ℕ). header_line h ++ (line_end ∷ closed (body_lines m (matrices_of h cs)))) (length_parted (cells h) (count_of h cs) cs)
    ∙ ap (λ (s : List ℕ). header_line h ++ (line_end ∷ s)) (body_closed (cells h) (count_of h cs) (count_of h cs) cs)
    ∙ ap (λ (s : List ℕ). start_letter ∷ comma ∷ s) (line_closed (byte_of h.letter ∷ []) (h.size ∷ h.bound ∷ []) rest)

matrix_texts_length : (k n : ℕ) (cs : List ℕ) → n * k ≡ length cs → length (matrix_texts k n cs) ≡ 2 * n + length (commaed cs)
matrix_texts_length k zero cs e = omega (arith, ap (λ (xs : List ℕ). length (commaed xs)) (nil_from_length cs (omega (arith, e))))
matrix_texts_length k (suc n) cs e =
    let a = take k cs in let b = drop k cs in
    let s : k + n * k ≡ length cs = omega (arith, suc-mul n k, e) in
    let c : commaed cs ≡ commaed a ++ commaed b = ap commaed (sym (take-append-drop k cs)) ∙ commaed_append a b in
    omega (arith, length-append (line_text (matrix_letter ∷ []) a) (matrix_texts k n b), line_length (matrix_letter ∷ []) a, matrix_texts_length k n b (omega (arith, s, length-drop k cs)), ap length c, length-append (commaed a) (commaed b))

pub text_length : (h : Header) (cs : List ℕ) → length cs % cells h ≡ 0 → length (text h cs) ≡ (length (commaed (h.size ∷ h.bound ∷ [])) + 4) + 2 * count_of h cs + length (commaed cs) + (length (commaed (count_of h cs ∷ [])) + 2)
text_length h cs e =
    let a = line_text (start_of h) (h.size ∷ h.bound ∷ []) in
    let m = matrix_texts (cells h) (count_of h cs) cs in
    let z = line_text (end_letter ∷ []) (count_of h cs ∷ []) in
    omega (arith, ap length (text_streamed h cs), length-append a (m ++ z), length-append m z, line_length (start_of h) (h.size ∷ h.bound ∷ []), line_length (end_letter ∷ []) (count_of h cs ∷ []), matrix_texts_length (cells h) (count_of h cs) cs (count_times (cells h) cs e))

pub codes_short : (h : Header) (cs : List ℕ) → length cs % cells h ≡ 0 → length cs ≤ length (text h cs)
codes_short h cs e = omega (arith, text_length h cs e, commaed_long cs)

-- the three parts of a text
module _ (h : Header) (cs : List ℕ) where
  abbrev pub start_part : List ℕ
  start_part = line_text (start_of h) (h.size ∷ h.bound ∷ [])

  abbrev pub matrices_part : List ℕ
  matrices_part = matrix_texts (cells h) (count_of h cs) cs

  abbrev pub end_part : List ℕ
  end_part = line_text (end_letter ∷ []) (count_of h cs ∷ [])

  pub text_parts_length : length (text h cs) ≡ length start_part + (length matrices_part + length end_part)
  text_parts_length = omega (arith, ap length (text_streamed h cs), length-append start_part (matrices_part ++ end_part), length-append matrices_part end_part)

-- ---- the lines that are left to write
module _ (k : ℕ) where
  pub texts_more : 0 < k → (cs m rest : List ℕ) → cs ≡ m ++ rest → length m ≡ k → matrix_texts k (length cs / k) cs ≡ line_text (matrix_letter ∷ []) m ++ matrix_texts k (length rest / k) rest
  texts_more some cs m rest e n =
      ap (λ (x : List ℕ). matrix_texts k (length x / k) x) e
      ∙ ap (λ (j : ℕ). matrix_texts k j (m ++ rest)) count
      ∙ ap (λ (x : List ℕ). line_text (matrix_letter ∷ []) x ++ matrix_texts k (length rest / k) (drop k (m ++ rest))) (take_at m rest k n)
      ∙ ap (λ (x : List ℕ). line_text (matrix_letter ∷ []) m ++ matrix_texts k (length rest / k) x) (drop_at m rest k n)
    where
      count : length (m ++ rest) / k ≡ suc (length rest / k)
      count = let both : length (m ++ rest) ≡ k + length rest = omega (arith, length-append m rest) in ap (λ (j : ℕ). j / k) both ∙ add-div_left (length rest) some ∙ add-one (length rest / k)

  pub no_texts_left : (cs : List ℕ) → length cs < k → matrix_texts k (length cs / k) cs ≡ []
  no_texts_left cs few = ap (λ (j : ℕ). matrix_texts k j cs) (div-eq_of_lt few)
