-- Every answer goes into its place.
use Rattle.std.proofs.Common.{◌≡◌, ℕ, zero, suc, ◌+◌, ◌*◌, ◌^◌, ◌<◌, ◌≤◌, true, ltb, ◌≢◌, List, [], ◌∷◌, length, decimal, sym, refl, ap, subst, mul-le-mul, arith, length-append}
use native.Mathlib.Decide.{dec_le}
use Rattle.std.proofs.lemmas.Fmt.{length-decimal-le}
use Rattle.std.proofs.lemmas.Bool.{and_parts, and_from, ltb-true, lt-ltb}
use Rattle.rings.specs.Arithmetic.{Arithmetic}
use Rattle.recurrences.specs.Codes.{all_codes}
use Rattle.recurrences.specs.declared.phase.Phase.TheVariants.{Short}
use Rattle.recurrences.specs.Degrees.{total}
use Rattle.recurrences.specs.Standing.{listed}
use Rattle.recurrences.proofs.Listing.{length_listed, get_or_listed}
use Rattle.runs.specs.Promise.{Promise}
use Rattle.runs.specs.Standings.{count_of, columns_after, column_after, phase_after}
use Rattle.runs.proofs.CodesAt.{all_codes_from}
use Rattle.lists.specs.Bytes.{comma}
use Rattle.lists.specs.LineText.{commaed}
use Rattle.lists.proofs.Streamed.{line_length}
use Rattle.verdicts.specs.declared.verdict.Verdict.{Verdict}
use Rattle.verdicts.specs.declared.verdict.Verdict.TheVariants.{Unsettled, Generated, Misfit, Insufficient}
use Rattle.verdicts.specs.Verdicts.{letter_of}
use Rattle.verdicts.proofs.GeneratorColumns.{column_length, total_within_bound}
use Rattle.analysis.specs.Limits.{least_answer}
use Rattle.analysis.specs.Answer.{column_letter, degree_letter, misfit_letter, column_line, column_lines, columns_under, degree_line, misfit_line, lines_under, ColumnsGiven}
use Rattle.analysis.proofs.Degrees.{count_small, total_small, degree_small}
use Rattle.analysis.proofs.Texts.{lines_length}

-- numbers below 1000 have at most three digits
commaed_short : (q : ℕ) (xs : List ℕ) → q ≤ 1000 → all_codes q xs ≡ true → length (commaed xs) ≤ 4 * length xs
commaed_short q [] h e = omega arith
commaed_short q (x ∷ xs) h e =
    let p = and_parts (ltb x q) (all_codes q xs) e in
    let few : length (decimal x) ≤ 3 = length-decimal-le 3 x (omega arith) (omega (arith, ltb-true x q p.0)) (omega (arith, ltb-true x q p.0)) in
    omega (arith, length-append (comma ∷ decimal x) (commaed xs), few, commaed_short q xs h p.1)

module _ (a : Arithmetic) (N : ℕ) (taken : List ℕ) where
  pub column_lines_grow : (j k : ℕ) → j ≤ k → length (column_lines a N taken j) ≤ length (column_lines a N taken k)
  column_lines_grow j zero h = ap_le (let e : j ≡ 0 = omega arith in e)
    where
      ap_le : j ≡ 0 → length (column_lines a N taken j) ≤ 0
      ap_le e = omega (arith, ap (λ (k : ℕ). length (column_lines a N taken k)) e)
  column_lines_grow j (suc k) h = go (dec_le j k) (λ l. column_lines_grow j k l)
    where
      go : Dec (j ≤ k) → (j ≤ k → length (column_lines a N taken j) ≤ length (column_lines a N taken k)) → length (column_lines a N taken j) ≤ length (column_lines a N taken (suc k))
      go (yes l) ih = omega (arith, ih l, length-append (column_lines a N taken k) (column_line a N taken k))
      go (no l) ih = omega (arith, ap (λ (i : ℕ). length (column_lines a N taken i)) (let e : j ≡ suc k = omega arith in e))

  -- under a verdict that gives columns, all of them
  columns_all : (v : Verdict) → v ≢ Insufficient → columns_under a N taken v ≡ column_lines a N taken N
  columns_all Unsettled told = refl
  columns_all Generated told = refl
  columns_all (Misfit l) told = refl
  columns_all Insufficient told = absurd (told refl)

  -- the line of a column stands behind those before it
  pub columns_before : (v : Verdict) (j : ℕ) → v ≢ Insufficient → j < N → length (column_lines a N taken j) + length (column_line a N taken j) ≤ length (columns_under a N taken v)
  columns_before v j told h =
      omega (arith, ap length (columns_all v told), column_lines_grow (suc j) N h, length-append (column_lines a N taken j) (column_line a N taken j))

  pub column_within : (v : Verdict) (j : ℕ) → v ≢ Insufficient → j < N → length (column_line a N taken j) ≤ length (lines_under a N taken v)
  column_within v j told h = omega (arith, lines_length a N taken v, columns_before v j told h)

  -- of codes of a ring of at most 256
  module _ (small : N ≤ 4) (q : ℕ) (bytes : q ≤ 256) (codes : (j : ℕ) → all_codes q (column_after a N taken j) ≡ true) where
    column_short : (j : ℕ) → j < 4 → length (column_line a N taken j) ≤ 22 + 16 * (columns_after a N taken).gen_degree j
    column_short j h =
        let d = (columns_after a N taken).gen_degree j in
        let digit : length (decimal (suc j)) ≤ 3 = length-decimal-le 3 (suc j) (omega arith) (omega arith) (omega arith) in
        let first = length-append (comma ∷ decimal (suc j)) (commaed (column_after a N taken j)) in
        let more : d + 1 ≤ d + 1 = omega arith in
        omega (arith, line_length (column_letter ∷ []) (suc j ∷ column_after a N taken j), first, digit, commaed_short q (column_after a N taken j) (omega arith) (codes j), column_length a N taken j, mul-le-mul small more)

    columns_short : (k : ℕ) → k ≤ 4 → length (column_lines a N taken k) ≤ 22 * k + 16 * total k (columns_after a N taken).gen_degree
    unfolding total
    columns_short zero h = omega arith
    columns_short (suc k) h =
        omega (arith, length-append (column_lines a N taken k) (column_line a N taken k), columns_short k (omega arith), column_short k (omega arith))

    module _ (bound : ℕ) (bounded : bound ≤ 64) (promise : Promise a N bound taken) where
      degrees_short : (v : Verdict) → length (degree_line a N taken v) ≤ 28
      degrees_short v =
          let d = (columns_after a N taken).gen_degree in
          let low : all_codes 1000 (listed N d) ≡ true = all_codes_from 1000 (listed N d) (λ i h.
          subst (λ (x : ℕ). x < 1000) (sym (get_or_listed N d i 0 (omega (arith, length_listed N d)))) (omega (arith, degree_small a N bound taken small bounded promise i (omega (arith, length_listed N d))))) in
          let all : all_codes 1000 (count_of N taken ∷ total N d ∷ listed N d) ≡ true =
          and_from (ltb (count_of N taken) 1000) _ (lt-ltb (count_of N taken) 1000 (omega (arith, count_small a N bound taken small bounded promise)))
          (and_from (ltb (total N d) 1000) _ (lt-ltb (total N d) 1000 (omega (arith, total_small a N bound taken small bounded promise))) low) in
          omega (arith, line_length (degree_letter ∷ comma ∷ letter_of v ∷ []) (count_of N taken ∷ total N d ∷ listed N d), commaed_short 1000 (count_of N taken ∷ total N d ∷ listed N d) (omega arith) all, length_listed N d)

      all_columns_short : phase_after a N bound taken ≢ Short → length (column_lines a N taken N) ≤ 1112
      all_columns_short h =
          omega (arith, columns_short N small, total_within_bound a N bound taken h)

      misfit_short : (l : ℕ) → l < 2 ^ 32 → length (misfit_line (Misfit l)) ≤ 13
      misfit_short l h = omega (arith, line_length (misfit_letter ∷ []) (l ∷ []), length-append (comma ∷ decimal l) [], length-decimal-le 10 l (omega arith) (omega arith) (omega arith))

      pub answer_short : (v : Verdict) → ColumnsGiven (phase_after a N bound taken) v → length (lines_under a N taken v) ≤ least_answer
      answer_short Unsettled h = omega (arith, lines_length a N taken Unsettled, degrees_short Unsettled, all_columns_short h)
      answer_short Generated h = omega (arith, lines_length a N taken Generated, degrees_short Generated, all_columns_short h)
      answer_short (Misfit l) h = omega (arith, lines_length a N taken (Misfit l), degrees_short (Misfit l), all_columns_short h.0, misfit_short l h.1)
      answer_short Insufficient h = omega (arith, lines_length a N taken Insufficient, degrees_short Insufficient)
