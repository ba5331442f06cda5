-- A continuation, one matrix after the other: what it satisfies makes it the only one.
use Rattle.std.proofs.Common.{◌≡◌, ℕ, zero, suc, ◌+◌, ◌-◌, ◌*◌, ◌/◌, ◌%◌, ◌<◌, ◌≤◌, List, ◌++◌, length, get_or, Option, sym, refl, ap, ◌∙◌, subst, mod-lt, div-lt_iff_lt-mul, add-one, arith, below_more}
use Rattle.std.proofs.lemmas.List.{ext_get_or}
use Rattle.rings.specs.Meaning.{Meaning, Laws, Inverse}
use Rattle.rings.specs.Arithmetic.{Arithmetic, reading}
use Rattle.recurrences.specs.Discrepancy.{discrepancy}
use Rattle.recurrences.specs.Operations.{numbers}
use Rattle.recurrences.specs.Reading.{matrices_in}
use Rattle.recurrences.specs.Theorems.{ListOfMatrices}
use Rattle.recurrences.proofs.Dependence.{discrepancy_cong}
use Rattle.runs.specs.Continuing.{ContinuesWith, OnlyContinuation}
use Rattle.runs.specs.Standings.{count_of, columns_after}
use Rattle.runs.proofs.Appended.{Alike, entry_in, entry_within, code_in, codes_more, alike_more, at_back, alike_matrices, count_appended, count_taken}
use Rattle.runs.proofs.CodesAt.{all_codes_from, code_at}
use Rattle.runs.proofs.Continued.{discrepancy_put, only_next}

-- N is the size, and n matrices are taken
module _ (q : ℕ) (m : Meaning) (inv : ℕ → Option ℕ) (N n : ℕ) (taken : List ℕ) where
  abbrev a : Arithmetic
  a = reading q m inv

  abbrev matrices : List ℕ → ListOfMatrices
  matrices p = matrices_in N N (taken ++ p)

  -- entry r of the discrepancy of generator column j at place l
  abbrev entry : List ℕ → ℕ → ℕ → ℕ → ℕ
  entry p l j r = discrepancy (numbers q m) N (matrices p) ((columns_after a N taken).gen j) ((columns_after a N taken).gen_degree j) l r

  -- the first i matrices of p continue the list
  pub record Continued (i : ℕ) (p : List ℕ) : Type 0 where
    pub codes : (x : ℕ) → x < i * (N * N) → get_or p x 0 < q
    pub zeros : (k : ℕ) → k < i → (j r : ℕ) → j < N → r < N → entry p (n + k) j r ≡ 0

  pub continued_none : (p : List ℕ) → Continued 0 p
  continued_none p = record { codes = λ x lt. absurd (omega arith); zeros = λ k lt. absurd (omega arith) }

  module _ (some : 0 < N) (long : length taken ≡ n * (N * N)) where
    -- one matrix more
    pub continued_more : (p p' : List ℕ) (i : ℕ) → Continued i p → Alike N i p p' → ((r c : ℕ) → r < N → c < N → matrices_in N N p' i r c < q)
        → ((j r : ℕ) → j < N → r < N → entry p' (n + i) j r ≡ 0) → Continued (i + 1) p'
    continued_more p p' i old same coded last = record {
      codes = codes_more N (λ x. get_or p' x 0 < q) i (λ x lt. subst (λ (y : ℕ). y < q) (same x lt) (old.codes x lt))
          (λ t lt. subst (λ (y : ℕ). y < q) (sym (code_in N p' i t some lt)) (coded (t / N) (t % N) ((div-lt_iff_lt-mul some).1 lt) (mod-lt t some)));
      zeros = below_more (λ k. (j r : ℕ) → j < N → r < N → entry p' (n + k) j r ≡ 0) i
          (λ k lt j r jN rN. discrepancy_cong (numbers q m) N (matrices p') (matrices p) _ _ _ (n + k) r
          (λ l e c lk _ cN. ap (λ (x : ℕ). (numbers q m).mul x ((columns_after a N taken).gen j e c)) (sym (alike_matrices N n taken long p p' i same l r c (omega arith) rN cN)))
          ∙ old.zeros k lt j r jN rN)
          last;
    }

    pub continued_whole : (k : ℕ) (p : List ℕ) → length p ≡ k * (N * N) → Continued k p → ContinuesWith a N taken p
    continued_whole k p len C = record {
      codes = all_codes_from q p (λ x lt. C.codes x (omega arith));
      zero_discrepancies = λ l j r from to jN rN.
          let e = count_taken N n taken long some in
          let f = count_appended N n taken long p k some len in
          let at : n + (l - n) ≡ l = omega arith in
          ap (λ (x : ℕ). entry p x j r) (sym at) ∙ C.zeros (l - n) (omega arith) j r jN rN;
    }

    whole_continued : (k : ℕ) (p : List ℕ) → length p ≡ k * (N * N) → ContinuesWith a N taken p → Continued k p
    whole_continued k p len W = record {
      codes = λ x lt. code_at q p W.codes x (omega arith);
      zeros = λ i lt j r jN rN. let e = count_taken N n taken long some in let f = count_appended N n taken long p k some len in W.zero_discrepancies (n + i) j r (omega arith) (omega arith) jN rN;
    }

    module _ (L : Laws q m) (V : (a : ℕ) → a < q → Inverse q m a (inv a)) where
      entry_code : (k : ℕ) (p : List ℕ) → Continued k p → (i : ℕ) → i < k → (r c : ℕ) → r < N → c < N → matrices p (n + i) r c < q
      entry_code k p C i ik r c rN cN =
          subst (λ (x : ℕ). x < q) (sym (at_back N n taken long p i r c ∙ entry_in N p i r c rN cN)) (C.codes (i * (N * N) + (r * N + c)) (entry_within N i r c rN cN k ik))

      alike_next : (k : ℕ) (p p' : List ℕ) → Continued k p → Continued k p' → (i : ℕ) → i < k → Alike N i p p' → Alike N (i + 1) p p'
      alike_next k p p' C C' i h before = alike_more N p p' i some before (λ r c rN cN.
          sym (at_back N n taken long p i r c)
          ∙ only_next q m inv L V N (matrices_in N N taken) (count_of N taken) (matrices p) (n + i) (matrices p (n + i)) (matrices p' (n + i)) (entry_code k p C i h) (entry_code k p' C' i h)
          (λ j r jN rN. discrepancy_put (numbers q m) N (matrices p) (matrices p) (n + i) (matrices p (n + i)) (λ _ _ _ _ _ _. refl) (λ _ _ _ _. refl) _ _ r rN ∙ C.zeros i h j r jN rN)
          (λ j r jN rN. discrepancy_put (numbers q m) N (matrices p) (matrices p') (n + i) (matrices p' (n + i)) (alike_matrices N n taken long p p' i before) (λ _ _ _ _. refl) _ _ r rN ∙ C'.zeros i h j r jN rN)
          r c rN cN
          ∙ at_back N n taken long p' i r c)

      all_alike : (k : ℕ) (p p' : List ℕ) → Continued k p → Continued k p' → (i : ℕ) → i ≤ k → Alike N i p p'
      all_alike k p p' C C' zero h = λ x lt. absurd (omega arith)
      all_alike k p p' C C' (suc i) h = subst (λ (x : ℕ). Alike N x p p') (add-one i) (alike_next k p p' C C' i h (all_alike k p p' C C' i (omega arith)))

      pub continued_only : (k : ℕ) (p : List ℕ) → length p ≡ k * (N * N) → Continued k p → OnlyContinuation a N taken p
      continued_only k p len C other same W =
          ext_get_or 0 other p same (λ x lt. all_alike k other p (whole_continued k other (same ∙ len) W) C k (omega arith) x (omega arith))
