-- Matrices in a list behind n others.
use Rattle.std.proofs.Common.{◌≡◌, ℕ, ◌+◌, ◌-◌, ◌*◌, ◌/◌, ◌%◌, ◌<◌, cond, ltb, List, ◌++◌, length, get_or, sym, ap, ◌∙◌, subst, mod-lt, mul_assoc, mul_comm, div-lt_iff_lt-mul, add-mul, mul-pos, one-mul, arith, length-append}
use native.Mathlib.Decide.{dec_lt}
use native.Mathlib.Nat.{mul-div_left, mod-add-div}
use lib.Arith.{digits_div, digits_mod, digits_lt}
use Rattle.std.proofs.lemmas.List.{get_or_append_left, get_or-append-add}
use Rattle.std.proofs.lemmas.Bool.{cond-true, lt-ltb}
use Rattle.recurrences.specs.Reading.{matrices_in}
use Rattle.runs.specs.Standings.{count_of}
use Rattle.runs.proofs.Recording.{entry_below}

-- where entry c of row r of matrix i stands
entry_at : (N i r c : ℕ) → (i * N + r) * N + c ≡ i * (N * N) + (r * N + c)
entry_at N i r c = omega (arith, add-mul (i * N) r N, mul_assoc i N N)

module _ (N : ℕ) where
  pub entry_within : (i r c : ℕ) → r < N → c < N → (k : ℕ) → i < k → i * (N * N) + (r * N + c) < k * (N * N)
  entry_within i r c rN cN k ik = omega (arith, entry_below N i r c rN cN k ik, entry_at N i r c)

  pub entry_in : (codes : List ℕ) (i r c : ℕ) → r < N → c < N → matrices_in N N codes i r c ≡ get_or codes (i * (N * N) + (r * N + c)) 0
  entry_in codes i r c rN cN =
      cond-true (ltb r N) _ 0 (lt-ltb r N rN) ∙ cond-true (ltb c N) _ 0 (lt-ltb c N cN) ∙ ap (λ (x : ℕ). get_or codes x 0) (entry_at N i r c)

  -- code t of matrix i
  pub code_in : (codes : List ℕ) (i t : ℕ) → 0 < N → t < N * N → get_or codes (i * (N * N) + t) 0 ≡ matrices_in N N codes i (t / N) (t % N)
  code_in codes i t some lt =
      ap (λ (x : ℕ). get_or codes (i * (N * N) + x) 0) (omega (arith, mod-add-div t N, mul_comm N (t / N)))
      ∙ sym (entry_in codes i (t / N) (t % N) ((div-lt_iff_lt-mul some).1 lt) (mod-lt t some))

  -- a matrix whose codes are written in order
  pub matrix_written : (codes : List ℕ) (i : ℕ) (x : ℕ → ℕ → ℕ) → ((t : ℕ) → t < N * N → get_or codes (i * (N * N) + t) 0 ≡ x (t / N) (t % N))
      → (r c : ℕ) → r < N → c < N → matrices_in N N codes i r c ≡ x r c
  matrix_written codes i x h r c rN cN =
      entry_in codes i r c rN cN ∙ h (r * N + c) (digits_lt rN cN) ∙ ap (λ (y : ℕ). x y ((r * N + c) % N)) (digits_div r cN) ∙ ap (x r) (digits_mod r cN)

  -- the codes of the first i matrices are alike
  abbrev pub Alike : ℕ → List ℕ → List ℕ → Type 0
  Alike i p p' = (x : ℕ) → x < i * (N * N) → get_or p x 0 ≡ get_or p' x 0

  -- what holds of the codes of i matrices, and of those of the next
  pub codes_more : (P : ℕ → Type 0) (i : ℕ) → ((x : ℕ) → x < i * (N * N) → P x) → ((t : ℕ) → t < N * N → P (i * (N * N) + t)) → (x : ℕ) → x < (i + 1) * (N * N) → P x
  codes_more P i old new x lt = go (dec_lt x (i * (N * N)))
    where
      go : Dec (x < i * (N * N)) → P x
      go (yes h) = old x h
      go (no h) =
          let at : i * (N * N) + (x - i * (N * N)) ≡ x = omega arith in
          subst P at (new (x - i * (N * N)) (omega (arith, add-mul i 1 (N * N), one-mul (N * N))))

  pub alike_more : (p p' : List ℕ) (i : ℕ) → 0 < N → Alike i p p' → ((r c : ℕ) → r < N → c < N → matrices_in N N p i r c ≡ matrices_in N N p' i r c) → Alike (i + 1) p p'
  alike_more p p' i some old new = codes_more (λ x. get_or p x 0 ≡ get_or p' x 0) i old
      (λ t lt. code_in p i t some lt ∙ new (t / N) (t % N) ((div-lt_iff_lt-mul some).1 lt) (mod-lt t some) ∙ sym (code_in p' i t some lt))

  -- n matrices in front
  module _ (n : ℕ) (taken : List ℕ) (long : length taken ≡ n * (N * N)) where
    pub in_front : (p : List ℕ) (l r c : ℕ) → l < n → r < N → c < N → matrices_in N N (taken ++ p) l r c ≡ matrices_in N N taken l r c
    in_front p l r c ln rN cN =
        ap (λ (x : ℕ). cond (ltb r N) (cond (ltb c N) x 0) 0) (get_or_append_left taken p 0 ((l * N + r) * N + c) (omega (arith, entry_below N l r c rN cN n ln)))

    pub at_back : (p : List ℕ) (i r c : ℕ) → matrices_in N N (taken ++ p) (n + i) r c ≡ matrices_in N N p i r c
    at_back p i r c =
        ap (λ (x : ℕ). cond (ltb r N) (cond (ltb c N) x 0) 0)
        (ap (λ (x : ℕ). get_or (taken ++ p) x 0) (omega (arith, long, add-mul n i N, add-mul (n * N) (i * N + r) N, mul_assoc n N N)) ∙ get_or-append-add taken p ((i * N + r) * N + c) 0)

    pub alike_matrices : (p p' : List ℕ) (i : ℕ) → Alike i p p' → (l r c : ℕ) → l < n + i → r < N → c < N → matrices_in N N (taken ++ p) l r c ≡ matrices_in N N (taken ++ p') l r c
    alike_matrices p p' i same l r c lt rN cN = go (dec_lt l n)
      where
        go : Dec (l < n) → matrices_in N N (taken ++ p) l r c ≡ matrices_in N N (taken ++ p') l r c
        go (yes h) = in_front p l r c h rN cN ∙ sym (in_front p' l r c h rN cN)
        go (no h) =
            let k : ℕ = l - n in
            let lk : l ≡ n + k = omega arith in
            rw lk
            (at_back p k r c
            ∙ ap (λ (x : ℕ). cond (ltb r N) (cond (ltb c N) x 0) 0) (same ((k * N + r) * N + c) (entry_below N k r c rN cN i (omega arith)))
            ∙ sym (at_back p' k r c))

    pub count_appended : (p : List ℕ) (k : ℕ) → 0 < N → length p ≡ k * (N * N) → count_of N (taken ++ p) ≡ n + k
    count_appended p k some e = ap (λ (x : ℕ). x / (N * N)) (omega (arith, length-append taken p, add-mul n k (N * N))) ∙ mul-div_left (n + k) (mul-pos some some)

    pub count_taken : 0 < N → count_of N taken ≡ n
    count_taken some = ap (λ (x : ℕ). x / (N * N)) long ∙ mul-div_left n (mul-pos some some)
