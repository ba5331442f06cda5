-- One term of a discrepancy as it stands in the lists of codes, and the whole as a loop or a fold makes it.
use Rattle.std.proofs.Common.{◌≡◌, ℕ, ◌+◌, ◌-◌, ◌*◌, ◌<◌, ◌≤◌, min, cond, ltb, List, length, get_or, drop, slice_range, sym, ap, ◌∙◌, ap₂, add-one, arith}
use Rattle.std.proofs.lemmas.List.{length-take, length-drop, get_or-take, get_or-drop}
use Rattle.std.proofs.lemmas.Bool.{cond-true, lt-ltb}
use Rattle.rings.specs.Meaning.{Meaning}
use Rattle.recurrences.specs.Operations.{Operations, numbers}
use Rattle.recurrences.specs.Sums.{sum}
use Rattle.recurrences.specs.Discrepancy.{Matrices, Column, discrepancy}
use Rattle.recurrences.specs.Reading.{matrices_in, column_in}
use Rattle.recurrences.proofs.Summing.{sum_same}

-- n elements of a list cut out from i on
length_cut : (xs : List ℕ) (i n : ℕ) → i + n ≤ length xs → length (slice_range xs i (i + n)) ≡ n
length_cut xs i n h = omega (arith, length-take (i + n - i) (drop i xs), length-drop i xs)

get_or_cut : (xs : List ℕ) (i n c : ℕ) → c < n → get_or (slice_range xs i (i + n)) c 0 ≡ get_or xs (i + c) 0
get_or_cut xs i n c h = get_or-take (i + n - i) (drop i xs) c 0 (omega arith) ∙ get_or-drop i xs c 0

-- a row cut out of the list of matrices, times a coefficient cut out of the column
pub term_read : (q : ℕ) (m : Meaning) (R C : ℕ) (list column : List ℕ) (l r k i j : ℕ) → i ≡ (l * R + r) * C → j ≡ k * C → r < R → i + C ≤ length list → j + C ≤ length column
    → sum (numbers q m) (min (length (slice_range list i (i + C))) (length (slice_range column j (j + C)))) (λ c. (numbers q m).mul (get_or (slice_range list i (i + C)) c 0) (get_or (slice_range column j (j + C)) c 0))
    ≡ sum (numbers q m) C (λ c. (numbers q m).mul (matrices_in R C list l r c) (column_in C column k c))
term_read q m R C list column l r k i j at from inside list_room column_room =
    let a = slice_range list i (i + C) in
    let b = slice_range column j (j + C) in
    let n : min (length a) (length b) ≡ C = omega (arith, length_cut list i C list_room, length_cut column j C column_room) in
    ap (λ (n : ℕ). sum (numbers q m) n (λ c. (numbers q m).mul (get_or a c 0) (get_or b c 0))) n
    ∙ sum_same (numbers q m) C _ _
    (λ c lt.
    let t = lt-ltb c C lt in
    ap₂ (numbers q m).mul
    (get_or_cut list i C c lt ∙ ap (λ (i : ℕ). get_or list (i + c) 0) at ∙ sym (cond-true (ltb r R) (cond (ltb c C) (get_or list ((l * R + r) * C + c) 0) 0) 0 (lt-ltb r R inside) ∙ cond-true (ltb c C) (get_or list ((l * R + r) * C + c) 0) 0 t))
    (get_or_cut column j C c lt ∙ ap (λ (j : ℕ). get_or column (j + c) 0) from ∙ sym (cond-true (ltb c C) (get_or column (k * C + c) 0) 0 t)))

pub discrepancy_whole : (O : Operations) (C : ℕ) (M : Matrices O) (f : Column O) (d l r n : ℕ) → n ≡ min l d + 1
    → sum O n (λ k. sum O C (λ c. O.mul (M (l - k) r c) (f k c))) ≡ discrepancy O C M f d l r
unfolding discrepancy
discrepancy_whole O C M f d l r n e = ap (λ (n : ℕ). sum O n (λ k. sum O C (λ c. O.mul (M (l - k) r c) (f k c)))) (e ∙ add-one (min l d))
