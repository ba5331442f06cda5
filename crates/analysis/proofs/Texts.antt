-- The lines of an answer as they are written.
use Rattle.std.proofs.Common.{◌≡◌, ℕ, zero, suc, ◌+◌, ◌-◌, ◌<◌, ◌≤◌, List, [], ◌∷◌, ◌++◌, length, take, drop, refl, ap, ◌∙◌, ap₂, zero-add, append-nil, arith, length-append, length-drop}
use borrow.Rule.Slice.PartMut.{put_mid}
use Rattle.std.proofs.Math.ListN.{drop_of_length-le}
use Rattle.std.proofs.lemmas.List.{drop-drop, take_rest}
use Rattle.std.proofs.lemmas.Fmt.{decimal_digit}
use Rattle.rings.specs.Arithmetic.{Arithmetic}
use Rattle.recurrences.specs.Standing.{listed}
use Rattle.runs.specs.Standings.{shown}
use Rattle.lists.specs.Bytes.{comma, line_end}
use Rattle.lists.specs.LineText.{commaed, line_text}
use Rattle.lists.specs.Places.{written}
use Rattle.lists.proofs.Writing.{put_on}
use Rattle.verdicts.specs.declared.verdict.Verdict.{Verdict}
use Rattle.analysis.specs.Answer.{column_letter, columns_under, degree_line, lines_under, misfit_line}

-- a text behind another: it is written at the front of the rest of the place
pub put_next : (p r s t : List ℕ) (n : ℕ) → n ≡ length s → n ≤ length r → length r ≡ length p → r ≡ written 0 s p
    → put_mid n (length r - n) r (written 0 t (take (length r - n) (drop n r))) ≡ written 0 (s ++ t) p
put_next p r s t n e h same put =
    let none : drop (length r - n) (drop n r) ≡ [] = drop_of_length-le (drop n r) (omega (arith, length-drop n r)) in
    let behind : drop (0 + length t) (take (length r - n) (drop n r)) ≡ drop (n + length t) r =
    ap₂ drop (zero-add (length t)) (take_rest r n) ∙ drop-drop (length t) n r in
    ap₂ (λ (x y : List ℕ). take n r ++ ((t ++ x) ++ y)) behind none ∙ ap (λ (x : List ℕ). take n r ++ x) (append-nil (t ++ drop (n + length t) r))
    ∙ put_on p r 0 n s t (omega (arith, e)) (omega (arith, h, same)) put

pub length_written : (t p : List ℕ) → length t ≤ length p → length (written 0 t p) ≡ length p
length_written t p h = omega (arith, length-append t (drop (0 + length t) p), length-drop (0 + length t) p)

-- a digit behind the letter, written with it
pub numbered_line : (j : ℕ) (codes : List ℕ) → j < 9 → line_text (column_letter ∷ []) (suc j ∷ codes) ≡ line_text (column_letter ∷ comma ∷ (49 + j) ∷ []) codes
numbered_line j codes h =
    ap (λ (d : List ℕ). column_letter ∷ comma ∷ ((d ++ commaed codes) ++ (line_end ∷ [])))
    (decimal_digit (suc j) (omega arith) ∙ ap (λ (x : ℕ). x ∷ []) (let e : 48 + suc j ≡ 49 + j = omega arith in e))

-- the first degrees of those that a run shows
pub first_shown : (N : ℕ) (d : ℕ → ℕ) → N ≤ 4 → take N (shown N d) ≡ listed N d
unfolding listed
first_shown zero d h = refl
first_shown (suc zero) d h = refl
first_shown (suc (suc zero)) d h = refl
first_shown (suc (suc (suc zero))) d h = refl
first_shown (suc (suc (suc (suc zero)))) d h = refl
first_shown (suc (suc (suc (suc (suc N))))) d h = absurd (omega arith)

pub two_more : (N x y : ℕ) (zs : List ℕ) → take (2 + N) (x ∷ y ∷ zs) ≡ x ∷ y ∷ take N zs
two_more N x y zs = ap (λ (n : ℕ). take n (x ∷ y ∷ zs)) (let e : 2 + N ≡ suc (suc N) = omega arith in e)

-- the three parts of an answer
module _ (a : Arithmetic) (N : ℕ) (taken : List ℕ) (v : Verdict) where
  pub lines_length : length (lines_under a N taken v) ≡ length (degree_line a N taken v) + (length (misfit_line v) + length (columns_under a N taken v))
  lines_length = omega (arith, length-append (degree_line a N taken v) (misfit_line v ++ columns_under a N taken v), length-append (misfit_line v) (columns_under a N taken v))
