-- What holds of a list that is not refused.
use Rattle.std.proofs.Common.{◌≡◌, ℕ, ◌*◌, ◌%◌, ◌≤◌, Bool, true, false, cond, eqb, ltb, List, length, Some, None, Ok, Err, Option, Result, IsOk, sym, ◌∙◌, refl, ap, true≢false, arith}
use native.Mathlib.Nat.{mod-add-div'}
use Rattle.std.proofs.lemmas.Bool.{eqb-true, ltb-false}
use Rattle.recurrences.specs.declared.refusal.Refusal.{Refusal}
use Rattle.recurrences.specs.declared.refusal.Refusal.TheVariants.{Size, Bound, Length, Code}
use Rattle.recurrences.specs.Codes.{all_codes}
use Rattle.runs.specs.Standings.{count_of}
use Rattle.verdicts.specs.Refusals.{list_refusal}

pub some_not_none : (e : Refusal) → Some e ≡ None → ⊥
some_not_none e h = true≢false (ap (λ (o : Option Refusal). elim o [ Some _ ↦ true | None ↦ false ]) h)

-- a call that no condition refuses succeeds
pub ok_where_none : {A : Type 0} (P : A → Type 0) (o : Option Refusal) (r : Result A Refusal) → elim r as (λ _. Type 0) [ Ok a ↦ P a | Err e ↦ o ≡ Some e ] → o ≡ None → IsOk r
ok_where_none P o (Ok a) h n = refl
ok_where_none P o (Err e) h n = absurd (some_not_none e (sym h ∙ n))

pub record Accepted (q N bound : ℕ) (list : List ℕ) : Type 0 where
  pub some : 1 ≤ N
  pub whole : length list % (N * N) ≡ 0

-- it is of whole matrices
pub whole_matrices : (N : ℕ) (list : List ℕ) → length list % (N * N) ≡ 0 → length list ≡ count_of N list * (N * N)
whole_matrices N list e = omega (arith, mod-add-div' (length list) (N * N), e)

pub accepted : (q N bound : ℕ) (list : List ℕ) → list_refusal q N bound list ≡ None → Accepted q N bound list
accepted q N bound list = by (ltb N 1) refl (ltb 4 N) refl (ltb 64 bound) refl (eqb (length list % (N * N)) 0) refl (all_codes q list) refl
  where
    by : (b0 : Bool) → ltb N 1 ≡ b0 → (b1 : Bool) → ltb 4 N ≡ b1 → (b2 : Bool) → ltb 64 bound ≡ b2 → (b3 : Bool) → eqb (length list % (N * N)) 0 ≡ b3 → (b4 : Bool) → all_codes q list ≡ b4
        → ◌≡◌ {A = Option Refusal} (elim (cond b0 (Some Size) (cond b1 (Some Size) (cond b2 (Some Bound) None))) [ Some e ↦ Some e | None ↦ cond b3 (cond b4 None (Some Code)) (Some Length) ]) None → Accepted q N bound list
    by true e0 b1 e1 b2 e2 b3 e3 b4 e4 h = absurd (some_not_none Size h)
    by false e0 true e1 b2 e2 b3 e3 b4 e4 h = absurd (some_not_none Size h)
    by false e0 false e1 true e2 b3 e3 b4 e4 h = absurd (some_not_none Bound h)
    by false e0 false e1 false e2 false e3 b4 e4 h = absurd (some_not_none Length h)
    by false e0 false e1 false e2 true e3 false e4 h = absurd (some_not_none Code h)
    by false e0 false e1 false e2 true e3 true e4 h = record {
      some = ltb-false N 1 e0;
      whole = eqb-true (length list % (N * N)) 0 e3;
    }
