-- Each verdict entitles to what it says.
use Rattle.std.proofs.Common.{◌≡◌, ℕ, ◌-◌, ◌*◌, ◌<◌, ◌≤◌, Bool, true, false, not, eqb, ◌≢◌, ◌⊎◌, List, ◌++◌, length, drop, Some, None, Option, sym, refl, ap, ◌∙◌, subst, inl, inr, true≢false, append_assoc, mul-le-mul_right, mul_comm, arith, length-drop, take-append-drop, length-take, take_all}
use mathlib.Core.Bool.{false≢true}
use native.Mathlib.Decide.{dec_lt}
use native.Mathlib.Nat.{mul-sub}
use Rattle.std.proofs.lemmas.Bool.{eqb-true, eq-eqb}
use Rattle.rings.specs.Meaning.{Meaning, Laws, Inverse}
use Rattle.rings.specs.Arithmetic.{Arithmetic, reading}
use Rattle.recurrences.specs.declared.phase.Phase.{Phase}
use Rattle.recurrences.specs.declared.phase.Phase.TheVariants.{Short, Running, Settled}
use Rattle.recurrences.specs.Degrees.{total}
use Rattle.recurrences.specs.Reading.{matrices_in}
use Rattle.recurrences.proofs.FirstFailure.{First, first_tells}
use Rattle.recurrences.proofs.RunTheorems.{short_exactly_when_beyond}
use Rattle.runs.specs.Promise.{Promise, Generating, BeyondBound}
use Rattle.runs.specs.Ran.{is_running}
use Rattle.runs.specs.Standings.{count_of, columns_after, phase_after}
use Rattle.runs.proofs.Appended.{count_taken}
use Rattle.verdicts.specs.Entitlements.{OursGenerate, OursAreLeast, Entitles}
use Rattle.verdicts.specs.Misfits.{generator_discrepancy, misfits, first_misfit}
use Rattle.verdicts.specs.Searches.{some_below}
use Rattle.verdicts.specs.Taking.{taken_count, taken_of}
use Rattle.verdicts.specs.Verdicts.{verdict_by, verdict_on}
use Rattle.verdicts.proofs.FirstPlaces.{some_tells, none_tells}
use Rattle.verdicts.proofs.GeneratorColumns.{degree_within_count}
use Rattle.verdicts.proofs.Prefixes.{same_in_front, front_generated}
use Rattle.verdicts.proofs.TakenCounts.{running_took_all, takes_at_most}

is_zero : (x : ℕ) → not (eqb x 0) ≡ false → x ≡ 0
is_zero x e = eqb-true x 0 (by (eqb x 0) e)
  where
    by : (b : Bool) → not b ≡ false → b ≡ true
    by true e = refl
    by false e = absurd (true≢false e)

is_not_zero : (x : ℕ) → not (eqb x 0) ≡ true → x ≢ 0
is_not_zero x e z = false≢true (sym (ap not (eq-eqb x 0 z)) ∙ e)

module _ (q : ℕ) (m : Meaning) (inv : ℕ → Option ℕ) (laws : Laws q m) (inverts : (x : ℕ) → x < q → Inverse q m x (inv x))
    (N bound : ℕ) (list : List ℕ) (some : 0 < N) (whole : length list ≡ count_of N list * (N * N)) where
  abbrev a : Arithmetic
  a = reading q m inv

  abbrev n : ℕ
  n = taken_count a N bound list

  abbrev taken : List ℕ
  taken = taken_of a N bound list

  abbrev rest : List ℕ
  rest = drop (n * (N * N)) list

  within : n ≤ count_of N list
  within = omega (arith, takes_at_most a N bound list (count_of N list) 0)

  long : length taken ≡ n * (N * N)
  long = omega (arith, length-take (n * (N * N)) list, whole, mul-le-mul_right (N * N) within)

  longer : length rest ≡ (count_of N list - n) * (N * N)
  longer = omega (arith, length-drop (n * (N * N)) list, whole, mul-sub (N * N) (count_of N list) n, mul_comm (N * N) (count_of N list - n), mul_comm (N * N) (count_of N list), mul_comm (N * N) n)

  parts : taken ++ rest ≡ list
  parts = take-append-drop (n * (N * N)) list

  counted : count_of N taken ≡ n
  counted = count_taken N n taken long some

  pub taken_within : count_of N taken ≤ count_of N list
  taken_within = omega (arith, counted, within)

  taken_generated : (h : ℕ → ℕ → ℕ → ℕ) (d : ℕ → ℕ) → Generating a N bound list h d → Generating a N bound taken h d
  taken_generated h d g = front_generated a N bound n (count_of N list - n) taken rest some long longer h d (subst (λ (x : List ℕ). Generating a N bound x h d) (sym parts) g)

  module _ (promise : Promise a N bound taken) where
    least_of_taken : OursAreLeast a N bound list taken
    least_of_taken = record {
      pairs_off = promise.every_generator_pairs_off;
      none_totals_less = λ h d g. go h d g (dec_lt (total N d) (total N (columns_after a N taken).gen_degree));
    }
      where
        go : (h : ℕ → ℕ → ℕ → ℕ) (d : ℕ → ℕ) → Generating a N bound taken h d → Dec (total N d < total N (columns_after a N taken).gen_degree) → total N (columns_after a N taken).gen_degree ≤ total N d
        go h d g (yes lt) = let less = (short_exactly_when_beyond q m inv laws inverts N N (matrices_in N N taken) (count_of N taken) (total N d)).0 lt h d g in absurd (omega arith)
        go h d g (no lt) = omega arith

    least : OursAreLeast a N bound list list
    least = record {
      pairs_off = λ h d g. least_of_taken.pairs_off h d (taken_generated h d g);
      none_totals_less = λ h d g. least_of_taken.none_totals_less h d (taken_generated h d g);
    }

    all_taken : phase_after a N bound taken ≡ Running → taken ≡ list
    all_taken e =
        let count = running_took_all a N bound list (count_of N list) 0 (ap is_running e) in
        take_all (n * (N * N)) list (let same : n ≡ count_of N list = omega (arith, count) in omega (arith, whole, mul-le-mul_right (N * N) (let le : count_of N list ≤ n = omega arith in le)))

    zero_behind : First (λ l. some_below N (λ j. misfits a N taken list j l)) (count_of N taken) (count_of N list - count_of N taken) None
        → (j l r : ℕ) → j < N → count_of N taken ≤ l → l < count_of N list → r < N → generator_discrepancy a N taken list j l r ≡ 0
    zero_behind t j l r jN nl lk rN = is_zero _ (none_tells N _ (none_tells N _ (t l nl (omega arith)) j jN) r rN)

    generates : First (λ l. some_below N (λ j. misfits a N taken list j l)) (count_of N taken) (count_of N list - count_of N taken) None → OursGenerate a N bound list list
    generates t = record {
      ends = promise.columns_generate.ends;
      fits = λ j jN l r dl lk rN. go j l r jN dl lk rN (dec_lt l n);
      inverse = promise.columns_generate.inverse;
      inverse_left = promise.columns_generate.inverse_left;
      inverse_right = promise.columns_generate.inverse_right;
    }
      where
        go : (j l r : ℕ) → j < N → (columns_after a N taken).gen_degree j ≤ l → l < count_of N list → r < N → Dec (l < n) → generator_discrepancy a N taken list j l r ≡ 0
        go j l r jN dl lk rN (yes lt) =
            subst (λ (x : List ℕ). generator_discrepancy a N taken x j l r ≡ 0) parts
            (sym (same_in_front a N bound n (count_of N list - n) taken rest some long longer ((columns_after a N taken).gen j) ((columns_after a N taken).gen_degree j) l r lt rN)
            ∙ promise.columns_generate.fits j jN l r dl (omega (arith, lt, counted)) rN)
        go j l r jN dl lk rN (no lt) = zero_behind t j l r jN (omega (arith, counted)) lk rN

    behind : (more : List ℕ) → taken ++ (rest ++ more) ≡ list ++ more
    behind more = sym (append_assoc taken rest more) ∙ ap (λ (x : List ℕ). x ++ more) parts

    final : phase_after a N bound taken ≡ Settled → (more : List ℕ) → OursGenerate a N bound list (list ++ more) ⊎ BeyondBound a N bound (list ++ more)
    final e more = subst (λ (x : List ℕ). OursGenerate a N bound list x ⊎ BeyondBound a N bound x) (behind more) (promise.settled_is_final e (rest ++ more))

    beyond_at_misfit : phase_after a N bound taken ≡ Settled → (j l r : ℕ) → j < N → r < N → n ≤ l → l < count_of N list → generator_discrepancy a N taken list j l r ≢ 0 → BeyondBound a N bound list
    beyond_at_misfit e j l r jN rN nl lk nz = by (subst (λ (x : List ℕ). OursGenerate a N bound list x ⊎ BeyondBound a N bound x) parts (promise.settled_is_final e rest))
      where
        by : OursGenerate a N bound list list ⊎ BeyondBound a N bound list → BeyondBound a N bound list
        by (inl g) = absurd (nz (g.fits j jN l r (omega (arith, degree_within_count q m inv laws inverts N taken j jN, counted)) lk rN))
        by (inr b) = b

    by_verdict : (p : Phase) → phase_after a N bound taken ≡ p → (o : Option ℕ)
        → First (λ l. some_below N (λ j. misfits a N taken list j l)) (count_of N taken) (count_of N list - count_of N taken) o → Entitles a N bound list (verdict_by p o)
    by_verdict Short e o t = record {
      beyond_of_taken = promise.short_only_beyond_the_bound e;
      beyond = λ h d g. promise.short_only_beyond_the_bound e h d (taken_generated h d g);
    }
    by_verdict Running e o t = record {
      all_taken = all_taken e;
      generates = subst (λ (x : List ℕ). OursGenerate a N bound list x) (all_taken e) promise.columns_generate;
      least = least;
    }
    by_verdict Settled e None t = record { generates = generates t; least = least; least_of_taken = least_of_taken; final = final e }
    by_verdict Settled e (Some l) t =
        let j = some_tells N _ t.2 in
        let r = some_tells N _ j.2 in
        let nz = is_not_zero _ r.2 in
        record {
          generates_taken = promise.columns_generate;
          least_of_taken = least_of_taken;
          behind_taken = t.0;
          in_list = omega (arith, t.0, t.1);
          column = j.0;
          column_is_ours = j.1;
          row = r.0;
          row_of_matrix = r.1;
          not_zero_there = nz;
          zero_before = λ k i s nk kl iN sN. is_zero _ (none_tells N _ (none_tells N _ (t.3 k nk kl) i iN) s sN);
          beyond = beyond_at_misfit e j.0 l r.0 j.1 r.1 (omega (arith, t.0, counted)) (omega (arith, t.0, t.1)) nz;
        }

    pub entitled : Entitles a N bound list (verdict_on a N bound list)
    entitled = by_verdict (phase_after a N bound taken) refl (first_misfit a N taken list) (first_tells _ (count_of N list - count_of N taken) (count_of N taken))
