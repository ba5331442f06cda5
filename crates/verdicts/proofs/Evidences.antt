-- What the standing of a settled run tells of a generator column and of a list whose first matrices it took.
use Rattle.std.proofs.Common.{◌≡◌, ℕ, ◌-◌, ◌*◌, ◌%◌, ◌<◌, ◌≤◌, ◌≢◌, true, false, List, length, get_or, Option, sym, ap, ◌∙◌, subst, true≢false, mul-le-mul_right, arith}
use Rattle.rings.specs.Meaning.{Meaning, Laws, Inverse}
use Rattle.rings.specs.Arithmetic.{reading}
use Rattle.recurrences.specs.declared.phase.Phase.{Phase}
use Rattle.recurrences.specs.declared.phase.Phase.TheVariants.{Short, Running, Settled}
use Rattle.runs.specs.Standings.{columns_after, count_of, phase_after, standing_after}
use Rattle.runs.specs.declared.standing.Standing.{Standing}
use Rattle.runs.specs.Promise.{Promise}
use Rattle.verdicts.specs.Entitlements.{Entitles}
use Rattle.verdicts.specs.Taking.{taken_of}
use Rattle.verdicts.specs.Verdicts.{verdict_on}
use Rattle.verdicts.proofs.AcceptedLists.{whole_matrices}
use Rattle.verdicts.proofs.Entitled.{entitled, taken_within}
use Rattle.verdicts.proofs.GeneratorColumns.{degree_within_bound, degree_within_count, shown_degree}

settled_not_short : (p : Phase) → p ≡ Settled → p ≢ Short
settled_not_short p e z = true≢false (ap (λ (x : Phase). elim x [ Short ↦ true | Running ↦ false | Settled ↦ false ]) (sym z ∙ e))

module _ (q : ℕ) (m : Meaning) (inv : ℕ → Option ℕ) (laws : Laws q m) (inverts : (x : ℕ) → x < q → Inverse q m x (inv x)) (N bound : ℕ) (taken list : List ℕ) where
  -- the verdict entitles to what it says, by what the run promises
  pub entitled_by : 1 ≤ N → length list % (N * N) ≡ 0 → taken ≡ taken_of (reading q m inv) N bound list → Promise (reading q m inv) N bound taken
      → Entitles (reading q m inv) N bound list (verdict_on (reading q m inv) N bound list)
  entitled_by some whole took promise = entitled q m inv laws inverts N bound list some (whole_matrices N list whole) (subst (Promise (reading q m inv) N bound) took promise)

  -- so many matrices are taken, and column j has such a degree
  pub record Seen (j count degree : ℕ) : Type 0 where
    pub counted : count ≡ count_of N taken
    pub is : degree ≡ (columns_after (reading q m inv) N taken).gen_degree j
    pub low : degree ≤ 64
    pub below : degree ≤ count
    pub longer : count ≤ count_of N list
    pub room : (count - degree) * (N * N) ≤ length list

  pub seen : (j : ℕ) → 1 ≤ N → N ≤ 4 → bound ≤ 64 → length list % (N * N) ≡ 0 → taken ≡ taken_of (reading q m inv) N bound list → phase_after (reading q m inv) N bound taken ≡ Settled → j < N
      → (s : Standing) → s ≡ standing_after (reading q m inv) N bound taken → Seen j s.taken (get_or s.generator_degrees j 0)
  seen j some small bounded whole took settled jN s stands =
      let a = reading q m inv in
      let d = (columns_after a N taken).gen_degree in
      let counted : s.taken ≡ count_of N taken = ap (λ (r : Standing). r.taken) stands in
      let is : get_or s.generator_degrees j 0 ≡ d j = ap (λ (r : Standing). get_or r.generator_degrees j 0) stands ∙ shown_degree N d j small jN in
      let within = degree_within_bound a N bound taken (settled_not_short _ settled) j jN in
      let below = degree_within_count q m inv laws inverts N taken j jN in
      let whole_list = whole_matrices N list whole in
      let longer : count_of N taken ≤ count_of N list = subst (λ (t : List ℕ). count_of N t ≤ count_of N list) (sym took) (taken_within q m inv laws inverts N bound list some whole_list) in
      let some_room : s.taken - get_or s.generator_degrees j 0 ≤ count_of N list = omega (arith, counted, longer) in
      record {
        counted = counted;
        is = is;
        low = omega (arith, is, within, bounded);
        below = omega (arith, is, counted, below);
        longer = omega (arith, counted, longer);
        room = omega (arith, whole_list, mul-le-mul_right (N * N) some_room);
      }
