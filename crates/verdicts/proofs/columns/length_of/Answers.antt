use Rattle.std.proofs.Common.{◌≡◌, ℕ, ◌+◌, ◌*◌, ◌<◌, ◌≤◌, ◌≢◌, List, get_or, ap, ◌∙◌, ap₂, mul-le-mul, arith}
use Rattle.rings.specs.Arithmetic.{Arithmetic, reading}
use Rattle.recurrences.specs.declared.phase.Phase.TheVariants.{Short}
use Rattle.runs.specs.Recorded.{recorded}
use Rattle.runs.specs.Standings.{columns_after, phase_after, standing_after}
use Rattle.runs.specs.declared.standing.Standing.{Standing}
use Rattle.verdicts.proofs.GeneratorColumns.{column_given, degree_within_bound, shown_degree}
use Rattle.verdicts.proofs.columns.length_of.Goals as goal

-- what the standing of a run that is not short says of a generator degree
record Shown (a : Arithmetic) (N : ℕ) (taken : List ℕ) (degree j : ℕ) : Type 0 where
  is : degree ≡ (columns_after a N taken).gen_degree j
  low : degree ≤ 64

shown : (a : Arithmetic) (N bound : ℕ) (taken : List ℕ) (s : Standing) (j : ℕ) → s ≡ standing_after a N bound taken → s.phase ≢ Short → bound ≤ 64 → N ≤ 4 → j < N
    → Shown a N taken (get_or s.generator_degrees j 0) j
shown a N bound taken s j stands told bounded small jN =
    let d = (columns_after a N taken).gen_degree in
    let is : get_or s.generator_degrees j 0 ≡ d j = ap (λ (r : Standing). get_or r.generator_degrees j 0) stands ∙ shown_degree N d j small jN in
    let given : phase_after a N bound taken ≢ Short = λ z. told (ap (λ (r : Standing). r.phase) stands ∙ z) in
    record { is = is; low = omega (arith, is, degree_within_bound a N bound taken given j jN) }

pub overflow_add-result : goal.overflow_add-result
overflow_add-result g c =
    let r = c.args.run.now in
    let N = r.state.size in
    let a = reading g.F.Ring.size (g.F.Ring.means r.field) (g.F.Field.inverse r.field) in
    let s = c.args.standing.now in
    let j = c.args.j in
    let at = shown a N r.bound (recorded r.state) s j c.requires.stands c.requires.told r.bounded r.sound.small c.requires.column in
    omega (arith, at.low)

pub overflow_mul-result : goal.overflow_mul-result
overflow_mul-result g c =
    let r = c.args.run.now in
    let N = r.state.size in
    let a = reading g.F.Ring.size (g.F.Ring.means r.field) (g.F.Field.inverse r.field) in
    let s = c.args.standing.now in
    let j = c.args.j in
    let at = shown a N r.bound (recorded r.state) s j c.requires.stands c.requires.told r.bounded r.sound.small c.requires.column in
    let d : get_or s.generator_degrees j 0 + 1 ≤ 65 = omega (arith, at.low) in
    omega (arith, mul-le-mul (let small : c.args.size ≤ 4 = omega (arith, c.requires.size, c.args.run.now.sound.small) in small) d)

pub returns-clause-within : goal.returns-clause-within
returns-clause-within g c =
    let r = c.args.run.now in
    let N = r.state.size in
    let a = reading g.F.Ring.size (g.F.Ring.means r.field) (g.F.Field.inverse r.field) in
    let s = c.args.standing.now in
    let j = c.args.j in
    let at = shown a N r.bound (recorded r.state) s j c.requires.stands c.requires.told r.bounded r.sound.small c.requires.column in
    let d : get_or s.generator_degrees j 0 + 1 ≤ 65 = omega (arith, at.low) in
    mul-le-mul (let small : c.args.size ≤ 4 = omega (arith, c.requires.size, c.args.run.now.sound.small) in small) d

pub returns-clause-given : goal.returns-clause-given
returns-clause-given g c =
    let r = c.args.run.now in
    let N = r.state.size in
    let a = reading g.F.Ring.size (g.F.Ring.means r.field) (g.F.Field.inverse r.field) in
    let s = c.args.standing.now in
    let j = c.args.j in
    let at = shown a N r.bound (recorded r.state) s j c.requires.stands c.requires.told r.bounded r.sound.small c.requires.column in
    let given : phase_after a N r.bound (recorded r.state) ≢ Short = λ z. c.requires.told (ap (λ (x : Standing). x.phase) c.requires.stands ∙ z) in
    column_given N _ j _ _ given c.requires.column (ap₂ (λ (x y : ℕ). x * (y + 1)) c.requires.size at.is)
