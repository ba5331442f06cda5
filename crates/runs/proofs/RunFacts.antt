-- What holds of every run, by its type.
use Rattle.std.proofs.Common.{◌≡◌, ℕ, ◌+◌, ◌<◌, ◌≤◌, true, sym, refl, ap, ◌∙◌, arith, below_more}
use mathlib.Core.Bool.{false≢true}
use Rattle.rings.specs.Meaning.{Laws, Inverse}
use Rattle.rings.specs.Arithmetic.{Arithmetic, reading}
use Rattle.rings.specs.declared.field.Field.{Ghosts as FieldGhosts}
use Rattle.rings.specs.declared.ring.Ring.{Ghosts as RingGhosts}
use Rattle.recurrences.specs.declared.phase.Phase.{Phase}
use Rattle.recurrences.specs.declared.phase.Phase.TheVariants.{Short, Running, Settled}
use Rattle.recurrences.specs.Phases.{phase_at}
use Rattle.recurrences.specs.Run.{run}
use Rattle.recurrences.proofs.MidstepTheorems.{generator_degrees_are_at_most_count}
use Rattle.recurrences.proofs.RunTheorems.{counts_are_bounded}
use Rattle.runs.specs.declared.run.Run.{Run}
use Rattle.runs.specs.declared.tables.State.{State}
use Rattle.runs.specs.Operations.{operations_of}
use Rattle.runs.specs.Promise.{Promise}
use Rattle.runs.specs.Ran.{is_running}
use Rattle.runs.specs.Recorded.{recorded}
use Rattle.runs.specs.Standings.{phase_after}
use Rattle.runs.specs.Views.{degree_at, matrices_of}
use Rattle.runs.proofs.Promised.{promised}
use Rattle.runs.proofs.Recalled.{count_recorded, run_recorded, phase_recorded}

running_is : (p : Phase) → is_running p ≡ true → p ≡ Running
running_is Short e = absurd (false≢true e)
running_is Running e = refl
running_is Settled e = absurd (false≢true e)

module _ {X : Type 0} (F : FieldGhosts X) (R : RingGhosts X) (lawful : (f : X) → Laws R.size (R.means f)) (inverts : (f : X) (x : ℕ) → x < R.size → Inverse R.size (R.means f) x (F.inverse f x)) (r : Run X F R) where
  abbrev a : Arithmetic
  a = reading R.size (R.means r.field) (F.inverse r.field)

  abbrev s : State
  s = r.state

  pub keeps_promise : Promise a s.size r.bound (recorded s)
  keeps_promise =
      promised R.size (R.means r.field) (F.inverse r.field) (lawful r.field) (inverts r.field) s.size r.bound r.sound.some (recorded s)
      (λ i h.
      let below : i < s.count = omega (arith, count_recorded a s r.sound.some) in
      ap (phase_at (operations_of a).ring s.size s.size r.bound) (run_recorded a s r.sound.some i (omega arith)) ∙ running_is _ (r.ran i below))

  pub low_degree : (j : ℕ) → j < s.size → degree_at s.columns.gens j ≤ 128
  low_degree j jN =
      omega (arith, r.sound.gen_degrees j jN, r.sound.few, generator_degrees_are_at_most_count R.size (R.means r.field) (F.inverse r.field) (lawful r.field) (inverts r.field) s.size s.size (matrices_of s.size s.matrices) s.count j jN)

  -- a run that is running has room for one more matrix
  pub room_left : phase_after a s.size r.bound (recorded s) ≡ Running → s.count < 128
  room_left now =
      omega (arith, r.bounded, (counts_are_bounded R.size (R.means r.field) (F.inverse r.field) (lawful r.field) (inverts r.field) s.size s.size (matrices_of s.size s.matrices) (s.count + 1) r.bound r.sound.some all).0)
    where
      all : (i : ℕ) → i < s.count + 1 → phase_at (operations_of a).ring s.size s.size r.bound (run (operations_of a) s.size s.size (matrices_of s.size s.matrices) i) ≡ Running
      all = below_more _ s.count (λ i h. running_is _ (r.ran i h)) (sym (phase_recorded a s r.sound.some r.bound) ∙ now)
