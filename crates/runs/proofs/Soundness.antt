-- One matrix more keeps the tables sound.
use Rattle.std.proofs.Common.{◌≡◌, ℕ, ◌≢◌, List, set, sym, ap, subst, arith, get_or-set_other}
use mathlib.Core.Path.{fun_ext}
use Rattle.rings.specs.Arithmetic.{Arithmetic}
use Rattle.recurrences.specs.Run.{run}
use Rattle.recurrences.proofs.Dependence.{run_same}
use Rattle.runs.specs.Operations.{operations_of}
use Rattle.runs.specs.Views.{no_matrix, matrix_of, matrices_of}
use Rattle.runs.specs.Midsteps.{Holds}
use Rattle.runs.specs.Sound.{Sound}
use Rattle.runs.specs.declared.tables.Matrix.{Matrix}
use Rattle.runs.specs.declared.tables.State.{State}

-- the other matrices are as they were
set_away : (N : ℕ) (ms : List Matrix) (n : ℕ) (x : Matrix) (l r c : ℕ) → l ≢ n → matrices_of N (set ms n x) l r c ≡ matrices_of N ms l r c
set_away N ms n x l r c ne = ap (λ (y : Matrix). matrix_of N y r c) (get_or-set_other ms n l x no_matrix ne)

-- a matrix behind those taken changes nothing of the run so far
pub sound_holds : (a : Arithmetic) (s : State) (x : Matrix) → Sound a s
    → Holds a s.size s.columns (run (operations_of a) s.size s.size (matrices_of s.size (set s.matrices s.count x)) s.count)
sound_holds a s x S = subst (Holds a s.size s.columns)
    (run_same (operations_of a) s.size s.size (matrices_of s.size s.matrices) (matrices_of s.size (set s.matrices s.count x)) s.count
    (λ l r c ln rN cN. let ne : l ≢ s.count = omega arith in sym (set_away s.size s.matrices s.count x l r c ne)))
    record {
      gens = λ j jN. fun_ext (λ k. fun_ext (λ e. S.gens (j, jN) k e));
      gen_degrees = S.gen_degrees;
      auxs = λ j jN. fun_ext (λ k. fun_ext (λ e. S.auxs (j, jN) k e));
      aux_degrees = S.aux_degrees;
    }
