-- One step: what taking a matrix does to the columns.
use Rattle.std.specs.Prelude.{ℕ, zero, suc, false, Some, None, Option, nat_lt}
use Rattle.recurrences.specs.Operations.{Operations}
use Rattle.recurrences.specs.Fields.{FieldOperations, quotient}
use Rattle.recurrences.specs.Discrepancy.{Column}
use Rattle.recurrences.specs.Columns.{Columns, lessen, shift}
use Rattle.recurrences.specs.Choice.{pick, put}
use Rattle.recurrences.specs.Pivot.{Midstep, gen_entry, aux_entry, candidate, pivot}

module _ (O : Operations) where
  -- at first each of the C generator columns is open
  abbrev pub at_first : ℕ → Columns O → Midstep O
  at_first C s = record { columns = s; opened = λ j. nat_lt j C }

  -- after the rows each auxiliary column is shifted, and its degree grows by 1
  unfoldable pub shifted : Columns O → Columns O
  shifted s = record { gen = s.gen; gen_degree = s.gen_degree; aux = λ k. shift O (s.aux k); aux_degree = λ k. suc (s.aux_degree k) }

-- `entry i d f` is entry i of the discrepancy of the column f of degree d at the place of the matrix taken
module _ (O : FieldOperations) (C : ℕ) (entry : ℕ → ℕ → Column O.ring → O.ring.K) where
  -- generator column j reduced in row i by the pivot column p with the entry y: a candidate loses so much of p that its entry becomes zero
  unfoldable pub reduced : ℕ → Column O.ring → O.ring.K → Midstep O.ring → ℕ → Column O.ring
  reduced i p y t j =
      pick (candidate O.ring C entry t i j)
      (lessen O.ring (quotient O (gen_entry O.ring C entry t i j) y) p (t.columns.gen j))
      (t.columns.gen j)

  -- the auxiliary column i is the pivot: the candidates are reduced by it
  unfoldable pub by_auxiliary : ℕ → Midstep O.ring → Midstep O.ring
  by_auxiliary i t = record {
    columns = record {
      gen = reduced i (t.columns.aux i) (aux_entry O.ring C entry t i) t;
      gen_degree = t.columns.gen_degree;
      aux = t.columns.aux;
      aux_degree = t.columns.aux_degree;
    };
    opened = t.opened;
  }

  -- the open column l is the pivot: the other candidates are reduced by it, it becomes auxiliary column i with its degree,
  -- and the column x takes its place, with the degree of the former auxiliary column
  unfoldable pub moved : ℕ → ℕ → Column O.ring → Midstep O.ring → Columns O.ring
  moved i l x t = record {
    gen = put l x (reduced i (t.columns.gen l) (gen_entry O.ring C entry t i l) t);
    gen_degree = put l (t.columns.aux_degree i) t.columns.gen_degree;
    aux = put i (t.columns.gen l) t.columns.aux;
    aux_degree = put i (t.columns.gen_degree l) t.columns.aux_degree;
  }

  -- where the auxiliary entry is not zero: x is the pivot column reduced by the auxiliary column
  unfoldable pub traded : ℕ → ℕ → Midstep O.ring → Midstep O.ring
  traded i l t = record {
    columns = moved i l (lessen O.ring (quotient O (gen_entry O.ring C entry t i l) (aux_entry O.ring C entry t i)) (t.columns.aux i) (t.columns.gen l)) t;
    opened = t.opened;
  }

  -- where it is zero: x is the pivot column itself, and l is closed
  unfoldable pub copied : ℕ → ℕ → Midstep O.ring → Midstep O.ring
  copied i l t = record { columns = moved i l (t.columns.gen l) t; opened = put l false t.opened }

  unfoldable pub by_open : ℕ → ℕ → Midstep O.ring → Midstep O.ring
  by_open i l t = pick (O.ring.dec (aux_entry O.ring C entry t i) O.ring.𝟘) (copied i l t) (traded i l t)

  unfoldable pub row_by : ℕ → Midstep O.ring → Option ℕ → Midstep O.ring
  row_by i t None = by_auxiliary i t
  row_by i t (Some l) = by_open i l t

  unfoldable pub row : ℕ → Midstep O.ring → Midstep O.ring
  row i t = row_by i t (pivot O.ring C entry i t)

  -- the rows 0 to i - 1, one after the other
  unfoldable pub rows : ℕ → Midstep O.ring → Midstep O.ring
  rows zero t = t
  rows (suc i) t = row i (rows i t)

  -- the step for a matrix of R rows
  unfoldable pub step : ℕ → Columns O.ring → Columns O.ring
  step R s = shifted O.ring (rows R (at_first O.ring C s)).columns
