-- The first matrices of a list: what generates the list generates them.
use Rattle.std.proofs.Common.{◌≡◌, ℕ, ◌*◌, ◌<◌, List, ◌++◌, length, sym, ap, ◌∙◌, arith}
use Rattle.rings.specs.Arithmetic.{Arithmetic}
use Rattle.recurrences.specs.Discrepancy.{discrepancy}
use Rattle.recurrences.specs.Reading.{matrices_in}
use Rattle.recurrences.proofs.Dependence.{discrepancy_cong}
use Rattle.runs.specs.Operations.{operations_of}
use Rattle.runs.specs.Promise.{Generating}
use Rattle.runs.proofs.Appended.{in_front, count_taken, count_appended}

-- n matrices in front of k others
module _ (a : Arithmetic) (N bound n k : ℕ) (front rest : List ℕ) (some : 0 < N) (long : length front ≡ n * (N * N)) (longer : length rest ≡ k * (N * N)) where
  -- the discrepancies at their places are those in the whole list
  pub same_in_front : (f : ℕ → ℕ → ℕ) (d l r : ℕ) → l < n → r < N
      → discrepancy (operations_of a).ring N (matrices_in N N front) f d l r ≡ discrepancy (operations_of a).ring N (matrices_in N N (front ++ rest)) f d l r
  same_in_front f d l r ln rN =
      discrepancy_cong (operations_of a).ring N (matrices_in N N front) (matrices_in N N (front ++ rest)) f f d l r
      (λ m i c ml id cN. ap (λ (x : ℕ). a.product x (f i c)) (sym (in_front N n front long rest m r c (omega arith) rN cN)))

  pub front_generated : (h : ℕ → ℕ → ℕ → ℕ) (d : ℕ → ℕ) → Generating a N bound (front ++ rest) h d → Generating a N bound front h d
  front_generated h d g = record {
    ends = g.ends;
    fits = λ j jN l r dl ln rN.
        let lt : l < n = omega (arith, ln, count_taken N n front long some) in
        same_in_front (h j) (d j) l r lt rN ∙ g.fits j jN l r dl (omega (arith, lt, count_appended N n front long rest k some longer)) rN;
    inverse = g.inverse;
    inverse_left = g.inverse_left;
    inverse_right = g.inverse_right;
  }
