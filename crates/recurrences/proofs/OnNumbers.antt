-- From the codes of a field to numbers: the run on numbers is the run on codes, and the generators are the same.
use Rattle.std.proofs.Common.{◌≡◌, ℕ, ◌<◌, Option, sym, ap, ◌∙◌}
use mathlib.Core.Path.{fun_ext}
use Rattle.rings.specs.Meaning.{Meaning, Laws, Inverse, code}
use Rattle.recurrences.specs.Theorems.{run_of, ListOfMatrices, OneColumn}
use Rattle.recurrences.specs.Operations.{Operations, numbers}
use Rattle.recurrences.specs.Run.{entry_at, run}
use Rattle.recurrences.specs.Discrepancy.{discrepancy, Matrices, Column}
use Rattle.recurrences.specs.Columns.{Columns}
use Rattle.recurrences.specs.Generators.{Generates}
use Rattle.recurrences.specs.Fields.{field_numbers}
use Rattle.recurrences.proofs.CodesField.{codes, value, reading, itself, code_below}
use Rattle.recurrences.proofs.Dependence.{discrepancy_cong, run_by_entries}
use Rattle.recurrences.proofs.PairingOff.{FieldGenerator}
use Rattle.recurrences.proofs.Generating.{generates_generator, generator_generates}
use Rattle.recurrences.proofs.Homomorphisms.{columns_map, generates_map, matrices_map, run_map}
use Rattle.recurrences.proofs.FieldLaws.{ring_of, Field, field_of}

module _ (q : ℕ) (m : Meaning) (inv : ℕ → Option ℕ) (L : Laws q m) (V : (a : ℕ) → a < q → Inverse q m a (inv a)) (R C : ℕ) where
  abbrev O : Operations
  O = numbers q m

  abbrev pub field : Field
  field = codes q m inv L V

  -- the matrices read as codes
  abbrev pub as_codes : ListOfMatrices → Matrices (ring_of field)
  as_codes M = matrices_map O (ring_of field) (reading q m inv L V) M

  abbrev pub as_numbers : Columns (ring_of field) → Columns O
  as_numbers s = columns_map (ring_of field) O (value q m inv L V).map s

  -- the operations read the matrices anyway
  discrepancy_read : (M : ListOfMatrices) (f : OneColumn) (d l r : ℕ) → discrepancy O C (λ l r c. code q (M l r c)) f d l r ≡ discrepancy O C M f d l r
  discrepancy_read M f d l r =
      discrepancy_cong O C (λ l r c. code q (M l r c)) M f f d l r
      (λ a k c al kd cC. ap (λ (x : ℕ). m.product x (code q (f k c))) (itself q m inv L V (code q (M a r c)) (code_below q m inv L V (M a r c))))

  pub entries_read : (M : ListOfMatrices) (l : ℕ) → entry_at O C (λ l r c. code q (M l r c)) l ≡ entry_at O C M l
  entries_read M l = fun_ext (λ i. fun_ext (λ d. fun_ext (λ f. discrepancy_read M f d l i)))

  pub run_is : (M : ListOfMatrices) (n : ℕ) → as_numbers (run (field_of field) R C (as_codes M) n) ≡ run_of q m inv R C M n
  run_is M n =
      run_map (field_of field) (field_numbers q m inv) (value q m inv L V) R C (as_codes M) n
      ∙ run_by_entries (field_numbers q m inv) R C (λ l r c. code q (M l r c)) M n (λ l ln i iR. ap (λ (e : ℕ → ℕ → Column O → ℕ). e i) (entries_read M l))

  pub to_codes : (M : ListOfMatrices) (n : ℕ) (h : ℕ → OneColumn) (d : ℕ → ℕ) → Generates O R C M n h d → (g : ℕ → Column (ring_of field)) × FieldGenerator field R C (as_codes M) n g d
  to_codes M n h d g =
      generates_generator field R C (as_codes M) n _ d (generates_map O (ring_of field) (reading q m inv L V) R C M n h d g)

  pub to_numbers : (M : ListOfMatrices) (n : ℕ) (h : ℕ → Column (ring_of field)) (d : ℕ → ℕ) → FieldGenerator field R C (as_codes M) n h d
      → Generates O R C M n (λ j k c. (h j k c).0) d
  to_numbers M n h d g =
      let G = generates_map (ring_of field) O (value q m inv L V).map R C (as_codes M) n h d (generator_generates field R C (as_codes M) n h d g) in
      record {
        ends = G.ends;
        fits = λ j jC l r dl ln rR. sym (discrepancy_read M (λ k c. (h j k c).0) (d j) l r) ∙ G.fits j jC l r dl ln rR;
        inverse = G.inverse;
        inverse_left = G.inverse_left;
        inverse_right = G.inverse_right;
      }
