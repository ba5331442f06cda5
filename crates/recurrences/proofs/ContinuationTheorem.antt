-- Exactly one matrix of codes continues a list by the generator columns of a run, over every field.
use Rattle.std.proofs.Common.{◌≡◌, ℕ, ◌<◌, Option, sym, ap, ◌∙◌, subst, ap₂}
use mathlib.Core.Path.{fun_ext}
use native.Mathlib.Decide.{ℕ_discrete}
use Rattle.rings.specs.Meaning.{Meaning, Laws, Inverse}
use Rattle.recurrences.specs.Theorems.{ListOfMatrices, ContinuationIsUnique}
use Rattle.recurrences.specs.Continuation.{Continues}
use Rattle.recurrences.specs.Operations.{numbers, Operations}
use Rattle.recurrences.specs.Run.{run}
use Rattle.recurrences.specs.Discrepancy.{discrepancy, Column, Matrices}
use Rattle.recurrences.specs.Choice.{put}
use Rattle.recurrences.specs.Columns.{Columns}
use Rattle.recurrences.specs.Generators.{Generates}
use Rattle.recurrences.proofs.OnNumbers.{field, as_codes, run_is, entries_read}
use Rattle.recurrences.proofs.CodesField.{Code, value, reading, itself, same_code}
use Rattle.recurrences.proofs.Continuations.{next, next_continues, only_next}
use Rattle.recurrences.proofs.Consequences.{columns_generate}
use Rattle.recurrences.proofs.Generating.{generator_generates}
use Rattle.recurrences.proofs.Homomorphisms.{discrepancy_map}
use Rattle.recurrences.proofs.Choosing.{pick_map}
use Rattle.recurrences.proofs.FieldLaws.{field_of, ring_of, Field}

module _ (q : ℕ) (m : Meaning) (inv : ℕ → Option ℕ) (L : Laws q m) (V : (a : ℕ) → a < q → Inverse q m a (inv a)) (R C : ℕ) where
  abbrev O : Operations
  O = numbers q m

  abbrev F : Field
  F = field q m inv L V R C

  abbrev read : ℕ → Code q m inv L V
  read = (reading q m inv L V).φ

  abbrev list_codes : ListOfMatrices → Matrices (ring_of F)
  list_codes = as_codes q m inv L V R C

  read_value : (x : Code q m inv L V) → read x.0 ≡ x
  read_value x = same_code q m inv L V (read x.0) x (itself q m inv L V x.0 x.1)

  put_read : (M : ListOfMatrices) (l : ℕ) (X : ℕ → ℕ → ℕ) → list_codes (put l X M) ≡ put l (λ r c. read (X r c)) (list_codes M)
  unfolding put
  put_read M l X = fun_ext (λ k. pick_map (λ (Z : ℕ → ℕ → ℕ). (λ r c. read (Z r c))) (ℕ_discrete k l) X (M k))

  module _ (M : ListOfMatrices) (l : ℕ) (g : ℕ → Column (ring_of F)) (d : ℕ → ℕ) (X : ℕ → ℕ → ℕ) where
    continues_numbers : Continues (ring_of F) R C (list_codes M) l g d (λ r c. read (X r c)) → Continues O R C M l (λ j k c. (g j k c).0) d X
    continues_numbers h j r jC rR =
        sym (ap (λ (e : ℕ → ℕ → Column O → ℕ). e r (d j) (λ k c. (g j k c).0)) (entries_read q m inv L V R C (put l X M) l))
        ∙ sym (discrepancy_map (ring_of F) O (value q m inv L V).map C (list_codes (put l X M)) (g j) (d j) l r)
        ∙ ap (λ (N : Matrices (ring_of F)). (discrepancy (ring_of F) C N (g j) (d j) l r).0) (put_read M l X)
        ∙ ap (λ x. x.0) (h j r jC rR)

    continues_codes : Continues O R C M l (λ j k c. (g j k c).0) d X → Continues (ring_of F) R C (list_codes M) l g d (λ r c. read (X r c))
    continues_codes h j r jC rR =
        ap₂ (λ (N : Matrices (ring_of F)) (f : Column (ring_of F)). discrepancy (ring_of F) C N f (d j) l r) (sym (put_read M l X)) (fun_ext (λ k. fun_ext (λ c. sym (read_value (g j k c)))))
        ∙ sym (discrepancy_map O (ring_of F) (reading q m inv L V) C (put l X M) (λ k c. (g j k c).0) (d j) l r)
        ∙ ap read (h j r jC rR) ∙ (reading q m inv L V).on_zero

pub continuation_is_unique : ContinuationIsUnique
continuation_is_unique q m inv L V R C M n list l =
    subst
    (λ (s : Columns (numbers q m)). (X : ℕ → ℕ → ℕ) × ((r c : ℕ) → X r c < q) × Continues (numbers q m) R C list l s.gen s.gen_degree X
    × ((Y : ℕ → ℕ → ℕ) → ((r c : ℕ) → r < R → c < C → Y r c < q) → Continues (numbers q m) R C list l s.gen s.gen_degree Y → (r c : ℕ) → r < R → c < C → Y r c ≡ X r c))
    (run_is q m inv L V R C M n) (
      (λ r c. (X r c).0),
      (λ r c. (X r c).1),
      continues_numbers q m inv L V R C list l s.gen s.gen_degree (λ r c. (X r c).0)
          (subst (Continues (ring_of A) R C (as_codes q m inv L V R C list) l s.gen s.gen_degree) (fun_ext (λ r. fun_ext (λ c. sym (read_value q m inv L V R C (X r c)))))
          (next_continues A R C N n s.gen s.gen_degree G (as_codes q m inv L V R C list) l)),
      λ Y coded y r c rR cC.
          sym (itself q m inv L V (Y r c) (coded r c rR cC))
          ∙ ap (λ x. x.0) (only_next A R C N n s.gen s.gen_degree G (as_codes q m inv L V R C list) l (λ r c. (reading q m inv L V).φ (Y r c)) (continues_codes q m inv L V R C list l s.gen s.gen_degree Y y) r c rR cC),
    )
  where
    A : Field
    A = field q m inv L V R C

    N : Matrices (ring_of A)
    N = as_codes q m inv L V R C M

    s : Columns (ring_of A)
    s = run (field_of A) R C N n

    G : Generates (ring_of A) R C N n s.gen s.gen_degree
    G = generator_generates A R C N n s.gen s.gen_degree (columns_generate A R C N n)

    X : ℕ → ℕ → Code q m inv L V
    X = next A R C N n s.gen s.gen_degree G (as_codes q m inv L V R C list) l
