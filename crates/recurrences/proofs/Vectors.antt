-- Vector spaces over a field: its elements, vectors of them, and columns.
use Rattle.std.proofs.Common.{◌≡◌, ℕ, ◌∙◌}
use mathlib.Core.Path.{fun_ext}
use Rattle.recurrences.proofs.FieldLaws.{Field, zero_mul, add_mul}

-- vectors over a field
pub record Space (F : Field) : Type 1 where
  pub V : Type 0
  pub vzero : V
  pub vadd : V → V → V
  pub smul : F.K → V → V
  pub vadd_comm : (a b : V) → vadd a b ≡ vadd b a
  pub vadd_assoc : (a b c : V) → vadd (vadd a b) c ≡ vadd a (vadd b c)
  pub vadd_zero : (a : V) → vadd a vzero ≡ a
  pub smul_add : (k : F.K) (a b : V) → smul k (vadd a b) ≡ vadd (smul k a) (smul k b)
  pub add_smul : (k l : F.K) (a : V) → smul (F.add k l) a ≡ vadd (smul k a) (smul l a)
  pub mul_smul : (k l : F.K) (a : V) → smul (F.mul k l) a ≡ smul k (smul l a)
  pub one_smul : (a : V) → smul F.𝟙 a ≡ a
  pub zero_smul : (a : V) → smul F.𝟘 a ≡ vzero

-- the field over itself
abbrev pub ScalarSpace : (F : Field) → Space F
ScalarSpace F = record {
  V = F.K;
  vzero = F.𝟘;
  vadd = F.add;
  smul = F.mul;
  vadd_comm = F.add_comm;
  vadd_assoc = F.add_assoc;
  vadd_zero = F.add_zero;
  smul_add = F.mul_add;
  add_smul = add_mul F;
  mul_smul = F.mul_assoc;
  one_smul = λ a. F.mul_comm F.𝟙 a ∙ F.mul_one a;
  zero_smul = zero_mul F;
}

-- functions into vectors
abbrev pub FunctionSpace : (F : Field) → Space F → Space F
FunctionSpace F M = record {
  V = ℕ → M.V;
  vzero = λ _. M.vzero;
  vadd = λ f g i. M.vadd (f i) (g i);
  smul = λ k f i. M.smul k (f i);
  vadd_comm = λ a b. fun_ext (λ i. M.vadd_comm (a i) (b i));
  vadd_assoc = λ a b c. fun_ext (λ i. M.vadd_assoc (a i) (b i) (c i));
  vadd_zero = λ a. fun_ext (λ i. M.vadd_zero (a i));
  smul_add = λ k a b. fun_ext (λ i. M.smul_add k (a i) (b i));
  add_smul = λ k l a. fun_ext (λ i. M.add_smul k l (a i));
  mul_smul = λ k l a. fun_ext (λ i. M.mul_smul k l (a i));
  one_smul = λ a. fun_ext (λ i. M.one_smul (a i));
  zero_smul = λ a. fun_ext (λ i. M.zero_smul (a i));
}

abbrev pub VectorSpace : (F : Field) → Space F
VectorSpace F = FunctionSpace F (ScalarSpace F)

abbrev pub ColumnSpace : (F : Field) → Space F
ColumnSpace F = FunctionSpace F (VectorSpace F)
