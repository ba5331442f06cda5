-- The matrices in a place behind those taken: each entry stands in the tables or in the place.
use Rattle.std.proofs.Common.{◌≡◌, ℕ, ◌+◌, ◌-◌, ◌*◌, ◌<◌, ◌≤◌, ltb, List, length, get_or, sym, ap, ◌∙◌, arith}
use Rattle.std.proofs.lemmas.Bool.{cond-true, lt-ltb}
use Rattle.recurrences.proofs.Listing.{length_listed}
use Rattle.runs.specs.NextMatrix.{matrices_with}
use Rattle.runs.specs.Recorded.{recorded}
use Rattle.runs.specs.Views.{no_vector, no_matrix, matrices_of}
use Rattle.runs.specs.declared.tables.State.{State}
use Rattle.runs.proofs.Appended.{in_front, at_back}
use Rattle.runs.proofs.Recording.{entries_of_codes}

module _ (s : State) where
  pub length_recorded : length (recorded s) ≡ s.count * (s.size * s.size)
  length_recorded = length_listed (s.count * (s.size * s.size)) _

  module _ (p : List ℕ) (l r c : ℕ) (rN : r < s.size) (cN : c < s.size) where
    pub taken_entry : l < s.count → get_or (get_or (get_or s.matrices l no_matrix).rows r no_vector).entries c 0 ≡ matrices_with s p l r c
    taken_entry h =
        sym (in_front s.size s.count (recorded s) length_recorded p l r c h rN cN
        ∙ entries_of_codes s.size s.count (matrices_of s.size s.matrices) l r c h rN cN ∙ cond-true (ltb c s.size) _ 0 (lt-ltb c s.size cN))

    pub written_entry : s.count ≤ l → get_or p (((l - s.count) * s.size + r) * s.size + c) 0 ≡ matrices_with s p l r c
    written_entry h =
        let at : s.count + (l - s.count) ≡ l = omega arith in
        sym (ap (λ (x : ℕ). matrices_with s p x r c) (sym at) ∙ at_back s.size s.count (recorded s) length_recorded p (l - s.count) r c
        ∙ cond-true (ltb r s.size) _ 0 (lt-ltb r s.size rN) ∙ cond-true (ltb c s.size) _ 0 (lt-ltb c s.size cN))
