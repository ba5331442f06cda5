-- Recordings worked by hand, and what the definitions give for them.
use Rattle.std.specs.Prelude.{◌≡◌, ◌^◌, [], ◌∷◌, Some, None, Ok}
use Rattle.rings.specs.Binary.{binary, binary_inverse}
use Rattle.rings.specs.Bytes.{bytes}
use Rattle.rings.specs.Mod101.{mod101_inverse}
use Rattle.rings.specs.Modular.{modular}
use Rattle.rings.specs.PowersOfThree.{byte_inverse}
use Rattle.recurrences.specs.declared.phase.Phase.TheVariants.{Short, Settled}
use Rattle.recurrences.specs.Fits.{fits_answer}
use Rattle.recurrences.specs.Standing.{standing}

pub record WorkedRecordings : Type 0 where
  -- bits, of size 1
  pub bits_at_three : standing 2 binary binary_inverse 1 3 (0 ∷ 0 ∷ 1 ∷ 1 ∷ 0 ∷ 1 ∷ []) ≡ record { phase = Settled; count = 6; degrees = 3 ∷ []; columns = (1 ∷ 1 ∷ 1 ∷ 0 ∷ []) ∷ [] }
  pub bits_at_two : standing 2 binary binary_inverse 1 2 (0 ∷ 0 ∷ 1 ∷ 1 ∷ 0 ∷ 1 ∷ []) ≡ record { phase = Settled; count = 2; degrees = 0 ∷ []; columns = (1 ∷ []) ∷ [] }
  pub bits_at_zero : standing 2 binary binary_inverse 1 0 (0 ∷ 0 ∷ 1 ∷ 1 ∷ 0 ∷ 1 ∷ []) ≡ record { phase = Settled; count = 0; degrees = 0 ∷ []; columns = (1 ∷ []) ∷ [] }
  -- bits, of size 2
  pub bits_too_short : standing 2 binary binary_inverse 2 1 (1 ∷ 0 ∷ 0 ∷ 1 ∷ []) ≡ record { phase = Short; count = 1; degrees = 1 ∷ 1 ∷ []; columns = (1 ∷ 0 ∷ 0 ∷ 0 ∷ []) ∷ (0 ∷ 1 ∷ 0 ∷ 0 ∷ []) ∷ [] }
  -- a tie with the auxiliary column goes to it: were it to go to the open column, the columns would differ
  pub bits_with_a_tie : standing 2 binary binary_inverse 2 2 (0 ∷ 1 ∷ 1 ∷ 0 ∷ 0 ∷ 0 ∷ 1 ∷ 1 ∷ []) ≡ record { phase = Settled; count = 2; degrees = 1 ∷ 1 ∷ []; columns = (1 ∷ 0 ∷ 1 ∷ 0 ∷ []) ∷ (0 ∷ 1 ∷ 1 ∷ 0 ∷ []) ∷ [] }
  -- integers modulo 101
  pub remainders_doubled : standing 101 (modular 101) mod101_inverse 1 1 (1 ∷ 2 ∷ []) ≡ record { phase = Settled; count = 2; degrees = 1 ∷ []; columns = (1 ∷ 99 ∷ []) ∷ [] }
  pub remainders_repeated : standing 101 (modular 101) mod101_inverse 2 2 (1 ∷ 0 ∷ 0 ∷ 1 ∷ 1 ∷ 0 ∷ 0 ∷ 1 ∷ []) ≡ record { phase = Settled; count = 2; degrees = 1 ∷ 1 ∷ []; columns = (1 ∷ 0 ∷ 100 ∷ 0 ∷ []) ∷ (0 ∷ 1 ∷ 0 ∷ 100 ∷ []) ∷ [] }
  -- bytes
  pub bytes_tripled : standing 256 bytes byte_inverse 1 1 (1 ∷ 3 ∷ []) ≡ record { phase = Settled; count = 2; degrees = 1 ∷ []; columns = (1 ∷ 3 ∷ []) ∷ [] }
  -- words that wrap, and a column held against them: 2147483648 times 2147483648 and twice 2147483648 are 0, and 2 plus 4294967293 is 4294967295
  pub words_fit : fits_answer (2 ^ 32) (modular (2 ^ 32)) 1 1 (1 ∷ 2147483648 ∷ 0 ∷ []) (1 ∷ 2147483648 ∷ []) ≡ Ok None
  pub words_fail : fits_answer (2 ^ 32) (modular (2 ^ 32)) 1 1 (1 ∷ 2 ∷ []) (1 ∷ 4294967293 ∷ []) ≡ Ok (Some (1, 1))
