-- The fields by their letters.
use Rattle.std.specs.Prelude.{Some, None, Option}
use Rattle.rings.specs.Arithmetic.{Arithmetic, reading}
use Rattle.rings.specs.Binary.{binary, binary_inverse}
use Rattle.rings.specs.Bytes.{bytes}
use Rattle.rings.specs.Mod101.{mod101_inverse}
use Rattle.rings.specs.Modular.{modular}
use Rattle.rings.specs.PowersOfThree.{byte_inverse}
use Rattle.lists.specs.declared.letter.RingLetter.{RingLetter}
use Rattle.lists.specs.declared.letter.RingLetter.TheVariants.{B, P, Y, W}

-- the arithmetic of the field of a letter; the words of W are no field
abbrev pub arithmetic_of : RingLetter → Option Arithmetic
arithmetic_of B = Some (reading 2 binary binary_inverse)
arithmetic_of P = Some (reading 101 (modular 101) mod101_inverse)
arithmetic_of Y = Some (reading 256 bytes byte_inverse)
arithmetic_of W = None
