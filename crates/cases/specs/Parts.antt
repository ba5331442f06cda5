use Rattle.std.specs.Prelude.{ℕ, List, Result, Ok, Err}
use Rattle.cases.specs.declared.error.CallError.{CallError}
use Rattle.cases.specs.declared.error.CallError.TheVariants.{NotUnderstood}
use Rattle.cases.specs.declared.parts.Part.{Part}
use Rattle.cases.specs.declared.parts.Part.TheVariants.{Number, Codes, Text}

-- what a part of a call has, if it is of that kind
abbrev pub number_in : Part → Result ℕ CallError
number_in (Number n) = Ok n
number_in _ = Err NotUnderstood

abbrev pub codes_in : Part → Result (List ℕ) CallError
codes_in (Codes codes) = Ok codes.now
codes_in _ = Err NotUnderstood

abbrev pub text_in : Part → Result (List ℕ) CallError
text_in (Text text) = Ok text.now
text_in _ = Err NotUnderstood
