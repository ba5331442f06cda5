-- The number of each refusal, and its reason in words.
use Rattle.std.specs.Prelude.{ℕ, List, codes}
use Rattle.recurrences.specs.declared.refusal.Refusal.{Refusal}
use Rattle.recurrences.specs.declared.refusal.Refusal.TheVariants.{Size, Bound, NotRunning, Length, Code, IsShort, ColumnNumber, NotSettled, Count}

abbrev pub number : Refusal → ℕ
number Size = 1
number Bound = 2
number NotRunning = 3
number Length = 4
number Code = 5
number IsShort = 6
number ColumnNumber = 7
number NotSettled = 8
number Count = 9

abbrev pub reason : Refusal → List ℕ
reason Size = codes "the size is not 1 to 4"
reason Bound = codes "the bound is above 64"
reason NotRunning = codes "the run is not running"
reason Length = codes "a list or a place has not the length due"
reason Code = codes "an entry is not a code"
reason IsShort = codes "the run is short"
reason ColumnNumber = codes "there is no generator column of that number"
reason NotSettled = codes "the run is not settled"
reason Count = codes "the number of matrices wanted is not 1 to 64"
