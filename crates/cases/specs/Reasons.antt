use Rattle.std.specs.Prelude.{ℕ, List, codes}
use Rattle.cases.specs.declared.error.CallError.{CallError}
use Rattle.cases.specs.declared.error.CallError.TheVariants.{NotUnderstood, OutOfMemory, WrittenElsewhere}

-- why a case has no answer, in words
abbrev pub reason : CallError → List ℕ
reason NotUnderstood = codes "not understood"
reason OutOfMemory = codes "out of memory"
reason WrittenElsewhere = codes "written elsewhere"
