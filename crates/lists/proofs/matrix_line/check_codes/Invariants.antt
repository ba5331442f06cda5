use Rattle.std.proofs.Common.{◌≡◌, ◌+◌, ◌≤◌, length, drop}
use Rattle.std.specs.Iterator.Adapters.{enumerate_source, enumerate_count}
use Rattle.lists.specs.Bytes.{comma}
use Rattle.lists.specs.Cursor.{left}
use Rattle.lists.specs.LineChecks.{codes_from}
use Rattle.lists.specs.Split.{split}
use Rattle.lists.proofs.matrix_line.check_codes.Given as goal

abbrev pub invariant-loop-k : goal.invariant-loop-k
invariant-loop-k l =
    let k = enumerate_count l.k-iterator in let fields = left comma (enumerate_source l.k-iterator).rest in
    (k + length fields ≤ 16) × (codes_from l.q l.line.number (k + 2) fields ≡ codes_from l.q l.line.number 2 (drop 1 (split comma l.line.bytes.now)))
