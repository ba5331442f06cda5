use Rattle.std.proofs.Common.{◌+◌, arith}
use Rattle.lists.specs.Bytes.{comma}
use Rattle.lists.specs.Split.{split}
use Rattle.lists.proofs.Counts.{counted_ok}
use Rattle.lists.proofs.matrix_line.check_matrix.Goals as goal

pub check_codes-requires : goal.check_codes-requires
check_codes-requires c = omega (arith, counted_ok (c.cells.result + 1) c.args.line.number (split comma c.args.line.bytes.now) _ c.in_ok-check_count.ensures)
