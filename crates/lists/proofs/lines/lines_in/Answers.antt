use Rattle.std.proofs.Common.{◌≡◌, length, ap, arith, rules}
use Rattle.lists.specs.Bytes.{line_end}
use Rattle.lists.specs.Cursor.{left}
use Rattle.lists.specs.FileChecks.{lines_of}
use Rattle.lists.proofs.Opened.{opened_some, lines_few}
use Rattle.lists.proofs.lines.lines_in.Goals as goal

pub overflow_sub-file : goal.overflow_sub-file
overflow_sub-file c = omega (arith, opened_some c.args.file.now tt c.requires.ended)

pub returns : goal.returns
returns c =
    let all : left line_end c.new.result.rest ≡ lines_of c.args.file.now = search rules in
    record { all = all; few = omega (arith, ap length all, lines_few c.args.file.now tt c.requires.ended) }
