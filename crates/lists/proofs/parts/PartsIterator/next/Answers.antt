use Rattle.std.proofs.Common.{length, ap, ◌∙◌, arith}
use Rattle.lists.specs.Cursor.{left}
use Rattle.lists.proofs.Splitting.{split_at, split_whole}
use Rattle.lists.proofs.parts.PartsIterator.next.Goals as goal

pub returns-in-Some-clause-steps : goal.returns-in-Some-clause-steps
returns-in-Some-clause-steps g c = ap (left g.row.MARK) c.in_ok-rest.was ∙ split_at g.row.MARK c.in_ok-rest.rest.now c.in-Some.at c.in-Some.ensures

pub returns-in-Some-clause-goes : goal.returns-in-Some-clause-goes
returns-in-Some-clause-goes g c =
    let e = ap length (ap (left g.row.MARK) c.in_ok-rest.was ∙ split_at g.row.MARK c.in_ok-rest.rest.now c.in-Some.at c.in-Some.ensures) in
    record { on = λ _. (tt, tt, omega arith); keeps = tt; rests = λ _. tt }

pub returns-in-None-clause-steps : goal.returns-in-None-clause-steps
returns-in-None-clause-steps g c = ap (left g.row.MARK) c.in_ok-rest.was ∙ split_whole g.row.MARK c.in_ok-rest.rest.now c.in-None.ensures

pub returns-in-None-clause-goes : goal.returns-in-None-clause-goes
returns-in-None-clause-goes g c =
    let e = ap length (ap (left g.row.MARK) c.in_ok-rest.was ∙ split_whole g.row.MARK c.in_ok-rest.rest.now c.in-None.ensures) in
    record { on = λ _. (tt, tt, omega arith); keeps = tt; rests = λ _. tt }
