use Rattle.std.proofs.Common.{◌-◌}
use Rattle.runs.proofs.TakenAndWritten.{taken_entry, written_entry}
use Rattle.runs.proofs.run.ahead.Ahead.code.Goals as goal

pub returns-then-l-state : goal.returns-then-l-state
returns-then-l-state g c =
    let me = c.args.self.now in
    taken_entry me.run.now.state me.place.now (me.end - c.args.back) c.args.r c.args.c c.requires.row c.requires.column c.if-l-state.true

pub returns-else-l-state : goal.returns-else-l-state
returns-else-l-state g c =
    let me = c.args.self.now in
    written_entry me.run.now.state me.place.now (me.end - c.args.back) c.args.r c.args.c c.requires.row c.requires.column c.if-l-state.false
