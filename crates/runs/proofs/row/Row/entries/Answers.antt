use Rattle.std.proofs.Common.{ℕ, drop, replicate, arith}
use Rattle.runs.proofs.Part.{part_more}
use Rattle.runs.proofs.row.Row.entries.Goals as goal

pub loop-j-preserved : goal.loop-j-preserved
loop-j-preserved g c =
    part_more 0 (λ (x : ℕ). x) _ _ (drop c.args.self.now.lanes.size (replicate 4 0)) c.loop-j.entry-items c.loop-j.j c.open_entry.result (omega arith) c.loop-j.invariant c.open_entry.ensures
