use Rattle.std.proofs.Common.{Bool, List, sym, ◌∙◌, subst, arith}
use Rattle.recurrences.specs.Fields.{quotient}
use Rattle.recurrences.specs.Pivot.{gen_entry, aux_entry}
use Rattle.recurrences.specs.Run.{entry_at}
use Rattle.recurrences.specs.Step.{by_open}
use Rattle.rings.specs.Arithmetic.{reading}
use Rattle.runs.specs.Midsteps.{Holds, Matches}
use Rattle.runs.specs.Operations.{operations_of}
use Rattle.runs.specs.Views.{matrices_of}
use Rattle.runs.specs.declared.tables.Columns.{Columns as Tables}
use Rattle.runs.proofs.FromLaws.{adds_zero}
use Rattle.runs.proofs.OneRow.{copy_holds, trade_holds, copied_row, traded_row, part_is}
use Rattle.runs.proofs.row.Row.by_open.Goals as goal
use Rattle.runs.proofs.row.Row.by_open.Goals.{then-aux_entry-eq0, else-aux_entry-eq0}

pub returns : goal.returns
returns g c =
    let q = g.F.Ring.size in
    let m = g.F.Ring.means c.args.self.now.lanes.field in
    let inv = g.F.Field.inverse c.args.self.now.lanes.field in
    let a = reading q m inv in
    let Z = adds_zero q m inv (g.met.F.Ring.lawful c.args.self.now.lanes.field) (g.met.F.Field.inverts c.args.self.now.lanes.field) in
    let N = c.args.self.now.lanes.size in
    let M = matrices_of N c.args.self.now.matrices.now in
    let n = c.args.self.now.place in
    let i = c.args.self.now.i in
    let iN = c.args.self.now.inside in
    let l = c.args.l in
    let lN = c.requires.column in
    let es = c.args.entries.now in
    let y = c.args.aux_entry in
    let s = c.args.columns.now in
    let opened = c.args.opened.now in
    let mid = c.if-aux_entry-eq0.columns in
    let new = c.reduce_by.new.columns in
    let h = c.reduce_by.ensures in
    λ t R.
    let E = entry_at (operations_of a).ring N M n in
    let row : (o : List Bool) → Type 0 = λ o. Matches a N new o (by_open (operations_of a) N E i l t) in
    elim c.if-aux_entry-eq0.branch [
      | then-aux_entry-eq0 w ↦
          let k = w.copy.ensures in
          subst row (sym (w.opened-is ∙ w.close.ensures))
          (copied_row a N Z M n i t es y s opened R iN l lN c.requires.candidate (omega arith) mid new w.if-aux_entry-eq0.true (omega arith)
          (subst (λ (x : Tables). Holds a N x _) (sym w.columns-is) (copy_holds a N Z M n i t es y s opened R iN l lN w.copy.new.columns k.gens k.auxs (omega (arith, k.lengths.0)) (omega (arith, k.lengths.1))))
          h.gens h.gen_degrees h.auxs)
      | else-aux_entry-eq0 w ↦
          let k = w.trade.ensures in
          let part = quotient (operations_of a) (gen_entry (operations_of a).ring N E t i l) (aux_entry (operations_of a).ring N E t i) in
          subst row (sym w.opened-is)
          (traded_row a N Z M n i t es y s opened R iN l lN c.requires.candidate (omega arith) mid new w.if-aux_entry-eq0.false
          (subst (λ (x : Tables). Holds a N x _) (sym w.columns-is) (trade_holds a N Z M n i t es y s opened R iN l lN c.requires.smaller w.trade.new.columns w.quotient-part.result part
          (w.quotient-part.ensures ∙ part_is a N Z M n i t es y s opened R iN l lN c.requires.candidate (omega arith))
          k.gen_column k.other_gens k.aux_column k.other_auxs k.gen_degree k.aux_degree))
          h.gens h.gen_degrees h.auxs)
    ]
