use Rattle.std.proofs.Common.{◌≡◌, get_or, None, sym, refl, ◌∙◌, subst}
use Rattle.rings.specs.Arithmetic.{reading}
use Rattle.recurrences.specs.Discrepancy.{discrepancy}
use Rattle.runs.specs.Operations.{operations_of}
use Rattle.runs.specs.Views.{no_column, column_of, degree_at, matrices_of}
use Rattle.runs.specs.Candidates.{best_of}
use Rattle.runs.specs.Midsteps.{Matches}
use Rattle.runs.proofs.FromLaws.{adds_zero}
use Rattle.runs.proofs.BestPivot.{no_candidate, against_none, against_tie, against_win}
use Rattle.runs.proofs.OneRow.{aux_row, idle_row}
use Rattle.runs.proofs.PivotOfRow.{ready, row_none, row_some}
use Rattle.runs.proofs.row.Row.eliminate.Goals as goal

pub returns-in_default : goal.returns-in_default
returns-in_default g c =
    let q = g.F.Ring.size in
    let m = g.F.Ring.means c.args.self.now.lanes.field in
    let inv = g.F.Field.inverse c.args.self.now.lanes.field in
    let a = reading q m inv in
    let Z = adds_zero q m inv (g.met.F.Ring.lawful c.args.self.now.lanes.field) (g.met.F.Field.inverts c.args.self.now.lanes.field) in
    let N = c.args.self.now.lanes.size in
    let n = c.args.self.now.place in
    let i = c.args.self.now.i in
    let M = matrices_of N c.args.self.now.matrices.now in
    let es = c.entries-entries.result in
    let s = c.args.columns.now in
    let opened = c.args.opened.now in
    let ds = degree_at s.gens in
    let d = degree_at s.auxs i in
    let y = discrepancy (operations_of a).ring N M (column_of N (get_or s.auxs i no_column)) d n i in
    let none : None ≡ best_of es ds N = sym c.in_default.is ∙ c.best.ensures.value in
    λ t A T.
    let R = ready a N M n i t es y s opened c.args.self.now.inside A T c.entries-entries.ensures refl in
    subst (Matches a N s opened) (row_none a N M n i t es y s opened R c.args.self.now.inside (against_none es ds d N none))
    (idle_row a N Z M n i t es y s opened R c.args.self.now.inside (no_candidate es ds N none))

pub returns-then-auxiliary_wins : goal.returns-then-auxiliary_wins
returns-then-auxiliary_wins g c =
    let q = g.F.Ring.size in
    let m = g.F.Ring.means c.args.self.now.lanes.field in
    let inv = g.F.Field.inverse c.args.self.now.lanes.field in
    let a = reading q m inv in
    let Z = adds_zero q m inv (g.met.F.Ring.lawful c.args.self.now.lanes.field) (g.met.F.Field.inverts c.args.self.now.lanes.field) in
    let N = c.args.self.now.lanes.size in
    let n = c.args.self.now.place in
    let i = c.args.self.now.i in
    let M = matrices_of N c.args.self.now.matrices.now in
    let es = c.entries-entries.result in
    let y = c.entry-aux_entry.result in
    let s = c.args.columns.now in
    let opened = c.args.opened.now in
    let h = c.reduce_by.ensures in
    let tie = against_tie es (degree_at s.gens) (degree_at s.auxs i) N c.in-Some.l c.in-Some.ensures.value (c.auxiliary_wins.ensures.wins c.if-auxiliary_wins.true) in
    λ t A T.
    let R = ready a N M n i t es y s opened c.args.self.now.inside A T c.entries-entries.ensures c.entry-aux_entry.ensures in
    subst (Matches a N c.reduce_by.new.columns opened) (row_none a N M n i t es y s opened R c.args.self.now.inside tie)
    (aux_row a N Z M n i t es y s opened R c.args.self.now.inside c.reduce_by.new.columns h.gens h.gen_degrees h.auxs)

pub returns-else-auxiliary_wins : goal.returns-else-auxiliary_wins
returns-else-auxiliary_wins g c =
    let a = reading g.F.Ring.size (g.F.Ring.means c.args.self.now.lanes.field) (g.F.Field.inverse c.args.self.now.lanes.field) in
    let N = c.args.self.now.lanes.size in
    let n = c.args.self.now.place in
    let i = c.args.self.now.i in
    let M = matrices_of N c.args.self.now.matrices.now in
    let es = c.entries-entries.result in
    let y = c.entry-aux_entry.result in
    let s = c.args.columns.now in
    let opened = c.args.opened.now in
    let l = c.in-Some.l in
    let win = against_win es (degree_at s.gens) (degree_at s.auxs i) N l c.in-Some.ensures.value (c.auxiliary_wins.ensures.loses c.if-auxiliary_wins.false) in
    λ t A T.
    let R = ready a N M n i t es y s opened c.args.self.now.inside A T c.entries-entries.ensures c.entry-aux_entry.ensures in
    subst (Matches a N c.by_open.new.columns c.by_open.new.opened) (row_some a N M n i t es y s opened R c.args.self.now.inside l win) (c.by_open.ensures t R)
