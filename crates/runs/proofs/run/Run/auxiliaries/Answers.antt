use Rattle.std.proofs.Common.{sym, ap, ◌∙◌}
use Rattle.std.proofs.lemmas.List.{get_or-take}
use Rattle.rings.specs.Arithmetic.{reading}
use Rattle.recurrences.specs.Columns.{Columns}
use Rattle.runs.specs.Operations.{operations_of}
use Rattle.runs.specs.Views.{no_column}
use Rattle.runs.specs.declared.tables.Column.{Column}
use Rattle.runs.proofs.Recalled.{columns_recorded, least_same, shown_same}
use Rattle.runs.proofs.run.Run.auxiliaries.Goals as goal

pub returns-clause-degrees : goal.returns-clause-degrees
returns-clause-degrees g c = λ j h.
    let run = c.args.self.now in
    let s = run.state in
    let a = reading g.F.Ring.size (g.F.Ring.means run.field) (g.F.Field.inverse run.field) in
    ap (λ (x : Column). x.degree) (get_or-take s.size s.columns.auxs j no_column h)
    ∙ run.sound.aux_degrees j h ∙ ap (λ (x : Columns (operations_of a).ring). x.aux_degree j) (sym (columns_recorded a s run.sound.some))

pub returns-clause-least : goal.returns-clause-least
returns-clause-least g c = least_same c.args.self.now.state.size _ _ (returns-clause-degrees g c)

pub returns-clause-shown : goal.returns-clause-shown
returns-clause-shown g c = shown_same c.args.self.now.state.size _ _ (returns-clause-degrees g c)
