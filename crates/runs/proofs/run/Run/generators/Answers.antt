use Rattle.std.proofs.Common.{◌≡◌, take, sym, ap, ◌∙◌, arith}
use Rattle.std.proofs.lemmas.List.{get_or-take}
use Rattle.rings.specs.Arithmetic.{reading}
use Rattle.recurrences.specs.Columns.{Columns}
use Rattle.runs.specs.Operations.{operations_of}
use Rattle.runs.specs.Views.{no_column, degree_at, column_of}
use Rattle.runs.specs.declared.tables.Column.{Column}
use Rattle.recurrences.proofs.Totals.{total_cong}
use Rattle.runs.proofs.Recalled.{columns_recorded, greatest_same, shown_same}
use Rattle.runs.proofs.RunFacts.{low_degree}
use Rattle.runs.proofs.run.Run.generators.Goals as goal

pub returns-clause-columns : goal.returns-clause-columns
returns-clause-columns g c = λ j k e h.
    let run = c.args.self.now in
    let s = run.state in
    let a = reading g.F.Ring.size (g.F.Ring.means run.field) (g.F.Field.inverse run.field) in
    ap (λ (x : Column). column_of s.size x k e) (get_or-take s.size s.columns.gens j no_column h)
    ∙ run.sound.gens (j, h) k e ∙ ap (λ (x : Columns (operations_of a).ring). x.gen j k e) (sym (columns_recorded a s run.sound.some))

pub returns-clause-degrees : goal.returns-clause-degrees
returns-clause-degrees g c = λ j h.
    let run = c.args.self.now in
    let s = run.state in
    let a = reading g.F.Ring.size (g.F.Ring.means run.field) (g.F.Field.inverse run.field) in
    ap (λ (x : Column). x.degree) (get_or-take s.size s.columns.gens j no_column h)
    ∙ run.sound.gen_degrees j h ∙ ap (λ (x : Columns (operations_of a).ring). x.gen_degree j) (sym (columns_recorded a s run.sound.some))

pub returns-clause-low : goal.returns-clause-low
returns-clause-low g c = λ j h.
    let run = c.args.self.now in
    let s = run.state in
    let same : degree_at (take s.size s.columns.gens) j ≡ degree_at s.columns.gens j = ap (λ (x : Column). x.degree) (get_or-take s.size s.columns.gens j no_column h) in
    omega (arith, low_degree g.F.Field g.F.Ring g.met.F.Ring.lawful g.met.F.Field.inverts c.args.self.now j h)

pub returns-clause-total : goal.returns-clause-total
returns-clause-total g c = total_cong c.args.self.now.state.size _ _ (returns-clause-degrees g c)

pub returns-clause-greatest : goal.returns-clause-greatest
returns-clause-greatest g c = greatest_same c.args.self.now.state.size _ _ (returns-clause-degrees g c)

pub returns-clause-shown : goal.returns-clause-shown
returns-clause-shown g c = shown_same c.args.self.now.state.size _ _ (returns-clause-degrees g c)
