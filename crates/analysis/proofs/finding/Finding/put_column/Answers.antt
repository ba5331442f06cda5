use Rattle.std.proofs.Common.{◌≡◌, ℕ, ◌+◌, List, [], ◌∷◌, length, sym, ap, ◌∙◌, arith}
use Rattle.rings.specs.Arithmetic.{reading}
use Rattle.runs.specs.Recorded.{recorded}
use Rattle.runs.specs.Standings.{column_after}
use Rattle.lists.specs.Bytes.{comma}
use Rattle.lists.specs.LineText.{line_text}
use Rattle.lists.specs.Places.{written}
use Rattle.analysis.specs.Answer.{column_letter, column_line}
use Rattle.analysis.proofs.Room.{column_within}
use Rattle.analysis.proofs.Texts.{numbered_line}
use Rattle.analysis.proofs.finding.Finding.put_column.Goals as goal

pub put_line-requires-clause-short : goal.put_line-requires-clause-short
put_line-requires-clause-short g c =
    let r = c.args.self.now.run.now in
    let a = reading g.F.Ring.size (g.F.Ring.means r.field) (g.F.Field.inverse r.field) in
    let line : line_text (column_letter ∷ comma ∷ (49 + c.args.j) ∷ []) c.unwrap-codes.result.now ≡ column_line a r.state.size (recorded r.state) c.args.j =
    ap (line_text (column_letter ∷ comma ∷ (49 + c.args.j) ∷ [])) (rw c.unwrap-codes.ensures at c.generator.ensures).1
    ∙ sym (numbered_line c.args.j (column_after a r.state.size (recorded r.state) c.args.j) (omega (arith, c.requires.column, r.sound.small))) in
    omega (arith, ap length line, column_within a r.state.size (recorded r.state) c.args.self.now.verdict c.args.j c.requires.given c.requires.column, c.args.self.now.short)

pub put_line-requires-clause-room : goal.put_line-requires-clause-room
put_line-requires-clause-room g c =
    let r = c.args.self.now.run.now in
    let a = reading g.F.Ring.size (g.F.Ring.means r.field) (g.F.Field.inverse r.field) in
    let line : line_text (column_letter ∷ comma ∷ (49 + c.args.j) ∷ []) c.unwrap-codes.result.now ≡ column_line a r.state.size (recorded r.state) c.args.j =
    ap (line_text (column_letter ∷ comma ∷ (49 + c.args.j) ∷ [])) (rw c.unwrap-codes.ensures at c.generator.ensures).1
    ∙ sym (numbered_line c.args.j (column_after a r.state.size (recorded r.state) c.args.j) (omega (arith, c.requires.column, r.sound.small))) in
    omega (arith, ap length line, c.requires.room)

pub returns-clause-length : goal.returns-clause-length
returns-clause-length g c =
    let r = c.args.self.now.run.now in
    let a = reading g.F.Ring.size (g.F.Ring.means r.field) (g.F.Field.inverse r.field) in
    let line : line_text (column_letter ∷ comma ∷ (49 + c.args.j) ∷ []) c.unwrap-codes.result.now ≡ column_line a r.state.size (recorded r.state) c.args.j =
    ap (line_text (column_letter ∷ comma ∷ (49 + c.args.j) ∷ [])) (rw c.unwrap-codes.ensures at c.generator.ensures).1
    ∙ sym (numbered_line c.args.j (column_after a r.state.size (recorded r.state) c.args.j) (omega (arith, c.requires.column, r.sound.small))) in
    c.put_line.ensures.length ∙ ap length line

pub returns-clause-place : goal.returns-clause-place
returns-clause-place g c =
    let r = c.args.self.now.run.now in
    let a = reading g.F.Ring.size (g.F.Ring.means r.field) (g.F.Field.inverse r.field) in
    let line : line_text (column_letter ∷ comma ∷ (49 + c.args.j) ∷ []) c.unwrap-codes.result.now ≡ column_line a r.state.size (recorded r.state) c.args.j =
    ap (line_text (column_letter ∷ comma ∷ (49 + c.args.j) ∷ [])) (rw c.unwrap-codes.ensures at c.generator.ensures).1
    ∙ sym (numbered_line c.args.j (column_after a r.state.size (recorded r.state) c.args.j) (omega (arith, c.requires.column, r.sound.small))) in
    c.put_line.ensures.place ∙ ap (λ (t : List ℕ). written 0 t c.args.place.now) line
