use Rattle.std.proofs.Common.{◌+◌, ◌-◌, ◌*◌, length, refl, ◌∙◌, arith}
use Rattle.recurrences.proofs.Discrepancies.{term_read}
use Rattle.recurrences.proofs.Rooms.{row_room, coefficient_room, fewer_fit}
use Rattle.recurrences.proofs.check.Check.term.Goals as goal

pub slice_bounds-dot-end-2 : goal.slice_bounds-dot-end-2
slice_bounds-dot-end-2 g c =
    let s = c.args.self.now in
    coefficient_room c.args.k s.degree s.size (length s.column.now) c.requires.coefficient s.whole

pub returns : goal.returns
returns g c =
    let s = c.args.self.now in
    let N = s.size in
    let l = c.args.place - c.args.k in
    let k = c.args.k in
    let matrix = fewer_fit (l + 1) (c.args.place + 1) (N * N) (length s.list.now) (omega arith) c.requires.place_inside in
    c.dot.ensures
    ∙ term_read g.R.Ring.size (g.R.Ring.means s.ring) N N s.list.now s.column.now l c.args.row k ((l * N + c.args.row) * N) (k * N) refl refl c.requires.row_inside (row_room l c.args.row N (length s.list.now) matrix c.requires.row_inside) (coefficient_room k s.degree N (length s.column.now) c.requires.coefficient s.whole)
