use Rattle.std.proofs.Common.{sym, refl, ap, ◌∙◌, subst}
use Rattle.rings.specs.Arithmetic.{reading}
use Rattle.runs.specs.Recorded.{recorded}
use Rattle.runs.specs.Sound.{Sound}
use Rattle.runs.specs.Starts.{started}
use Rattle.runs.specs.Views.{matrices_of}
use Rattle.runs.proofs.FromLaws.{adds_zero}
use Rattle.runs.proofs.Recording.{codes_none}
use Rattle.runs.proofs.Starting.{started_sound}
use Rattle.runs.proofs.start.start.Goals as goal

pub returns-clause-sound : goal.returns-clause-sound
returns-clause-sound g c =
    let q = g.F.Ring.size in
    let m = g.F.Ring.means c.args.field in
    let inv = g.F.Field.inverse c.args.field in
    let positive = (adds_zero q m inv (g.met.F.Ring.lawful c.args.field) (g.met.F.Field.inverts c.args.field)).1 in
    subst (Sound (reading q m inv)) (sym c.started_tables.ensures) (started_sound (reading q m inv) c.args.size c.requires.some c.requires.small positive)

pub returns-clause-taken : goal.returns-clause-taken
returns-clause-taken g c = ap recorded c.started_tables.ensures ∙ codes_none c.args.size 0 (matrices_of c.args.size (started c.args.size).matrices) refl
