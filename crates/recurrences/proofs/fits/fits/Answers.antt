use Rattle.recurrences.proofs.FirstFailure.{answer_told}
use Rattle.recurrences.proofs.fits.fits.Goals as goal

pub returns-clause-told : goal.returns-clause-told
returns-clause-told g c =
    answer_told g.R.Ring.size (g.R.Ring.means c.args.ring) c.args.size c.args.degree c.args.list.now c.args.column.now c.answer.result c.answer.ensures
