use Rattle.lists.specs.Text.{cells}
use Rattle.lists.proofs.Listable.{multiple_accepted}
use Rattle.lists.proofs.writer.List.checked.Goals as goal

pub text_length-requires : goal.text_length-requires
text_length-requires c = multiple_accepted (cells c.args.self.now.header) c.args.self.now.codes.now c.in_ok-check_multiple.field-0 c.in_ok-check_multiple.ensures
