use Rattle.std.proofs.Common.{[], ◌∷◌, decimal, ◌∙◌, arith}
use Rattle.lists.specs.Bytes.{comma}
use Rattle.lists.proofs.Writing.{put_on}
use Rattle.lists.proofs.line_text.put_field.Goals as goal

pub returns : goal.returns
returns c =
    record {
      next = omega (arith, c.put_number.ensures.next, c.put-next.ensures.next);
      place = c.put_number.ensures.place ∙ put_on c.args.place.now _ c.args.at c.put-next.result (comma ∷ []) (decimal c.args.x) c.put-next.ensures.next (omega (arith, c.put-next.ensures.next, c.requires)) c.put-next.ensures.place;
    }
