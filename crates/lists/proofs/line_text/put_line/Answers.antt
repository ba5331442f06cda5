use Rattle.std.proofs.Common.{[], ◌∷◌, arith}
use Rattle.lists.specs.Bytes.{line_end}
use Rattle.lists.specs.LineText.{commaed}
use Rattle.lists.proofs.Streamed.{line_length}
use Rattle.lists.proofs.Writing.{put_three}
use Rattle.lists.proofs.line_text.put_line.Goals as goal

pub put_bytes-numbers_at-requires : goal.put_bytes-numbers_at-requires
put_bytes-numbers_at-requires c = omega (arith, c.requires, line_length c.args.start.now c.args.numbers.now)

pub put_fields-end_at-requires : goal.put_fields-end_at-requires
put_fields-end_at-requires c = omega (arith, c.requires, line_length c.args.start.now c.args.numbers.now, c.put_bytes-numbers_at.ensures.next, c.put_bytes-numbers_at.auto.place)

pub put-requires : goal.put-requires
put-requires c = omega (arith, c.requires, line_length c.args.start.now c.args.numbers.now, c.put_bytes-numbers_at.ensures.next, c.put_bytes-numbers_at.auto.place, c.put_fields-end_at.ensures.next, c.put_fields-end_at.auto.place)

pub returns : goal.returns
returns c =
    let a = c.put_bytes-numbers_at in let b = c.put_fields-end_at in
    let n = line_length c.args.start.now c.args.numbers.now in
    record {
      next = omega (arith, n, a.ensures.next, b.ensures.next, c.put.ensures.next);
      place = put_three c.args.place.now _ _ _ c.args.at a.result b.result c.args.start.now (commaed c.args.numbers.now) (line_end ∷ []) a.ensures.next b.ensures.next (omega (arith, c.requires, n, a.ensures.next, b.ensures.next)) a.ensures.place b.ensures.place c.put.ensures.place;
    }
