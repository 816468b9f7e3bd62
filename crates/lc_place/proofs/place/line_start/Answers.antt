use Rattle.std.proofs.Common.{◌-◌, ◌+◌, ap, get_or, arith}
use Rattle.lc_place.proofs.Windows.{characters_front, no_feed, no_feed_columns, column_more}
use Rattle.lc_place.proofs.place.line_start.Goals as goal

pub loop-from-preserved : goal.loop-from-preserved
loop-from-preserved c =
    let v = c.loop-from.invariant in
    let bytes = c.args.bytes.now in
    let from = c.loop-from.from in
    let more = column_more bytes from (omega arith) (omega arith) (no_feed (get_or bytes (from - 1) 0) c.if-bytes-from-ne10.true) in
    let front = characters_front bytes from c.args.offset (omega arith) v.before (omega arith) in
    record {
      before = omega arith;
      counted = omega (arith, v.counted, more, front);
    }

pub returns-then-is_in_first_line-clause-column : goal.returns-then-is_in_first_line-clause-column
returns-then-is_in_first_line-clause-column c =
    ap (λ n. n + 1) (no_feed_columns c.args.bytes.now c.args.offset c.requires (c.is_in_first_line.ensures c.if-is_in_first_line.true))
