use Rattle.std.proofs.Common.{◌+◌, sym, ap}
use Rattle.lc_place.proofs.Windows.{no_feed_counted}
use Rattle.lc_place.proofs.place.line_of.Goals as goal

pub returns-then-is_in_first_line : goal.returns-then-is_in_first_line
returns-then-is_in_first_line c = ap (λ n. n + 1) (sym (no_feed_counted c.args.bytes.now c.args.offset c.requires (c.is_in_first_line.ensures c.if-is_in_first_line.true)))
