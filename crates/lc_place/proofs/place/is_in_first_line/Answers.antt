use Rattle.lc_place.proofs.Windows.{no_feed_found}
use Rattle.lc_place.proofs.place.is_in_first_line.Goals as goal

pub returns : goal.returns
returns c = no_feed_found c.args.bytes.now c.args.offset c.memchr.result c.is_none.result c.requires c.memchr.ensures c.is_none.ensures
