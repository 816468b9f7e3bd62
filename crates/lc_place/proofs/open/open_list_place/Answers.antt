use Rattle.lc_place.proofs.Opened.{list_within}
use Rattle.lc_place.proofs.open.open_list_place.Goals as goal

pub overflow_sub-bytes : goal.overflow_sub-bytes
overflow_sub-bytes c = list_within c.args.bytes.now c.in_ok-offset.offset c.in_ok-offset.ensures.begins

pub place_at-requires : goal.place_at-requires
place_at-requires c = list_within c.args.bytes.now c.in_ok-offset.offset c.in_ok-offset.ensures.begins
