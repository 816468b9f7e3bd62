use Rattle.lc_place.proofs.Preorder.{item_stands_at}
use Rattle.lc_place.proofs.laws.the_item_stands_at_its_place.Goals as goal

pub returns : goal.returns
returns c = item_stands_at
