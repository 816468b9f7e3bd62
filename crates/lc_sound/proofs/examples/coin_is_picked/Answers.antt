use Rattle.lc_sound.proofs.Choosing.{coin_picked}
use Rattle.lc_sound.proofs.examples.coin_is_picked.Goals as goal

pub returns : goal.returns
returns c = coin_picked
