use Rattle.lc_sound.proofs.Choosing.{coin_noted}
use Rattle.lc_sound.proofs.examples.coin_is_noted.Goals as goal

pub returns : goal.returns
returns c = coin_noted
