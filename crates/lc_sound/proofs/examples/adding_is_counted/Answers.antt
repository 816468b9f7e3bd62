use Rattle.lc_sound.proofs.Choosing.{adding_counted}
use Rattle.lc_sound.proofs.examples.adding_is_counted.Goals as goal

pub returns : goal.returns
returns c = adding_counted
