use Rattle.lc_term.proofs.Stable.{Holds-stable}
use Rattle.lc_term.proofs.laws.meaning_is_stable.Goals as goal

pub returns : goal.returns
returns c = Holds-stable
