use Rattle.lc_pool.proofs.Known.{known_is_proven}
use Rattle.lc_pool.proofs.laws.known_entries_prove_the_development.Goals as goal

pub returns : goal.returns
returns c = known_is_proven c.entries_read_alone_are_read_whole.ensures
