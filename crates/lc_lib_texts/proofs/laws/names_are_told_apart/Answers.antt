use Rattle.lc_lib_texts.proofs.Named.{named_back}
use Rattle.lc_lib_texts.proofs.laws.names_are_told_apart.Goals as goal

pub returns : goal.returns
returns c = named_back
