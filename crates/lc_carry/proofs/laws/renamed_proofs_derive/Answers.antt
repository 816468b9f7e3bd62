use Rattle.lc_carry.proofs.Extended.{renamed-derives}
use Rattle.lc_carry.proofs.laws.renamed_proofs_derive.Goals as goal

pub returns : goal.returns
returns c = renamed-derives
