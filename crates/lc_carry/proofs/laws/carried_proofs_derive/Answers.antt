use Rattle.lc_carry.proofs.Derives.{carried-derives}
use Rattle.lc_carry.proofs.laws.carried_proofs_derive.Goals as goal

pub returns : goal.returns
returns c = carried-derives
