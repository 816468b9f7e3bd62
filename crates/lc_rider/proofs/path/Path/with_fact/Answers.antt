use Rattle.std.proofs.Common.{refl}
use Rattle.lc_rider.proofs.PathParts.{fact_put}
use Rattle.lc_rider.proofs.path.Path.with_fact.Goals as goal

pub returns : goal.returns
returns c = λ ts. fact_put ts c.args.self _ c.args.fact c.in_ok-push.ensures.items refl refl
