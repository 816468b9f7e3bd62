use Rattle.std.proofs.Common.{refl}
use Rattle.lc_check.specs.VerdictView.{development_in}
use Rattle.lc_run.proofs.Reasons.{as-why}
use Rattle.lc_run.proofs.finishing.conclusion.Goals as goal

pub returns-in-Some-clause-why : goal.returns-in-Some-clause-why
returns-in-Some-clause-why g c =
    as-why c.args.shared.now (development_in c.args.accepted.now) c.args.clients c.args.seats.now c.in-Some.why ((c.in-Some.ensures.why c.in-Some.why).0 refl)
