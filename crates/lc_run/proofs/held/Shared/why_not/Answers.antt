use Rattle.lc_check.specs.VerdictView.{development_in}
use Rattle.lc_run.proofs.Reasons.{none-whole, some-why}
use Rattle.lc_run.proofs.held.Shared.why_not.Goals as goal

pub returns-clause-whole : goal.returns-clause-whole
returns-clause-whole g c = none-whole c.args.self.now (development_in c.args.accepted.now) c.args.clients c.args.seats.now c.first_reason.result c.first_reason.ensures

pub returns-clause-why : goal.returns-clause-why
returns-clause-why g c = some-why c.args.self.now (development_in c.args.accepted.now) c.args.clients c.args.seats.now c.first_reason.result c.first_reason.ensures
