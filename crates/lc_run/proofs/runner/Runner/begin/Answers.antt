use Rattle.lc_run.proofs.Calling.{begin-fault}
use Rattle.lc_run.proofs.runner.Runner.begin.Goals as goal

pub returns-clause-fault : goal.returns-clause-fault
returns-clause-fault g c = begin-fault c.take_begin.result c.deref_mut.result.now c.args.seat.now c.args.operation.0 c.args.numbers.now c.take_begin.ensures.fault
