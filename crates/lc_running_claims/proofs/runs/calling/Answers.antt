use Rattle.lc_running_claims.proofs.runs.calling.Goals as goal

pub returns-clause-ok : goal.returns-clause-ok
returns-clause-ok g c = c.call.ensures.ok

pub returns-clause-err : goal.returns-clause-err
returns-clause-err g c = c.call.ensures.err

pub returns-clause-left : goal.returns-clause-left
returns-clause-left g c = c.call.ensures.left

pub returns-clause-busy : goal.returns-clause-busy
returns-clause-busy g c = c.call.ensures.busy

pub returns-clause-never : goal.returns-clause-never
returns-clause-never g c = c.call.ensures.never

pub returns-clause-fault : goal.returns-clause-fault
returns-clause-fault g c = c.call.ensures.fault

pub returns-clause-same : goal.returns-clause-same
returns-clause-same g c = c.call.ensures.same
