use Rattle.lc_running_claims.proofs.runs.beginning_a_call.Goals as goal

pub returns-clause-ok : goal.returns-clause-ok
returns-clause-ok g c = c.begin.ensures.ok

pub returns-clause-err : goal.returns-clause-err
returns-clause-err g c = c.begin.ensures.err

pub returns-clause-busy : goal.returns-clause-busy
returns-clause-busy g c = c.begin.ensures.busy

pub returns-clause-never : goal.returns-clause-never
returns-clause-never g c = c.begin.ensures.never

pub returns-clause-fault : goal.returns-clause-fault
returns-clause-fault g c = c.begin.ensures.fault

pub returns-clause-same : goal.returns-clause-same
returns-clause-same g c = c.begin.ensures.same
