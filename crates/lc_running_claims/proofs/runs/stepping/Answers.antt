use Rattle.lc_running_claims.proofs.runs.stepping.Goals as goal

pub returns-clause-ok : goal.returns-clause-ok
returns-clause-ok g c = c.step.ensures.ok

pub returns-clause-err : goal.returns-clause-err
returns-clause-err g c = c.step.ensures.err

pub returns-clause-idle : goal.returns-clause-idle
returns-clause-idle g c = c.step.ensures.idle

pub returns-clause-never : goal.returns-clause-never
returns-clause-never g c = c.step.ensures.never

pub returns-clause-fault : goal.returns-clause-fault
returns-clause-fault g c = c.step.ensures.fault

pub returns-clause-same : goal.returns-clause-same
returns-clause-same g c = c.step.ensures.same
