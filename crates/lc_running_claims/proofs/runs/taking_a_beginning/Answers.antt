use Rattle.lc_running_claims.proofs.runs.taking_a_beginning.Goals as goal

pub returns-clause-grown : goal.returns-clause-grown
returns-clause-grown g c = c.take_begin.ensures.grown

pub returns-clause-room : goal.returns-clause-room
returns-clause-room g c = c.take_begin.ensures.room

pub returns-clause-busy : goal.returns-clause-busy
returns-clause-busy g c = c.take_begin.ensures.busy

pub returns-clause-fault : goal.returns-clause-fault
returns-clause-fault g c = c.take_begin.ensures.fault

pub returns-clause-labels : goal.returns-clause-labels
returns-clause-labels g c = c.take_begin.ensures.labels

pub returns-clause-world : goal.returns-clause-world
returns-clause-world g c = c.take_begin.ensures.world

pub returns-clause-made : goal.returns-clause-made
returns-clause-made g c = c.take_begin.ensures.made

pub returns-clause-development : goal.returns-clause-development
returns-clause-development g c = c.take_begin.ensures.development

pub returns-clause-clients : goal.returns-clause-clients
returns-clause-clients g c = c.take_begin.ensures.clients

pub returns-clause-same : goal.returns-clause-same
returns-clause-same g c = c.take_begin.ensures.same
