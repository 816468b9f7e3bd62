use Rattle.lc_running_claims.proofs.runs.finishing.Goals as goal

pub returns-clause-run : goal.returns-clause-run
returns-clause-run g c = c.finish.ensures.run

pub returns-clause-history : goal.returns-clause-history
returns-clause-history g c = c.finish.ensures.history

pub returns-clause-order : goal.returns-clause-order
returns-clause-order g c = c.finish.ensures.order

pub returns-clause-linearizes : goal.returns-clause-linearizes
returns-clause-linearizes g c = c.finish.ensures.linearizes

pub returns-clause-count : goal.returns-clause-count
returns-clause-count g c = c.finish.ensures.count

pub returns-clause-own : goal.returns-clause-own
returns-clause-own g c = c.finish.ensures.own

pub returns-clause-together : goal.returns-clause-together
returns-clause-together g c = c.finish.ensures.together

pub returns-clause-seats : goal.returns-clause-seats
returns-clause-seats g c = c.finish.ensures.seats

pub returns-clause-there : goal.returns-clause-there
returns-clause-there g c = c.finish.ensures.there

pub returns-clause-missing : goal.returns-clause-missing
returns-clause-missing g c = c.finish.ensures.missing

pub returns-clause-concluded : goal.returns-clause-concluded
returns-clause-concluded g c = c.finish.ensures.concluded

pub returns-clause-same : goal.returns-clause-same
returns-clause-same g c = c.finish.ensures.same

pub returns-clause-development : goal.returns-clause-development
returns-clause-development g c = c.finish.ensures.development

pub returns-clause-clients : goal.returns-clause-clients
returns-clause-clients g c = c.finish.ensures.clients
