use Rattle.lc_spec_claims.proofs.specifications.binding.Goals as goal

pub returns-clause-env : goal.returns-clause-env
returns-clause-env c = c.call_env.ensures.env

pub returns-clause-count : goal.returns-clause-count
returns-clause-count c = c.call_env.ensures.count
