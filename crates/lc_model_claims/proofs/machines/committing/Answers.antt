use Rattle.lc_model_claims.proofs.machines.committing.Goals as goal

pub returns-clause-ok : goal.returns-clause-ok
returns-clause-ok c = c.commit.ensures.ok

pub returns-clause-fate : goal.returns-clause-fate
returns-clause-fate c = c.commit.ensures.fate

pub returns-clause-err : goal.returns-clause-err
returns-clause-err c = c.commit.ensures.err

pub returns-clause-columns : goal.returns-clause-columns
returns-clause-columns c = c.commit.ensures.columns
