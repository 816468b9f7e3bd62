use Rattle.lc_order_claims.proofs.drafts.beginning.Goals as goal

pub returns-clause-start : goal.returns-clause-start
returns-clause-start c = c.begin.ensures.start

pub returns-clause-draft : goal.returns-clause-draft
returns-clause-draft c = c.begin.ensures.draft
