use Rattle.lc_order_claims.proofs.drafts.copying.Goals as goal

pub returns-clause-meaning : goal.returns-clause-meaning
returns-clause-meaning c = c.copied.ensures.meaning

pub returns-clause-draft : goal.returns-clause-draft
returns-clause-draft c = c.copied.ensures.draft
