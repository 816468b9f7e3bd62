use Rattle.lc_outline.proofs.Matched.{match_at, arity_and_replies_few}
use Rattle.lc_outline.proofs.laws.operations_agree.Goals as goal

pub returns-clause-agree : goal.returns-clause-agree
returns-clause-agree c = λ D R k o e. let m = match_at D R k o e in (m.arguments, m.replies)

pub returns-clause-small : goal.returns-clause-small
returns-clause-small c = arity_and_replies_few
