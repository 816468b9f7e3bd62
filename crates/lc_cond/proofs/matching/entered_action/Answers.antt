use Rattle.lc_table.proofs.Later.{formula_later}
use Rattle.lc_cond.proofs.matching.entered_action.Goals as goal

pub returns-clause-guard : goal.returns-clause-guard
returns-clause-guard c = formula_later c.entered_guard.new.terms c.entered_post.new.terms c.in_ok-guard.guard _ c.in_ok-guard.ensures.id c.in_ok-columns.ensures.kept
