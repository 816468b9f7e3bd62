use Rattle.lc_outline.proofs.Resolving.{all_scoped}
use Rattle.lc_outline.proofs.Scoped.{scoped_known}
use Rattle.lc_outline.proofs.laws.terms_are_in_scope.Goals as goal

pub returns-clause-scoped : goal.returns-clause-scoped
returns-clause-scoped c = all_scoped

pub returns-clause-known : goal.returns-clause-known
returns-clause-known c = scoped_known
