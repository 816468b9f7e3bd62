use Rattle.std.proofs.Common.{subst, sym, ap}
use Rattle.lc_term.specs.Syntax.{Base}
use Rattle.lc_term.proofs.Symbolic.{columns_by-after, Holds-told}
use Rattle.lc_action.specs.Action.{acting_variables}
use Rattle.lc_action.proofs.laws.actions_do_their_updates.Goals as goal

pub returns-clause-columns : goal.returns-clause-columns
returns-clause-columns c = λ s e a actor ts n. ap (λ m. m n) (columns_by-after s e Base (acting_variables actor ts) a.updates)

pub returns-clause-guard : goal.returns-clause-guard
returns-clause-guard c = λ s e a actor ts.
    let same = Holds-told s e Base (acting_variables actor ts) a.guard in
    (subst (λ X. X) same, subst (λ X. X) (sym same))
