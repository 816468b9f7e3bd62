use Rattle.std.proofs.Common.{map}
use Rattle.std.proofs.lemmas.Result.{on_ok_weaker}
use Rattle.lc_term.specs.Said.{told}
use Rattle.lc_cond.proofs.Adding.{formulas_later, formulas_listed}
use Rattle.lc_cond.proofs.telling.push_told.Goals as goal

pub returns-clause-list : goal.returns-clause-list
returns-clause-list c =
    let now = c.told_by_number.new.terms in
    on_ok_weaker c.push_each.result
    (λ made σ τ hs fs columns variables known has. made now hs (map (told σ τ) fs) (formulas_later c.args.terms.now now c.args.known.now hs known c.in_ok-goals.ensures.kept)
    (formulas_listed now c.in_ok-goals.goals.items c.deref.result.now _ (c.in_ok-goals.ensures.list σ τ fs columns variables has) c.deref.ensures.value)) c.push_each.ensures
