use Rattle.std.proofs.Common.{map}
use Rattle.std.proofs.lemmas.Result.{on_ok_weaker}
use Rattle.lc_term.specs.Replacement.{replace}
use Rattle.lc_table.specs.Tables.{formulas_in}
use Rattle.lc_put.specs.Put.{replacement_of}
use Rattle.lc_cond.proofs.Adding.{formulas_later, formulas_listed}
use Rattle.lc_cond.proofs.telling.push_all_told.Goals as goal

pub told-requires-clause-done : goal.told-requires-clause-done
told-requires-clause-done c = c.nothing_replaced-done.ensures _ _

pub returns-clause-list : goal.returns-clause-list
returns-clause-list c =
    let now = c.told.new.terms in
    on_ok_weaker c.push_each.result
    (λ made hs has. made now hs (map (replace (replacement_of c.args.put.now)) (formulas_in c.args.terms.now c.args.formulas.now)) (formulas_later c.args.terms.now now c.args.known.now hs has c.in_ok-goals.ensures.kept)
    (formulas_listed now c.in_ok-goals.goals.items c.deref.result.now _ c.in_ok-goals.ensures.list c.deref.ensures.value)) c.push_each.ensures
