use Rattle.std.proofs.lemmas.Result.{on_ok_weaker}
use Rattle.lc_cond.proofs.Adding.{formulas_later, columns_later, adds_on}
use Rattle.lc_cond.proofs.Scening.{outcome_later}
use Rattle.lc_cond.proofs.paths.push_behind.Goals as goal

pub push_on-requires : goal.push_on-requires
push_on-requires c = outcome_later c.args.terms.now c.push_next.new.terms c.args.outcome c.requires c.in_ok-push_next.ensures.kept

pub returns-clause-list : goal.returns-clause-list
returns-clause-list c =
    let t0 = c.args.terms.now in
    let t1 = c.push_next.new.terms in
    let kept = c.in_ok-push_next.ensures.kept in
    on_ok_weaker c.push_on.result
    (λ list hs has σ columns. adds_on c.args.conditions.now.items c.push_next.new.conditions.items c.push_on.new.conditions.items t1 c.push_on.new.terms _ _
    (c.in_ok-push_next.ensures.list hs has σ columns) c.push_on.ensures.kept
    (list hs (formulas_later t0 t1 c.args.outcome.known.now hs has kept) σ (columns_later t0 t1 c.args.outcome.columns.now σ columns kept))) c.push_on.ensures.list
