use Rattle.std.proofs.Common.{Some, subst}
use Rattle.std.proofs.lemmas.Result.{on_ok_weaker}
use Rattle.lc_cond.specs.Adding.{Adds}
use Rattle.lc_cond.specs.Scenes.{IsActing, acting_on, development_in, code_in, on_in}
use Rattle.lc_cond.proofs.Scening.{on_some}
use Rattle.lc_cond.proofs.matching.push_on.Goals as goal

pub returns-clause-list : goal.returns-clause-list
returns-clause-list c =
    let s = c.args.outcome.scene.now in
    let t0 = c.args.terms.now in
    let on = acting_on (development_in s) (on_in s) in
    let acting : IsActing t0 (Some c.in-Some.acting) on = subst (λ k. IsActing t0 k on) c.in-Some.is c.requires.scene.acting in
    on_ok_weaker c.push_action.result
    (λ list hs has σ columns. subst (Adds c.args.conditions.now.items c.push_action.new.terms c.push_action.new.conditions.items)
    (on_some (development_in s) (code_in s) s.count c.args.outcome.number hs σ (on_in s) acting.0 acting.1)
    (list acting.0.0 acting.0.1 acting.2 acting.3 hs has σ columns)) c.push_action.ensures.list
