use Rattle.std.proofs.Common.{Some, sym, subst}
use Rattle.std.proofs.lemmas.Result.{on_ok_weaker}
use Rattle.lc_put.specs.PutNumbers.{AreTerms}
use Rattle.lc_outline.specs.Development.{first_system}
use Rattle.lc_cond.specs.Adding.{Adds}
use Rattle.lc_cond.specs.Conditions.{reply_goals}
use Rattle.lc_cond.specs.Heads.{MakesOne}
use Rattle.lc_cond.specs.Scenes.{IsReply, development_in, code_in}
use Rattle.lc_cond.specs.declared.condition.Which.TheVariants.{Alone}
use Rattle.lc_cond.proofs.Adding.{formulas_later, terms_listed}
use Rattle.lc_cond.proofs.Scening.{reply_said}
use Rattle.lc_cond.proofs.edge_conditions.push_reply.Goals as goal

pub put_in_formula-requires-clause-variables : goal.put_in_formula-requires-clause-variables
put_in_formula-requires-clause-variables c = subst (AreTerms c.args.terms.now) (sym c.deref.ensures.value) c.requires.scene.variables.are

pub put_in_formula-requires-clause-done : goal.put_in_formula-requires-clause-done
put_in_formula-requires-clause-done c = c.nothing_replaced-done.ensures _ _

pub returns-clause-list : goal.returns-clause-list
returns-clause-list c =
    let s = c.args.outcome.scene.now in
    let t0 = c.args.terms.now in
    let t1 = c.put_in_formula.new.table in
    let goals = reply_goals (first_system (development_in s)) (code_in s) in
    let reply : IsReply t0 (Some c.in-Some.reply) goals = subst (λ k. IsReply t0 k goals) c.in-Some.is c.requires.scene.reply in
    let variables = terms_listed t0 s.variables.items c.deref.result.now _ c.requires.scene.variables c.deref.ensures.value in
    on_ok_weaker c.push_one.result
    (λ made hs has σ columns. subst (Adds c.args.conditions.now.items t1 c.push_one.new.conditions.items)
    (reply_said s t0 c.args.outcome.number hs σ c.args.outcome.columns.now c.deref.result.now c.in-Some.reply goals columns variables reply)
    (subst (λ h. MakesOne h Alone c.args.outcome.known.now c.in_ok-goal.goal c.args.conditions.now.items c.push_one.new.conditions.items) c.on_path-head.ensures made
    t1 hs _ (formulas_later t0 t1 c.args.outcome.known.now hs has c.in_ok-goal.ensures.kept) c.in_ok-goal.ensures.id)) c.push_one.ensures
