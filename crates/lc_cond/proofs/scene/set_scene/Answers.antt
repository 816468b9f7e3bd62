use Rattle.std.proofs.Common.{ap, subst, refl}
use Rattle.lc_table.proofs.Later.{kept_on}
use Rattle.lc_object.specs.EdgeView.{edge_of}
use Rattle.lc_outline.specs.Development.{invariant_of}
use Rattle.lc_cond.specs.Adding.{HasFormulas}
use Rattle.lc_cond.specs.Conditions.{reply_goals}
use Rattle.lc_cond.specs.Scenes.{IsReply}
use Rattle.lc_cond.proofs.Adding.{formulas_later, formulas_listed, terms_later}
use Rattle.lc_cond.proofs.Scening.{reply_later}
use Rattle.lc_cond.proofs.scene.set_scene.Goals as goal

pub edge_hypotheses-requires : goal.edge_hypotheses-requires
edge_hypotheses-requires c =
    let t0 = c.entered_invariant.new.terms in
    let t1 = c.entered_variables.new.terms in
    let ks = c.in_ok-invariant.invariant.items in
    let invariant = subst (HasFormulas t0 ks) (ap (λ d. invariant_of d) c.parts.ensures.shown) c.in_ok-invariant.ensures.list in
    formulas_listed t1 ks c.deref.result.now _ (formulas_later t0 t1 ks _ invariant c.in_ok-variables.ensures.kept) c.deref.ensures.value

pub returns-clause-scene : goal.returns-clause-scene
returns-clause-scene c =
    let t0 = c.entered_invariant.new.terms in
    let t1 = c.entered_variables.new.terms in
    let t2 = c.edge_hypotheses.new.terms in
    let t3 = c.entered.new.terms in
    let t4 = c.entered_reply.new.terms in
    let t5 = c.entered_on.new.terms in
    let kept45 = c.in_ok-acting.ensures.kept in
    let kept35 = kept_on t3 t4 t5 c.in_ok-reply.ensures.kept kept45 in
    let kept25 = kept_on t2 t3 t5 c.in_ok-next.ensures.kept kept35 in
    let kept15 = kept_on t1 t2 t5 c.in_ok-hypotheses.ensures.kept kept25 in
    let kept05 = kept_on t0 t1 t5 c.in_ok-variables.ensures.kept kept15 in
    let ks = c.in_ok-invariant.invariant.items in
    let invariant = subst (HasFormulas t0 ks) (ap (λ d. invariant_of d) c.parts.ensures.shown) c.in_ok-invariant.ensures.list in
    let next = subst (HasFormulas t3 c.in_ok-next.next.items) c.asserts_to.ensures c.in_ok-next.ensures.list in
    let known = formulas_later t2 t5 c.in_ok-hypotheses.hypotheses.items _ c.in_ok-hypotheses.ensures.list kept25 in
    let reply = subst (λ n. IsReply t4 c.in_ok-reply.reply (reply_goals n (edge_of c.args.code.now))) c.system_columns-system.ensures c.in_ok-reply.ensures.reply in
    record {
      development = refl;
      code = refl;
      on = c.on_at-on.ensures;
      count = c.variable_count-count.ensures;
      known = known.trees;
      stands = record {
        system = c.system_columns-system.ensures;
        variables = terms_later t1 t5 c.in_ok-variables.variables.items _ c.in_ok-variables.ensures.list kept15;
        hypotheses = known.are;
        invariant = formulas_later t0 t5 ks _ invariant kept05;
        next = formulas_later t3 t5 c.in_ok-next.next.items _ next kept35;
        reply = reply_later t4 t5 c.in_ok-reply.reply _ reply kept45;
        acting = c.in_ok-acting.ensures.acting;
      };
    }
