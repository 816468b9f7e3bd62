use Rattle.std.proofs.Common.{suc, arith}
use Rattle.std.proofs.lemmas.Grind.{common_steps}
use Rattle.lc_term.specs.View.{formulas_of}
use Rattle.lc_term.proofs.Each.{replace_all-formulas}
use Rattle.lc_term.proofs.Replaced.{Implies-replaced, Forall-replaced, Exists-replaced}
use Rattle.lc_action.specs.Telling.{tellable, telling_under}
use Rattle.lc_action.proofs.telling.+said_formula.Goals as goal

pub said_formula-returns-in_ok-new-in-Implies-2 : goal.said_formula-returns-in_ok-new-in-Implies-2
said_formula-returns-in_ok-new-in-Implies-2 t c = λ n.
    Implies-replaced _ n _ c.args.formula.now c.in-Implies.left c.in-Implies.right c.in_ok-new-in-Implies.field-0 c.in_ok-new-in-Implies-2.field-0 _ _ _ _ c.in-Implies.is
    c.deref-in-Implies.ensures c.deref-in-Implies-2.ensures c.in_ok-new-in-Implies.ensures.ok c.in_ok-new-in-Implies-2.ensures.ok
    (c.in_ok-said_formula-in-Implies.ensures n) (c.in_ok-said_formula-in-Implies-2.ensures n)

pub said_formulas-returns : goal.said_formulas-returns
said_formulas-returns t c = λ n h.
    let r = telling_under c.args.before.columns.now c.args.before.variables.now n in
    let e = c.loop-part.invariant n h in
    grind (arith, common_steps, replace_all-formulas r (formulas_of c.args.parts.now))

pub said_formula-returns-in_ok-new-in-Forall : goal.said_formula-returns-in_ok-new-in-Forall
unfolding telling_under
said_formula-returns-in_ok-new-in-Forall t c = λ n.
    Forall-replaced (tellable c.args.before.columns.now c.args.before.variables.now) n (telling_under c.args.before.columns.now c.args.before.variables.now n)
    c.args.formula.now c.in-Forall.body c.in_ok-new-in-Forall.field-0 _ _ c.in-Forall.is c.deref-in-Forall.ensures c.in_ok-new-in-Forall.ensures.ok
    (c.in_ok-said_formula-in-Forall.ensures (suc n))

pub said_formula-returns-in_ok-new-in-Exists : goal.said_formula-returns-in_ok-new-in-Exists
unfolding telling_under
said_formula-returns-in_ok-new-in-Exists t c = λ n.
    Exists-replaced (tellable c.args.before.columns.now c.args.before.variables.now) n (telling_under c.args.before.columns.now c.args.before.variables.now n)
    c.args.formula.now c.in-Exists.body c.in_ok-new-in-Exists.field-0 _ _ c.in-Exists.is c.deref-in-Exists.ensures c.in_ok-new-in-Exists.ensures.ok
    (c.in_ok-said_formula-in-Exists.ensures (suc n))
