use Rattle.std.proofs.Common.{suc, arith}
use Rattle.std.proofs.lemmas.Grind.{common_steps}
use Rattle.lc_term.specs.Counter.{HasCounted}
use Rattle.lc_term.specs.Replacement.{under_many}
use Rattle.lc_term.specs.View.{formulas_of}
use Rattle.lc_term.proofs.Each.{replace_all-formulas}
use Rattle.lc_term.proofs.Replaced.{Implies-replaced, Forall-replaced, Exists-replaced}
use Rattle.lc_term.proofs.replace.+replaced.Goals as goal

pub replaced-returns-in_ok-new-in-Implies-2 : goal.replaced-returns-in_ok-new-in-Implies-2
replaced-returns-in_ok-new-in-Implies-2 g t c = λ n counted.
    Implies-replaced _ n _ c.args.formula.now c.in-Implies.left c.in-Implies.right c.in_ok-new-in-Implies.field-0 c.in_ok-new-in-Implies-2.field-0 _ _ _ _ c.in-Implies.is
    c.deref-in-Implies.ensures c.deref-in-Implies-2.ensures c.in_ok-new-in-Implies.ensures.ok c.in_ok-new-in-Implies-2.ensures.ok
    (c.in_ok-replaced-in-Implies.ensures n counted) (c.in_ok-replaced-in-Implies-2.ensures n counted)

pub replaced-returns-in_ok-new-in-Forall : goal.replaced-returns-in_ok-new-in-Forall
replaced-returns-in_ok-new-in-Forall g t c = λ n counted.
    let next : HasCounted c.saturating_add.result (suc n) = omega arith in
    Forall-replaced _ n _ c.args.formula.now c.in-Forall.body c.in_ok-new-in-Forall.field-0 _ _ c.in-Forall.is c.deref-in-Forall.ensures c.in_ok-new-in-Forall.ensures.ok
    (c.in_ok-replaced-in-Forall.ensures (suc n) next)

pub replaced-returns-in_ok-new-in-Exists : goal.replaced-returns-in_ok-new-in-Exists
replaced-returns-in_ok-new-in-Exists g t c = λ n counted.
    let next : HasCounted c.saturating_add-in-Exists.result (suc n) = omega arith in
    Exists-replaced _ n _ c.args.formula.now c.in-Exists.body c.in_ok-new-in-Exists.field-0 _ _ c.in-Exists.is c.deref-in-Exists.ensures c.in_ok-new-in-Exists.ensures.ok
    (c.in_ok-replaced-in-Exists.ensures (suc n) next)

pub replaced_each-returns : goal.replaced_each-returns
replaced_each-returns g t c = λ n counted h.
    let r = under_many n (g.R.Replacing.replacement c.args.put.now) in
    let e = c.loop-part.invariant n counted h in
    grind (arith, common_steps, replace_all-formulas r (formulas_of c.args.parts.now))
