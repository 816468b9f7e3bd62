use Rattle.std.proofs.Common.{◌≡◌, ℕ, IsTrue, ◌∙◌}
use Rattle.std.proofs.lemmas.Result.{IfOk-weaker}
use Rattle.lc_term.specs.Places.{passes}
use Rattle.lc_term.specs.Replacement.{replace}
use Rattle.lc_term.specs.View.{formula_of}
use Rattle.lc_term.specs.declared.formula.Formula.{Formula}
use Rattle.lc_action.specs.Telling.{telling, tellable, telling_under}
use Rattle.lc_action.proofs.Tellable.{outside_formula}
use Rattle.lc_action.proofs.telling.told.Goals as goal

pub returns : goal.returns
returns c =
    let cs = c.args.before.columns.now in
    let ts = c.args.before.variables.now in
    let f = formula_of c.args.formula.now in
    IfOk-weaker c.said_formula.result (λ (x : Formula). (n : ℕ) → IsTrue (passes (tellable cs ts) n f) → formula_of x ≡ replace (telling_under cs ts n) f)
    (λ (x : Formula). formula_of x ≡ replace (telling cs ts) f)
    (λ x is. is 0 c.requires ∙ outside_formula cs ts f) c.said_formula.ensures
