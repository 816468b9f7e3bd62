use Rattle.std.proofs.Common.{◌++◌, ap, ◌∙◌}
use Rattle.std.proofs.lemmas.Result.{IfOk-weaker}
use Rattle.lc_cond.proofs.Adding.{formulas_behind}
use Rattle.lc_cond.proofs.entering.entered_behind.Goals as goal

pub returns-clause-list : goal.returns-clause-list
returns-clause-list c =
    IfOk-weaker c.joined.result _ _
    (λ ks joins fs has. formulas_behind c.args.terms.now c.entered.new.terms c.args.first.now c.in_ok-second.second.items ks.items fs _ has c.in_ok-second.ensures.kept c.in_ok-second.ensures.list
    (joins ∙ ap (λ l. c.args.first.now ++ l) c.deref.ensures.value)) c.joined.ensures
