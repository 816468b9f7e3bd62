use Rattle.std.proofs.Common.{map, ap, ◌∙◌}
use Rattle.std.proofs.lemmas.Result.{IfOk-weaker}
use Rattle.lc_term.specs.View.{term_of}
use Rattle.lc_cond.proofs.Adding.{terms_entered}
use Rattle.lc_cond.proofs.scene.entered_variables.Goals as goal

pub returns-clause-list : goal.returns-clause-list
returns-clause-list c =
    terms_entered c.enter_terms.result c.enter_terms.new.table _ c.enter_terms.ensures.are
    (IfOk-weaker c.enter_terms.result _ _ (λ ks e. e ∙ ap (map term_of) c.deref.ensures.value ∙ c.in_ok-variables.ensures) c.enter_terms.ensures.trees)
