use Rattle.std.proofs.Common.{◌≡◌, ℕ, IsTrue, ◌∙◌}
use Rattle.std.proofs.lemmas.Result.{IfOk-weaker}
use Rattle.lc_term.specs.Places.{term_passes}
use Rattle.lc_term.specs.Replacement.{replace_term}
use Rattle.lc_term.specs.View.{term_of}
use Rattle.lc_term.specs.declared.term.Term.{Term}
use Rattle.lc_action.specs.Telling.{telling, tellable, telling_under}
use Rattle.lc_action.proofs.Tellable.{term_tellable, outside_term}
use Rattle.lc_action.proofs.telling.said.Goals as goal

pub returns : goal.returns
returns c =
    let cs = c.args.before.columns.now in
    let ts = c.args.before.variables.now in
    let t = term_of c.args.term.now in
    IfOk-weaker c.said_term.result (λ (x : Term). (n : ℕ) → IsTrue (term_passes (tellable cs ts n) t) → term_of x ≡ replace_term (telling_under cs ts n) t)
    (λ (x : Term). term_of x ≡ replace_term (telling cs ts) t)
    (λ x is. is 0 (term_tellable cs ts t) ∙ outside_term cs ts t) c.said_term.ensures
