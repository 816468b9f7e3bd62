use Rattle.std.proofs.Common.{◌≡◌, ℕ, IsTrue, sym, ◌∙◌, map}
use Rattle.std.proofs.lemmas.Result.{IfOk-weaker}
use Rattle.lc_term.specs.Said.{term_at}
use Rattle.lc_term.specs.View.{term_of}
use Rattle.lc_term.specs.declared.term.Term.{Term}
use Rattle.lc_action.specs.Telling.{tellable, telling_under}
use Rattle.lc_action.proofs.Tellable.{variable_put}
use Rattle.lc_action.proofs.telling.variable_told.Goals as goal

pub returns : goal.returns
returns c =
    let cs = c.args.before.columns.now in
    let ts = c.args.before.variables.now in
    IfOk-weaker c.variable_at.result (λ (x : Term). term_of x ≡ term_at (map term_of ts) c.args.number)
    (λ (x : Term). (n : ℕ) → IsTrue ((tellable cs ts n).variables c.args.number) → term_of x ≡ (telling_under cs ts n).variables c.args.number)
    (λ x is n h. is ∙ sym (variable_put cs ts n c.args.number h)) c.variable_at.ensures
