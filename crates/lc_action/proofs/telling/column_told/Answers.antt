use Rattle.std.proofs.Common.{◌≡◌, ℕ, IsTrue, sym, ◌∙◌}
use Rattle.std.proofs.lemmas.Result.{IfOk-weaker}
use Rattle.lc_term.specs.View.{column_of}
use Rattle.lc_term.specs.declared.term.ColExpr.{ColExpr}
use Rattle.lc_action.specs.Telling.{columns_in, tellable, telling_under}
use Rattle.lc_action.proofs.Tellable.{column_put}
use Rattle.lc_action.proofs.telling.column_told.Goals as goal

pub returns : goal.returns
returns c =
    let cs = c.args.before.columns.now in
    let ts = c.args.before.variables.now in
    IfOk-weaker c.column_after.result (λ (x : ColExpr). column_of x ≡ columns_in cs c.args.column.0)
    (λ (x : ColExpr). (n : ℕ) → IsTrue ((tellable cs ts n).columns c.args.column.0) → column_of x ≡ (telling_under cs ts n).columns c.args.column.0)
    (λ x is n h. is ∙ sym (column_put cs ts n c.args.column.0 h)) c.column_after.ensures
