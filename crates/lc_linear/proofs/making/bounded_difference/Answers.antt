use Rattle.std.proofs.lemmas.Option.{IfSome_then}
use Rattle.std.proofs.lemmas.Result.{IfOk-weaker}
use Rattle.lc_term.specs.Syntax as S
use Rattle.lc_table.specs.Tables.{term_in}
use Rattle.lc_linear.proofs.Loads.{difference_form}
use Rattle.lc_linear.proofs.Weights.{HasForm-light}
use Rattle.lc_linear.proofs.making.bounded_difference.Goals as goal

pub returns-then-not-is_light : goal.returns-then-not-is_light
returns-then-not-is_light c =
    IfOk-weaker c.shared_form.result _ _ (λ found h. IfSome_then found h (λ form at. difference_form c.args.terms.now c.args.left c.args.right form at)) c.shared_form.ensures

pub returns-in-Ok : goal.returns-in-Ok
returns-in-Ok c =
    let t = S.Subtract (term_in c.args.terms.now c.args.left) (term_in c.args.terms.now c.args.right) in
    (HasForm-light c.difference_weight.result c.is_light.result t c.difference_weight.ensures c.is_light.ensures c.if-not-is_light.false, c.in-Ok.ensures)
