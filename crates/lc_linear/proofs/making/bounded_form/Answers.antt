use Rattle.std.proofs.lemmas.Option.{IfSome_then}
use Rattle.std.proofs.lemmas.Result.{IfOk-weaker}
use Rattle.lc_table.specs.Tables.{term_in}
use Rattle.lc_linear.proofs.Loads.{alone_form}
use Rattle.lc_linear.proofs.Weights.{HasForm-light}
use Rattle.lc_linear.proofs.making.bounded_form.Goals as goal

pub returns-then-not-is_light : goal.returns-then-not-is_light
returns-then-not-is_light c =
    IfOk-weaker c.shared_form.result _ _ (λ found h. IfSome_then found h (λ form at. alone_form c.args.terms.now c.args.term form at)) c.shared_form.ensures

pub returns-in-Ok : goal.returns-in-Ok
returns-in-Ok c = (HasForm-light c.weight.result c.is_light.result (term_in c.args.terms.now c.args.term) c.weight.ensures c.is_light.ensures c.if-not-is_light.false, c.in-Ok.ensures)
