use Rattle.std.proofs.Common.{option_and_then, ap, ◌∙◌}
use Rattle.serde_json.specs.Read.{number_of}
use Rattle.lc_hist.proofs.JsonFound.{data_has_value, number_said}
use Rattle.lc_hist.specs.JsonItems.{data_at}
use Rattle.lc_hist.proofs.document.Item.as_number.Goals as goal

pub returns-in_err-as_number : goal.returns-in_err-as_number
returns-in_err-as_number c =
    let f = data_has_value c.self.inside.element c.self.invariant in
    let said = number_said f.0 (data_at c.self.inside.element) f.2 in
    rw (c.from_residual.ensures, ← c.self.view_is, said) (ap (option_and_then number_of) (c.in_err-as_number.ensures f.0 f.1))

pub returns : goal.returns
returns c =
    let f = data_has_value c.self.inside.element c.self.invariant in
    let said = number_said f.0 (data_at c.self.inside.element) f.2 in
    rw (← c.self.view_is, said) (c.number.ensures ∙ ap (option_and_then number_of) (c.in_ok-as_number.ensures f.0 f.1))
