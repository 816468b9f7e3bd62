use Rattle.std.proofs.Common.{refl}
use Rattle.lc_hist.specs.JsonItems.{data_at}
use Rattle.lc_hist.proofs.JsonFound.{data_has_value, items_said, array_at, ArrayAt}
use Rattle.lc_hist.proofs.document.Item.items.Goals.{In_ok-items}
use Rattle.lc_hist.proofs.document.Item.items.Goals as goal

pub returns-in_err-items : goal.returns-in_err-items
returns-in_err-items c =
    let f = data_has_value c.self.inside.element c.self.invariant in
    let said = items_said f.0 (data_at c.self.inside.element) f.2 in
    rw (c.from_residual.ensures, ← c.self.view_is, said, c.in_err-items.ensures f.0 f.1) refl

inside : (c : In_ok-items) → ArrayAt c.self.inside.element c.in_ok-items.field-0
inside c = array_at c.self.inside.element c.in_ok-items.field-0 c.self.invariant c.in_ok-items.ensures

pub invariant_of-result : goal.invariant_of-result
invariant_of-result c = (inside c).0

pub returns : goal.returns
returns c = rw (← c.self.view_is) (inside c).1
