use Rattle.std.proofs.Common.{sym, ◌∙◌}
use Rattle.lc_hist.proofs.JsonFound.{data_has_value, text_said}
use Rattle.lc_hist.specs.JsonItems.{data_at}
use Rattle.lc_hist.proofs.document.Item.as_str.Goals as goal

pub returns : goal.returns
returns c =
    let f = data_has_value c.self.inside.element c.self.invariant in
    rw (← c.self.view_is) (c.as_str.ensures f.0 f.1 ∙ sym (text_said f.0 (data_at c.self.inside.element) f.2))
