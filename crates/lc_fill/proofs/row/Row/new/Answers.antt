use Rattle.lc_fill.proofs.Rows.{made_nothing}
use Rattle.lc_fill.proofs.row.Row.new.Goals as goal

pub returns : goal.returns
returns c = λ r. made_nothing c.new.result.items c.new-2.result.items c.new-3.result.items r c.new.ensures.items c.new-2.ensures.items c.new-3.ensures.items
