use Rattle.std.proofs.Common.{sym, ◌∙◌}
use Rattle.lc_fill.proofs.Rows.{append_nil}
use Rattle.lc_fill.proofs.files.Filling.lacking.Goals as goal

pub returns : goal.returns
returns c = c.deref.ensures.value ∙ sym (append_nil c.args.self.now.row.lacking.items)
