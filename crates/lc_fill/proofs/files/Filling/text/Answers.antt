use Rattle.std.proofs.Common.{sym, ap, ◌∙◌}
use Rattle.lc_sexp.specs.Printed.{printed}
use Rattle.lc_sexp.specs.Trees.{row}
use Rattle.lc_fill.proofs.Rows.{before_none}
use Rattle.lc_fill.proofs.files.Filling.text.Goals as goal

pub returns : goal.returns
returns c = let items = c.args.self.now.row.items.items in c.in_ok-text.ensures ∙ ap (λ xs. printed (row xs)) c.deref.ensures.value ∙ ap printed (sym (before_none items))
