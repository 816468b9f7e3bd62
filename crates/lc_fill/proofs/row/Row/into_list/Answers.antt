use Rattle.std.proofs.Common.{ap, ◌∙◌}
use Rattle.lc_sexp.specs.Trees.{list, row as rows}
use Rattle.lc_fill.proofs.Rows.{listed}
use Rattle.lc_fill.proofs.row.Row.into_list.Goals as goal

pub returns : goal.returns
returns c =
    let row = c.args.self in
    listed c.in_ok-whole.whole row.items.items row.gaps.items row.lacking.items (c.in_ok-whole.ensures ∙ ap (λ xs. list (rows xs)) c.deref.ensures.value)
