use Rattle.std.proofs.Common.{◌≤◌, length, map, arith}
use Rattle.std.proofs.lemmas.Bool.Decides.{nat_tests}
use Rattle.lc_term.specs.View.{term_of}
use Rattle.lc_object.specs.View.{columns_of, terms_of}
use Rattle.lc_object.specs.Edges.{row_updates}
use Rattle.lc_object.specs.EdgeView.{update_of}
use Rattle.lc_object.proofs.EdgeRows.{updates_end}
use Rattle.lc_object.proofs.edge_table.row_updates.Goals as goal

pub returns-in_default : goal.returns-in_default
returns-in_default c =
    let test = c.in_default.ensures.lookup.0 in
    let past : length c.args.values.now ≤ c.loop-i.i = grind (arith, nat_tests) in
    updates_end c.args.columns.now (term_of c.args.index.now) c.args.values.now c.loop-i.i (map update_of c.loop-i.updates.items)
    (row_updates (columns_of c.args.columns.now) (term_of c.args.index.now) (terms_of c.args.values.now)) past c.loop-i.invariant
