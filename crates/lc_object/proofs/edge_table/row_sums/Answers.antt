use Rattle.std.proofs.Common.{◌≤◌, length, arith}
use Rattle.std.proofs.lemmas.Bool.Decides.{nat_tests}
use Rattle.lc_term.specs.View.{term_of}
use Rattle.lc_object.specs.View.{columns_of, terms_of}
use Rattle.lc_object.specs.Edges.{row_sums}
use Rattle.lc_object.proofs.EdgeRows.{sums_end}
use Rattle.lc_object.proofs.edge_table.row_sums.Goals as goal

pub returns-in_default : goal.returns-in_default
returns-in_default c =
    let test = c.in_default.ensures.lookup.0 in
    let past : length c.args.added.now ≤ c.loop-i.i = grind (arith, nat_tests) in
    sums_end c.args.columns.now (term_of c.args.index.now) c.args.added.now c.loop-i.i (terms_of c.loop-i.sums.items)
    (row_sums (columns_of c.args.columns.now) (term_of c.args.index.now) (terms_of c.args.added.now)) past c.loop-i.invariant
