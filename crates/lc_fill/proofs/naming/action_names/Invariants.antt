use Rattle.std.proofs.Common.{◌≡◌, ◌++◌}
use Rattle.lc_sexp.specs.Trees.{item_count_of_all}
use Rattle.lc_sexp.specs.Shown.{rest_of}
use Rattle.lc_reading.specs.Rows.{all_declared}
use Rattle.lc_reading.specs.TableView.{listed}
use Rattle.lc_fill.specs.Acts.{action_name}
use Rattle.lc_fill.proofs.naming.action_names.Given as goal

abbrev pub invariant-items : goal.invariant-items
invariant-items l = listed l.names ++ all_declared action_name (rest_of l.rest) ≡ all_declared action_name (rest_of l.fn.parts)

abbrev pub decreases-items : goal.decreases-items
decreases-items l = item_count_of_all (rest_of l.rest)
