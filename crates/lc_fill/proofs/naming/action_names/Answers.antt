use Rattle.lc_sexp.specs.Shown.{rest_of}
use Rattle.lc_reading.specs.Parts.{tree_of}
use Rattle.lc_reading.specs.TableView.{listed}
use Rattle.lc_fill.proofs.Names.{one_more, none_more}
use Rattle.lc_fill.proofs.naming.action_names.Goals as goal

pub returns-in_default : goal.returns-in_default
returns-in_default c = none_more (listed c.items.names) (rest_of c.items.rest) _ c.in_default.ensures.1 c.items.invariant

pub items-preserved : goal.items-preserved
items-preserved c =
    let (at, behind) = c.in-Ok.ensures in
    one_more (listed c.items.names) (listed c.in_ok-names.names) (tree_of c.in-Ok.part) (rest_of c.items.rest) (rest_of c.next_part.new.list) _ behind.rest c.in_ok-names.ensures c.items.invariant
