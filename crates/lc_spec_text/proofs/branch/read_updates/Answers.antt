use Rattle.std.proofs.Common.{sym, subst}
use Rattle.lc_reading.proofs.Listed.{listed_reading-is}
use Rattle.lc_reading.specs.Parts.{tree_of, place_of}
use Rattle.lc_reading.specs.Results.{IsReading}
use Rattle.lc_reading.specs.Rows.{each_reading}
use Rattle.lc_spec_text.specs.Branches.{update_reading}
use Rattle.lc_spec_text.specs.ScopeView.{columns_view}
use Rattle.lc_spec_text.specs.Seen.{updates_of}
use Rattle.lc_spec_text.proofs.branch.read_updates.Goals as goal

pub returns-in-List : goal.returns-in-List
returns-in-List g c =
    let read = update_reading (columns_view c.args.columns) (g.S.Scope.names c.args.scope.now) in
    subst (λ r. IsReading updates_of r c.read_each.result)
    (sym (listed_reading-is (λ n. each_reading read) (place_of c.args.part) (tree_of c.args.part) c.in-List.list c.in-List.ensures.tree c.in-List.ensures.number c.in-List.ensures.placed))
    c.read_each.ensures
