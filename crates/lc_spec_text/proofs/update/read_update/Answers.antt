use Rattle.std.proofs.Common.{sym, subst}
use Rattle.lc_sexp.specs.Shown.{rest_of, number_of, owner_of}
use Rattle.lc_reading.proofs.Listed.{listed_reading-is}
use Rattle.lc_reading.specs.Parts.{tree_of, place_of}
use Rattle.lc_reading.specs.Readings.{mapped}
use Rattle.lc_reading.specs.Results.{IsReading}
use Rattle.lc_term.specs.UpdateView.{update_of}
use Rattle.lc_spec_text.specs.Branches.{the_update, update_parts_reading}
use Rattle.lc_spec_text.specs.ScopeView.{columns_view}
use Rattle.lc_spec_text.proofs.update.read_update.Goals as goal

pub returns-in-List : goal.returns-in-List
returns-in-List g c =
    let read = update_parts_reading (columns_view c.args.columns) (g.S.Scope.names c.args.scope.now) in
    let l = c.in-List.list in
    subst (λ r. IsReading update_of (mapped the_update r) c.made_update.result)
    (sym (listed_reading-is read (place_of c.args.part) (tree_of c.args.part) l c.in-List.ensures.tree c.in-List.ensures.number c.in-List.ensures.placed))
    (c.made_update.ensures (read (owner_of l) (number_of l) (rest_of l)) c.read_update_parts.ensures)
