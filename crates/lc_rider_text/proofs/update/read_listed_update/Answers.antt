use Rattle.std.proofs.Common.{sym, subst}
use Rattle.lc_reading.proofs.Listed.{listed_reading-is}
use Rattle.lc_reading.specs.Parts.{tree_of, place_of}
use Rattle.lc_reading.specs.Results.{IsReading}
use Rattle.lc_term.specs.UpdateView.{update_of}
use Rattle.lc_rider_text.specs.KnownView.{known_view}
use Rattle.lc_rider_text.specs.Updates.{update_reading}
use Rattle.lc_rider_text.specs.declared.update.Stores.TheVariants.{InAll}
use Rattle.lc_rider_text.proofs.update.read_listed_update.Goals as goal

pub returns-in-List : goal.returns-in-List
returns-in-List g c =
    let read = update_reading InAll (known_view c.args.known) (g.S.Scope.names c.args.scope.now) in
    subst (λ r. IsReading update_of r c.read_update.result)
    (sym (listed_reading-is read (place_of c.args.part) (tree_of c.args.part) c.in-List.list c.in-List.ensures.tree c.in-List.ensures.number c.in-List.ensures.placed))
    c.read_update.ensures
