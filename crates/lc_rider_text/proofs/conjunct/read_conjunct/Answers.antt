use Rattle.std.proofs.Common.{sym, subst}
use Rattle.lc_sexp.specs.Shown.{rest_of, number_of, owner_of}
use Rattle.lc_reading.proofs.Listed.{listed_reading-is}
use Rattle.lc_reading.specs.Parts.{tree_of, place_of}
use Rattle.lc_reading.specs.Readings.{mapped}
use Rattle.lc_reading.specs.Results.{IsReading}
use Rattle.lc_tie.specs.TieView.{conjunct_of}
use Rattle.lc_rider_text.specs.Conjuncts.{the_conjunct, conjunct_parts_reading}
use Rattle.lc_rider_text.proofs.conjunct.read_conjunct.Goals as goal

pub returns-in-List : goal.returns-in-List
returns-in-List g c =
    let read = conjunct_parts_reading (g.S.Scope.names c.args.scope.now) in
    let l = c.in-List.list in
    subst (λ r. IsReading conjunct_of (mapped the_conjunct r) c.made_conjunct.result)
    (sym (listed_reading-is read (place_of c.args.part) (tree_of c.args.part) l c.in-List.ensures.tree c.in-List.ensures.number c.in-List.ensures.placed))
    (c.made_conjunct.ensures (read (owner_of l) (number_of l) (rest_of l)) c.read_conjunct_parts.ensures)
