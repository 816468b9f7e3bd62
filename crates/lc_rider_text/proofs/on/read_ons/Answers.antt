use Rattle.std.proofs.Common.{ap, ◌∙◌}
use Rattle.lc_sexp.specs.Shown.{number_of}
use Rattle.lc_outline.specs.PartsView.{on_of}
use Rattle.lc_reading.proofs.SoFar.{so_far_push, each_end}
use Rattle.lc_object_text.specs.Rows.{cons}
use Rattle.lc_rider_text.specs.Edges.{without}
use Rattle.lc_rider_text.specs.KnownView.{known_view, ways_there}
use Rattle.lc_rider_text.specs.Ons.{ons_reading}
use Rattle.lc_rider_text.proofs.Parts.{ons_more}
use Rattle.lc_rider_text.proofs.on.read_ons.Goals as goal

pub returns-in_default : goal.returns-in_default
returns-in_default g c =
    each_end on_of _ _ c.ons.ons
    (ap (ons_reading (known_view c.args.known) (g.S.Scope.names c.args.scope.now) (ways_there c.args.own) c.ons.left (number_of c.ons.rest)) c.in_default.ensures.1) c.ons.invariant

pub ons-preserved : goal.ons-preserved
ons-preserved g c =
    let (at, next) = c.in-Ok.ensures in
    let others = c.without-left.ensures ∙ ap (without c.ons.left) c.edge_in.ensures in
    let left = ons_more (known_view c.args.known) (g.S.Scope.names c.args.scope.now) (ways_there c.args.own) c.ons.left c.without-left.result c.ons.rest c.next_part.new.list c.in-Ok.part at next others in
    so_far_push on_of cons _ _ _ c.ons.ons c.read_on-on.result c.pushed-ons.result (rw left at c.ons.invariant) c.read_on-on.ensures c.pushed-ons.ensures
