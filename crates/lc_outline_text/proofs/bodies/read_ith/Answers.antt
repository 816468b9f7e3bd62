use Rattle.std.proofs.Common.{◌++◌, ◌∙◌, Some, sym, ap, subst}
use Rattle.std.specs.Prelude.{slice_get}
use Rattle.lc_object_text.specs.DeclaredView.{body_view}
use Rattle.lc_reading.specs.Parts.{tree_of, place_of}
use Rattle.lc_reading.specs.Results.{IsReading}
use Rattle.lc_reading.specs.TableView.{listed}
use Rattle.lc_rider_text.specs.Known.{Known}
use Rattle.lc_rider_text.specs.KnownView.{known_view, columns_listed, others_listed, ways_there}
use Rattle.lc_outline_text.proofs.PlacedReads.{due_at}
use Rattle.lc_outline_text.specs.DeclarationsView.{declarations_view}
use Rattle.lc_outline_text.specs.Views.{body_outlined}
use Rattle.lc_outline_text.proofs.bodies.read_ith.Goals as goal

pub returns : goal.returns
returns c =
    let d = declarations_view c.args.declarations.now in
    let body = c.in-Some.body.now in
    let known = c.in_ok-known.known in
    let same = due_at d (slice_get d.declared.bodies c.args.place) (body_view body) (known_view known) (columns_listed known.columns) (others_listed c.in_ok-of_body.field-0) (ways_there c.own_ways.result) c.args.place
    (place_of c.args.part) (tree_of c.args.part) c.in-Some.ensures c.in_ok-known.ensures (ap (λ (k : Known). k.columns) c.in_ok-known.ensures) (c.in_ok-of_body.ensures ∙ ap (λ names. Some (names ++ listed body.locals)) (ap listed c.deref.ensures ∙ body.shared)) c.own_ways.ensures in
    subst (λ x. IsReading body_outlined x c.read_body.result) (sym same) c.read_body.ensures
