use Rattle.std.proofs.Common.{sym, ap, ◌∙◌, subst}
use Rattle.std.specs.Prelude.{nat_lt}
use Rattle.lc_base.specs.Limits.{path_limit}
use Rattle.lc_sexp.specs.Shown.{rest_of, number_of}
use Rattle.lc_outline.specs.PartsView.{on_of}
use Rattle.lc_reading.proofs.Listed.{limited_at}
use Rattle.lc_reading.specs.Parts.{tree_of, place_of}
use Rattle.lc_reading.specs.Results.{IsReading}
use Rattle.lc_rider_text.proofs.Capped.{over_cap}
use Rattle.lc_rider_text.proofs.Parts.{on_found}
use Rattle.lc_rider_text.specs.Edges.{is_refused}
use Rattle.lc_rider_text.specs.KnownView.{known_view, ways_there}
use Rattle.lc_rider_text.specs.Ons.{step_reading}
use Rattle.lc_rider_text.specs.Paths.{path_count}
use Rattle.lc_rider_text.specs.Riders.{riders_reading}
use Rattle.lc_rider_text.proofs.on.read_on_parts.Goals as goal

pub returns : goal.returns
returns g c =
    let known = known_view c.args.known in
    let names = g.S.Scope.names c.args.scope.now in
    let own = ways_there c.args.own in
    let t = c.in_ok-edge.edge in
    let u = c.in_ok-call.call in
    let rest = c.next_part-2.new.list in
    let due = sym (c.is_refused.ensures ∙ ap (is_refused c.args.edges) c.edge_of.ensures) ∙ c.if-is_refused.false in
    let many = ap (nat_lt path_limit) c.path_count.ensures ∙ over_cap (path_count known own (rest_of rest)) in
    subst (λ r. IsReading on_of r c.limited.result)
    (sym (on_found known names own c.args.edges c.args.list c.next_part.new.list rest t u c.in_ok-edge.ensures c.in_ok-call.ensures due))
    (limited_at on_of _ _ c.owner-2.result _ _ c.made_on-on.result c.limited.result
    (c.made_on-on.ensures (step_reading known names (place_of t) (tree_of t) (place_of u) (tree_of u)) (riders_reading known names own (number_of rest) (rest_of rest))
    c.read_step-step.ensures c.read_riders-riders.ensures)
    c.limited.ensures many c.owner-2.ensures)
