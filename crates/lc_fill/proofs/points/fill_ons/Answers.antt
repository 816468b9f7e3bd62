use Rattle.std.proofs.Common.{sym, ap, ◌∙◌}
use Rattle.std.specs.Prelude.{codes}
use Rattle.lc_sexp.specs.Shown.{rest_of, number_of}
use Rattle.lc_reading.specs.Parts.{tree_of, place_of}
use Rattle.lc_fill.specs.Filled.{each}
use Rattle.lc_fill.specs.Points.{on_filled, closed}
use Rattle.lc_fill.specs.Seen.{acts_view, onto}
use Rattle.lc_fill.proofs.Filled.{each-pushed}
use Rattle.lc_fill.proofs.points.fill_ons.Goals as goal

pub returns-in_default : goal.returns-in_default
returns-in_default c =
    let a = acts_view c.args.acts.now in
    c.in_ok-close.ensures ∙ ap (λ n. onto c.items.row (closed a c.args.edge n)) c.number-place.ensures ∙ ap (λ ts. onto c.items.row (each (on_filled a) (closed a c.args.edge) (number_of c.items.rest) ts)) (sym c.in_default.ensures.1) ∙ c.items.invariant

pub items-preserved : goal.items-preserved
items-preserved c =
    let a = acts_view c.args.acts.now in
    let (at, behind) = c.in-Ok.ensures in
    each-pushed (on_filled a) (closed a c.args.edge) c.in-Ok.part c.items.rest c.next_part.new.list c.in_ok-on.on c.items.row c.items.row c.push.new.self _
    at behind c.in_ok-on.ensures c.in_ok-push.ensures c.items.invariant
