use Rattle.std.proofs.Common.{sym, ap, ◌∙◌}
use Rattle.std.specs.Prelude.{codes}
use Rattle.lc_sexp.specs.Shown.{rest_of, number_of}
use Rattle.lc_reading.specs.Parts.{tree_of, place_of}
use Rattle.lc_fill.specs.Filled.{past, each, ended}
use Rattle.lc_fill.specs.Points.{point_filled}
use Rattle.lc_fill.specs.Seen.{acts_view}
use Rattle.lc_fill.proofs.Filled.{list_filled, passed, stopped}
use Rattle.lc_fill.proofs.Lists.{in_form-other}
use Rattle.lc_fill.proofs.files.fill_body.Goals as goal

pub returns-in_default : goal.returns-in_default
returns-in_default c =
    let points = each (point_filled (acts_view c.args.acts.now)) ended in
    c.in_ok-same.ensures ∙ sym (in_form-other (codes "body") (past (past points)) (place_of c.args.part) (tree_of c.args.part) c.in_default.ensures.1)

pub returns-then-not-more : goal.returns-then-not-more
returns-then-not-more c =
    let points = each (point_filled (acts_view c.args.acts.now)) ended in
    let behind = c.keep_next.new.self in
    c.in_ok-bare.ensures
    ∙ list_filled (codes "body") (past (past points)) c.args.part c.in-Ok.rest c.in_ok-row.row behind c.in-Ok.ensures c.in_ok-row.ensures
    (stopped (past points) c.in_ok-more.more c.in-Ok.rest c.keep_next.new.rest c.in_ok-row.row behind c.if-not-more.true c.in_ok-more.ensures)

pub returns-then-not-locals : goal.returns-then-not-locals
returns-then-not-locals c =
    let points = each (point_filled (acts_view c.args.acts.now)) ended in
    let named = c.keep_next.new.self in
    let behind = c.keep_next-2.new.self in
    c.in_ok-named.ensures
    ∙ list_filled (codes "body") (past (past points)) c.args.part c.in-Ok.rest c.in_ok-row.row behind c.in-Ok.ensures c.in_ok-row.ensures
    (passed (past points) c.in_ok-more.more c.in-Ok.rest c.keep_next.new.rest c.in_ok-row.row named behind c.if-not-more.false c.in_ok-more.ensures
    (stopped points c.in_ok-locals.locals c.keep_next.new.rest c.keep_next-2.new.rest named behind c.if-not-locals.true c.in_ok-locals.ensures))

pub returns : goal.returns
returns c =
    let points = each (point_filled (acts_view c.args.acts.now)) ended in
    let named = c.keep_next.new.self in
    let behind = c.keep_next-2.new.self in
    let end = c.fill_points.new.row in
    c.in_ok-list.ensures
    ∙ list_filled (codes "body") (past (past points)) c.args.part c.in-Ok.rest c.in_ok-row.row end c.in-Ok.ensures c.in_ok-row.ensures
    (passed (past points) c.in_ok-more.more c.in-Ok.rest c.keep_next.new.rest c.in_ok-row.row named end c.if-not-more.false c.in_ok-more.ensures
    (passed points c.in_ok-locals.locals c.keep_next.new.rest c.keep_next-2.new.rest named behind end c.if-not-locals.false c.in_ok-locals.ensures c.in_ok-fill_points.ensures))
