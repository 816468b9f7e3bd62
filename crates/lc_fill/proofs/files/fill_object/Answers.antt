use Rattle.std.proofs.Common.{sym, ap, ◌∙◌}
use Rattle.std.specs.Prelude.{codes}
use Rattle.lc_sexp.specs.Shown.{rest_of, number_of}
use Rattle.lc_reading.specs.Parts.{tree_of, place_of}
use Rattle.lc_fill.specs.Filled.{past}
use Rattle.lc_fill.specs.Files.{parts_filled, sections_filled}
use Rattle.lc_fill.specs.PlanView.{plan_view}
use Rattle.lc_fill.specs.Seen.{onto}
use Rattle.lc_fill.proofs.Filled.{list_filled, passed, stopped}
use Rattle.lc_fill.proofs.Lists.{in_form-other}
use Rattle.lc_fill.proofs.files.fill_object.Goals as goal

pub returns-in_default : goal.returns-in_default
returns-in_default c =
    let plan = plan_view c.args.plan.now in
    c.in_ok-same.ensures ∙ sym (in_form-other (codes "object") (past (parts_filled plan)) (place_of c.args.part) (tree_of c.args.part) c.in_default.ensures.1)

pub returns-then-not-more : goal.returns-then-not-more
returns-then-not-more c =
    let plan = plan_view c.args.plan.now in
    let behind = c.keep_next.new.self in
    c.in_ok-bare.ensures
    ∙ list_filled (codes "object") (past (parts_filled plan)) c.args.part c.in-Ok.rest c.in_ok-row.row behind c.in-Ok.ensures c.in_ok-row.ensures
    (stopped (parts_filled plan) c.in_ok-more.more c.in-Ok.rest c.keep_next.new.rest c.in_ok-row.row behind c.if-not-more.true c.in_ok-more.ensures)

pub returns : goal.returns
returns c =
    let plan = plan_view c.args.plan.now in
    let behind = c.keep_next.new.self in
    let end = c.fill_sections.new.row in
    c.in_ok-list.ensures
    ∙ list_filled (codes "object") (past (parts_filled plan)) c.args.part c.in-Ok.rest c.in_ok-row.row end c.in-Ok.ensures c.in_ok-row.ensures
    (passed (parts_filled plan) c.in_ok-more.more c.in-Ok.rest c.keep_next.new.rest c.in_ok-row.row behind end c.if-not-more.false c.in_ok-more.ensures (c.in_ok-fill_sections.ensures ∙ ap (λ a. onto behind (sections_filled a (number_of c.keep_next.new.rest) (rest_of c.keep_next.new.rest))) c.in_ok-acts.ensures))
