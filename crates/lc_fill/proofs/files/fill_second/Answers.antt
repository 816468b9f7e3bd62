use Rattle.std.proofs.Common.{sym, ap, ap₂, ◌∙◌}
use Rattle.lc_sexp.specs.Shown.{rest_of, number_of}
use Rattle.lc_reading.specs.Parts.{tree_of, place_of}
use Rattle.lc_fill.specs.Filled.{as_is, followed}
use Rattle.lc_fill.specs.Files.{object_filled, second_filled}
use Rattle.lc_fill.specs.PlanView.{plan_view}
use Rattle.lc_fill.specs.Seen.{onto}
use Rattle.lc_fill.proofs.files.fill_second.Goals as goal

pub returns-in_default : goal.returns-in_default
returns-in_default c = ap (λ ts. onto c.args.row.now (second_filled (plan_view c.args.plan.now) (number_of c.args.list) ts)) (sym c.in_default.ensures.1)

pub returns : goal.returns
returns c =
    let plan = plan_view c.args.plan.now in
    let (at, behind) = c.in-Ok.ensures in
    let d = c.next_part.new.list in
    c.in_ok-keep_all.ensures
    ∙ c.in_ok-push.ensures (as_is (rest_of d))
    ∙ ap (λ f. onto c.args.row.now (followed f (as_is (rest_of d)))) c.in_ok-object.ensures
    ∙ ap (λ n. onto c.args.row.now (followed (object_filled plan n (tree_of c.in-Ok.part)) (as_is (rest_of d)))) at
    ∙ ap (λ ts. onto c.args.row.now (second_filled plan (number_of c.args.list) ts)) (sym behind.rest)
