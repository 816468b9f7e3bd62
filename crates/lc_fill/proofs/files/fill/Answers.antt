use Rattle.std.proofs.Common.{sym, ap, ap₂, ◌∙◌}
use Rattle.lc_sexp.specs.Shown.{rest_of, number_of}
use Rattle.lc_fill.specs.Filled.{past}
use Rattle.lc_fill.specs.Files.{second_filled}
use Rattle.lc_fill.specs.PlanView.{plan_view}
use Rattle.lc_fill.proofs.Filled.{passed, stopped}
use Rattle.lc_fill.proofs.files.fill.Goals as goal

pub returns-then-not-more : goal.returns-then-not-more
returns-then-not-more c =
    let second = second_filled (plan_view c.args.plan.now) in
    let behind = c.keep_next.new.self in
    stopped second c.in_ok-more.more c.cursor-rest.result c.keep_next.new.rest c.new-row.result behind c.if-not-more.true c.in_ok-more.ensures
    ∙ c.new-row.ensures (past second (number_of c.cursor-rest.result) (rest_of c.cursor-rest.result))
    ∙ ap₂ (λ n ts. past second n ts) c.cursor-rest.ensures.number c.cursor-rest.ensures.rest

pub returns : goal.returns
returns c =
    let second = second_filled (plan_view c.args.plan.now) in
    let behind = c.keep_next.new.self in
    let end = c.fill_second.new.row in
    passed second c.in_ok-more.more c.cursor-rest.result c.keep_next.new.rest c.new-row.result behind end c.if-not-more.false c.in_ok-more.ensures c.in_ok-fill_second.ensures
    ∙ c.new-row.ensures (past second (number_of c.cursor-rest.result) (rest_of c.cursor-rest.result))
    ∙ ap₂ (λ n ts. past second n ts) c.cursor-rest.ensures.number c.cursor-rest.ensures.rest
