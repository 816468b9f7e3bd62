use Rattle.lc_outline.specs.DevelopmentView.{development_view}
use Rattle.lincheck.proofs.Running.{plan_opened, plan_refused}
use Rattle.lincheck.proofs.run.open_plan.Goals as goal

pub plan_fed-requires : goal.plan_fed-requires
plan_fed-requires g c =
    let fed = c.in_ok-reader.ensures.fed in
    (fed.0, fed.1)

pub returns-in-Ok-clause-opens : goal.returns-in-Ok-clause-opens
returns-in-Ok-clause-opens g c =
    let fed = c.in_ok-reader.ensures.fed in
    plan_opened (development_view c.args.development.now) (g.F.Files.bytes_at c.args.files.now c.args.path.now) fed.0 c.in-Ok.plan fed.2 (c.in-Ok.ensures fed.0 fed.1)

pub returns-in_ok-told_fault-in-Err-clause-opens : goal.returns-in_ok-told_fault-in-Err-clause-opens
returns-in_ok-told_fault-in-Err-clause-opens g c =
    let fed = c.in_ok-reader.ensures.fed in
    let answer = c.in_ok-told_fault-in-Err.field-0 in
    plan_refused (development_view c.args.development.now) (g.F.Files.bytes_at c.args.files.now c.args.path.now) fed.0 c.in-Err.fault answer.text.items answer.status fed.2
    (c.in-Err.ensures fed.0 fed.1) c.in_ok-told_fault-in-Err.ensures
