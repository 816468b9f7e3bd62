use Rattle.std.proofs.Common.{sym, subst}
use Rattle.lc_plan.specs.View.{plan_of}
use Rattle.lc_run.specs.Running.{clients_of, development_of}
use Rattle.lc_crew.specs.Ran.{AreAllEnded, IsRunOf}
use Rattle.lc_crew.specs.declared.plan.Ran.{Ran}
use Rattle.lc_crew.proofs.Ends.{ended}
use Rattle.lc_crew.proofs.plan.finished.Goals as goal

pub returns-in-Ok : goal.returns-in-Ok
returns-in-Ok g c =
    let parted = c.in_ok-parted.parted in
    let D = development_of c.args.runner in
    let n = clients_of c.args.runner in
    let phases = (plan_of c.args.plan.now).phases in
    let ran : Ran = record { log = c.in-Ok.log; ends = parted.ends } in
    let all = subst (λ n. AreAllEnded n parted.ends.items) (sym c.requires.clients) c.in_ok-parted.ensures.all in
    subst (λ n. IsRunOf D n phases ran) c.requires.clients
    (ended phases D n ran parted.seats.items
    c.in-Ok.ensures.run c.in-Ok.ensures.history c.in-Ok.ensures.order c.in-Ok.ensures.linearizes c.in-Ok.ensures.seats all c.in_ok-parted.ensures.ends)
