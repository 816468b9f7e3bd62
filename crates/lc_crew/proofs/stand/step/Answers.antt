use Rattle.std.proofs.Common.{sym, subst}
use Rattle.lc_run.specs.Labels.{HasMade}
use Rattle.lc_run.specs.Locked.{client_in, labels_made}
use Rattle.lc_run.specs.Running.{IsSaid}
use Rattle.lc_run.specs.declared.runner.Progress.{Progress}
use Rattle.lc_crew.specs.Turns.{StandsSo}
use Rattle.lc_crew.proofs.Turns.{halted-stands, moved-stands, returned-stands}
use Rattle.lc_crew.proofs.stand.step.Goals as goal

pub returns-in-Ok-Running-clause-stands : goal.returns-in-Ok-Running-clause-stands
returns-in-Ok-Running-clause-stands g c = λ turns call before within.
    let client = client_in c.args.seat.now in
    let old = labels_made c.args.seat.now in
    let now = labels_made c.step.new.seat in
    let made = subst (λ (p : Progress). HasMade (IsSaid p) client old now) c.in-Ok-Running.field-0-is c.in-Ok-Running.ensures.ok in
    subst (λ s. StandsSo s turns call client before now) (sym c.going_on.ensures) (moved-stands c.args.left turns call client before old now within made)

pub returns-in-Ok-Returned-clause-stands : goal.returns-in-Ok-Returned-clause-stands
returns-in-Ok-Returned-clause-stands g c = λ turns call before within.
    let client = client_in c.args.seat.now in
    let old = labels_made c.args.seat.now in
    let now = labels_made c.step.new.seat in
    let made = subst (λ (p : Progress). HasMade (IsSaid p) client old now) c.in-Ok-Returned.field-0-is c.in-Ok-Returned.ensures.ok in
    returned-stands c.args.left turns call client c.in-Ok-Returned.field-0-0 before old now within made

pub returns-clause-stands : goal.returns-clause-stands
returns-clause-stands g c = λ turns call before within.
    halted-stands c.in-Err.fault c.in_ok-halt_at-in-Err.field-0 c.args.left turns call (client_in c.args.seat.now) before (labels_made c.args.seat.now) (labels_made c.step.new.seat) c.in_ok-halt_at-in-Err.ensures
    c.in-Err.ensures.err within
