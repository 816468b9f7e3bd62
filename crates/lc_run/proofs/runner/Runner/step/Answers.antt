use Rattle.std.proofs.Common.{subst}
use Rattle.std.specs.Prelude.{IfSome}
use Rattle.lc_sound.specs.Instrumented.{Label}
use Rattle.lc_run.specs.LabelView.{labels_of}
use Rattle.lc_run.specs.Labels.{last_of}
use Rattle.lc_run.specs.Locked.{client_in, labels_made}
use Rattle.lc_run.specs.Running.{IsSaid, IsUnstepped}
use Rattle.lc_run.proofs.Growing.{goes-last, handed-on, said-made}
use Rattle.lc_run.proofs.runner.Runner.step.Goals as goal

pub returns-in_err-take_step-in-Ok-clause-fault : goal.returns-in_err-take_step-in-Ok-clause-fault
returns-in_err-take_step-in-Ok-clause-fault g c =
    handed-on (IsUnstepped c.args.seat.now) c.from_residual.result c.in_err-take_step-in-Ok.field-0.0 c.from_residual.ensures.1 ∣ (c.deref_mut.result.now, c.in_err-take_step-in-Ok.ensures.fault) ∣₁

pub returns-in-Err-clause-fault : goal.returns-in-Err-clause-fault
returns-in-Err-clause-fault g c = ∣ (c.deref_mut-in-Err.result.now, c.fault_without_memory.ensures.fault) ∣₁

pub said_last-requires-clause-goes : goal.said_last-requires-clause-goes
said_last-requires-clause-goes g c =
    let grown = c.in_ok-take_step-in-Ok.ensures.grown in
    goes-last grown.label (labels_made c.args.seat.now) (labels_made c.take_step.new.seat) (labels_of c.labels.result.now) c.labels.ensures grown.made grown.what

pub returns-in_ok-take_step-in-Ok-clause-ok : goal.returns-in_ok-take_step-in-Ok-clause-ok
returns-in_ok-take_step-in-Ok-clause-ok g c =
    let grown = c.in_ok-take_step-in-Ok.ensures.grown in
    said-made c.said_last.result (client_in c.args.seat.now) grown.label (labels_made c.args.seat.now) (labels_made c.take_step.new.seat) grown.client grown.made
    (subst (λ ls. IfSome (last_of ls) (λ (x : Label). IsSaid c.said_last.result x.what)) c.labels.ensures c.said_last.ensures)
