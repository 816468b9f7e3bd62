use Rattle.std.proofs.Common.{◌≡◌, ◌<◌, true, Err, length, sym, ap, subst, ◌∙◌}
use Rattle.std.specs.Prelude.{IfErr}
use Rattle.std.proofs.lemmas.List.{length-map}
use Rattle.lc_machine.specs.View.{clients_of}
use Rattle.lc_machine.specs.World.{In}
use Rattle.lc_run.specs.Limits.{label_limit}
use Rattle.lc_check.specs.VerdictView.{development_in}
use Rattle.lc_steps.specs.StepView.{world_in}
use Rattle.lc_run.specs.LabelView.{label_of, labels_of}
use Rattle.lc_run.specs.Labels.{is_unfinished}
use Rattle.lc_run.specs.Locked.{development_held, labels_held, world_held, client_in, labels_made}
use Rattle.lc_run.specs.Taken.{HaveRoom, IsUntold, IsStepFault, MayStep, StandsIn}
use Rattle.lc_run.proofs.Growing.{step_is_faulted, as-step, if-done, handed-on, fault-as}
use Rattle.lc_run.proofs.Standing.{client-below}
use Rattle.lc_run.proofs.held.Shared.told.Goals as goal

pub returns-in_err-may_step-clause-fault : goal.returns-in_err-may_step-clause-fault
returns-in_err-may_step-clause-fault g c =
    let s = c.args.self.now in
    let t = c.args.seat.now in
    let fault = c.in_err-may_step.field-0.0 in
    let goes : is_unfinished (labels_made t) ≡ true = sym (c.is_unfinished.ensures ∙ ap (λ ls. is_unfinished (labels_of ls)) c.deref.ensures.value) ∙ c.if-not-is_unfinished.false in
    let count : c.len.result ≡ length (labels_held s) = c.len.ensures ∙ (s.labels.ok.0 ∙ sym (length-map s.labels.items label_of)) in
    handed-on (IsStepFault (development_held s) (world_held s) (labels_held s) (client_in t) (labels_made t)) c.from_residual.result fault c.from_residual.ensures.1
    (step_is_faulted (development_held s) (world_held s) (labels_held s) (labels_made t) (client_in t) c.len.result fault count goes
    (subst (λ cs. MayStep (clients_of cs) t.client c.len.result (Err fault)) c.deref-2.ensures.value c.in_err-may_step.ensures.may))

pub returns-clause-there : goal.returns-clause-there
returns-clause-there g c =
    let s = c.args.self.now in
    let t = c.args.seat.now in
    let stands = subst (λ cs. StandsIn (clients_of cs) t.client) c.deref-2.ensures.value c.in_ok-may_step.ensures.may in
    if-done c.lawful_step.result _ (client-below s.stands.items s.clients t.client (In stands.0 stands.1) s.count stands.2)

pub returns-clause-room : goal.returns-clause-room
returns-clause-room g c =
    let s = c.args.self.now in
    let count : c.len.result ≡ length (labels_held s) = c.len.ensures ∙ (s.labels.ok.0 ∙ sym (length-map s.labels.items label_of)) in
    if-done c.lawful_step.result (HaveRoom (labels_held s)) (subst (λ n. n < label_limit) count c.in_ok-may_step.ensures.room)

pub returns-clause-fault : goal.returns-clause-fault
returns-clause-fault g c =
    let s = c.args.self.now in
    let t = c.args.seat.now in
    let count : c.len.result ≡ length (labels_held s) = c.len.ensures ∙ (s.labels.ok.0 ∙ sym (length-map s.labels.items label_of)) in
    let room : HaveRoom (labels_held s) = subst (λ n. n < label_limit) count c.in_ok-may_step.ensures.room in
    let told = subst (λ cs. IfErr c.lawful_step.result (IsUntold (development_in c.deref-3.result.now) (world_in s.draft cs) t.client)) c.deref-5.ensures.value c.lawful_step.ensures.fault in
    let here = subst (λ a. IfErr c.lawful_step.result (IsUntold (development_in a) (world_in s.draft s.stands.items) t.client)) c.deref-3.ensures told in
    fault-as (IsUntold (development_held s) (world_held s) (client_in t)) (IsStepFault (development_held s) (world_held s) (labels_held s) (client_in t) (labels_made t)) c.lawful_step.result
    (λ e h. as-step (development_held s) (world_held s) (labels_held s) (labels_made t) (client_in t) e room h) here
