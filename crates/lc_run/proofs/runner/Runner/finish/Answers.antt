use Rattle.std.proofs.Common.{◌≡◌, length, All, ap, sym, subst, ◌∙◌}
use Rattle.lc_history.specs.Histories.{events_in}
use Rattle.lc_sound.specs.Instrumented.{history}
use Rattle.lc_sound.specs.Order.{order}
use Rattle.lc_check.specs.VerdictView.{development_in}
use Rattle.lc_run.specs.Finished.{AreOwn}
use Rattle.lc_run.specs.LabelView.{labels_of}
use Rattle.lc_run.specs.Locked.{development_held, clients_held, labels_held}
use Rattle.lc_run.specs.Ordering.{order_entries}
use Rattle.lc_run.specs.Running.{development_of, clients_of}
use Rattle.lc_run.specs.Seated.{AreAllThere, HasOwn, IsWhole, IsWhy}
use Rattle.lc_run.proofs.Ending.{its-run, its-order, all-gathered}
use Rattle.lc_run.proofs.runner.Runner.finish.Goals as goal

pub returns-in-Ok-clause-run : goal.returns-in-Ok-clause-run
returns-in-Ok-clause-run g c =
    let whole = c.in-Ok.ensures.whole in
    its-run c.into_inner-shared.result (development_of c.args.self) (clients_of c.args.self) (labels_of c.log_of.result.labels.items) (whole.same.0 ∙ ap development_in c.deref.ensures) whole.same.1 (sym c.log_of.ensures.labels)

pub returns-in-Ok-clause-linearizes : goal.returns-in-Ok-clause-linearizes
returns-in-Ok-clause-linearizes g c =
    let log = c.log_of.result in
    let same = sym c.log_of.ensures.labels in
    its-order c.into_inner-shared.result c.orders_linearize.ensures (development_of c.args.self) (labels_of log.labels.items) (events_in log.history) (order_entries log.order.items)
    (c.in-Ok.ensures.whole.same.0 ∙ ap development_in c.deref.ensures) same
    (c.log_of.ensures.history ∙ (c.in-Ok.ensures.history ∙ ap history same)) (c.log_of.ensures.order ∙ (c.in-Ok.ensures.order ∙ ap order same))

pub returns-in-Ok-clause-own : goal.returns-in-Ok-clause-own
returns-in-Ok-clause-own g c =
    let s = c.into_inner-shared.result in
    let log = c.log_of.result in
    subst (λ n. AreOwn (labels_of log.labels.items) n log.own.items) c.in-Ok.ensures.whole.same.1 (subst (λ ls. AreOwn ls (clients_held s) log.own.items) (sym c.log_of.ensures.labels) c.log_of.ensures.own)

pub returns-in-Ok-clause-together : goal.returns-in-Ok-clause-together
returns-in-Ok-clause-together g c =
    let log = c.log_of.result in
    all-gathered c.into_inner-shared.result log.own.items (sym log.own.ok.0 ∙ c.log_of.ensures.count) c.log_of.ensures.own ∙ ap length (sym c.log_of.ensures.labels)

pub returns-in-Ok-clause-seats : goal.returns-in-Ok-clause-seats
returns-in-Ok-clause-seats g c =
    subst (λ ls. All (HasOwn ls) c.args.seats.items) (sym c.log_of.ensures.labels)
    (subst (λ seats. All (HasOwn (labels_held c.into_inner-shared.result)) seats) c.deref-2.ensures.value c.in-Ok.ensures.whole.own)

pub returns-in-Ok-clause-there : goal.returns-in-Ok-clause-there
returns-in-Ok-clause-there g c = subst (λ seats. AreAllThere (clients_of c.args.self) seats) c.deref-2.ensures.value c.in-Ok.ensures.whole.there

pub returns-in-Ok-clause-concluded : goal.returns-in-Ok-clause-concluded
returns-in-Ok-clause-concluded g c =
    let s = c.into_inner-shared.result in
    let n = clients_of c.args.self in
    ∣ (
      s,
      (
        subst (λ seats. IsWhole s (development_of c.args.self) n seats) c.deref-2.ensures.value
            (subst (λ D. IsWhole s D n c.deref-2.result.now) (ap development_in c.deref.ensures) c.in-Ok.ensures.whole),
        c.log_of.ensures.labels,
      ),
    ) ∣₁

pub returns-in-Err-clause-concluded : goal.returns-in-Err-clause-concluded
returns-in-Err-clause-concluded g c =
    let s = c.into_inner-shared.result in
    let n = clients_of c.args.self in
    ∣ (
      s,
      subst (λ seats. IsWhy s (development_of c.args.self) n seats c.in-Err.why) c.deref-2.ensures.value
          (subst (λ D. IsWhy s D n c.deref-2.result.now c.in-Err.why) (ap development_in c.deref.ensures) c.in-Err.ensures.why),
    ) ∣₁
