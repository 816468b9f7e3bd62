use Rattle.std.proofs.Common.{◌≡◌, true, List, ℤ, sym, subst}
use Rattle.lc_machine.specs.Step.{Invoked}
use Rattle.lc_run.specs.Labels.{is_unfinished}
use Rattle.lc_run.specs.Locked.{client_in, labels_made}
use Rattle.lc_run.specs.Running.{IsCalled}
use Rattle.lc_crew.specs.Halts.{fits}
use Rattle.lc_crew.specs.Playing.{HasMadeOne}
use Rattle.lc_crew.proofs.Unfinished.{called-made}
use Rattle.lc_crew.proofs.member.make_call.Goals as goal

pub returns-in-Ok-clause-made : goal.returns-in-Ok-clause-made
returns-in-Ok-clause-made g c =
    let before = labels_made c.args.seat.now in
    let after = labels_made c.call.new.seat in
    let client = client_in c.args.seat.now in
    let op = c.args.call.now.op.0 in
    let ns = c.args.call.now.numbers.items in
    let done = subst (λ (l : List ℤ). IsCalled c.in-Ok.called c.from.result (Invoked op l) client before after) c.deref.ensures.value c.in-Ok.ensures.ok in
    let is = subst (λ t. IsCalled c.in-Ok.called t (Invoked op ns) client before after) c.from.ensures done in
    subst (λ h. HasMadeOne h c.args.turns (Invoked op ns) client before after) (sym c.halt_behind.ensures) (called-made c.in-Ok.called c.args.turns op ns client before after is).0

pub returns-in-Ok-clause-fit : goal.returns-in-Ok-clause-fit
returns-in-Ok-clause-fit g c =
    let before = labels_made c.args.seat.now in
    let after = labels_made c.call.new.seat in
    let client = client_in c.args.seat.now in
    let op = c.args.call.now.op.0 in
    let ns = c.args.call.now.numbers.items in
    let done = subst (λ (l : List ℤ). IsCalled c.in-Ok.called c.from.result (Invoked op l) client before after) c.deref.ensures.value c.in-Ok.ensures.ok in
    let is = subst (λ t. IsCalled c.in-Ok.called t (Invoked op ns) client before after) c.from.ensures done in
    subst (λ h. fits h (is_unfinished after) ≡ true) (sym c.halt_behind.ensures) (called-made c.in-Ok.called c.args.turns op ns client before after is).1
