use Rattle.std.proofs.Common.{List, sym, subst, ◌∙◌}
use Rattle.lc_machine.proofs.Worlds.{placed_set}
use Rattle.lc_machine.specs.View.{client_of}
use Rattle.lc_machine.specs.World.{World}
use Rattle.lc_machine.specs.declared.client.Client.{Client}
use Rattle.lc_outline.specs.DevelopmentView.{development_view}
use Rattle.lc_ride.specs.Drafts.{written_in_draft}
use Rattle.lc_ride.specs.RideView.{marks_of}
use Rattle.lc_sound.specs.Instrumented.{Instrumented}
use Rattle.lc_steps.specs.StepView.{what_of, world_in}
use Rattle.lc_steps.specs.Stepping.{world_with}
use Rattle.lc_trace.proofs.Replaying.{world_after}
use Rattle.lc_trace.proofs.replay.take_again.Goals as goal

pub returns-clause-step : goal.returns-clause-step
returns-clause-step c =
    let D = development_view c.args.development.now in
    let draft = c.args.replay.now.draft in
    let clients = c.args.replay.now.clients.items in
    let x = c.args.label.now.client in
    let what = what_of c.args.label.now.what in
    let marks = marks_of c.args.label.now.marks.items in
    let columns = written_in_draft c.same_step.new.draft in
    let stand = c.in_ok-stand.stand in
    let step = subst (λ (cs : List Client). Instrumented D (world_in draft cs) x what marks (world_with (world_in draft cs) columns x (client_of stand))) c.deref.ensures.value c.in_ok-stand.ensures.step in
    subst (λ (w : World). Instrumented D (world_in draft clients) x what marks w) (world_after draft c.save.new.self clients columns x stand c.save.ensures.saved) step

pub returns-clause-ready : goal.returns-clause-ready
returns-clause-ready c = record {
  saved = c.in_ok-cells.ensures.written ∙ sym c.save.ensures.saved;
  same = c.in_ok-cells.ensures.columns ∙ sym c.save.ensures.columns;
  count = c.save.ensures.columns ∙ (c.in_ok-stand.ensures.columns ∙ c.requires.count);
  placed = placed_set (development_view c.args.development.now).object c.args.replay.now.clients.items c.args.label.now.client c.in_ok-stand.stand c.requires.placed c.in_ok-stand.ensures.placed;
}
