use Rattle.std.proofs.Common.{◌≡◌, ◌++◌, [], ◌∷◌, refl, ap, subst, ◌∙◌, rules}
use Rattle.std.proofs.lemmas.List.{length-set}
use Rattle.lc_machine.specs.Placed.{is_placed}
use Rattle.lc_machine.specs.View.{client_of}
use Rattle.lc_ride.specs.RideView.{marks_of}
use Rattle.lc_sound.specs.Instrumented.{Instrumented}
use Rattle.lc_check.specs.VerdictView.{development_in}
use Rattle.lc_steps.specs.StepView.{what_of, world_in}
use Rattle.lc_run.specs.declared.label.Label.{Label}
use Rattle.lc_run.proofs.Standing.{step_keeps_run, label-is, labels-grow, next-world}
use Rattle.lc_run.proofs.held.Shared.keep.Goals as goal
use Rattle.lc_machine.proofs.Worlds.{placed_set}

pub invariant_of-self-2-clause-run : goal.invariant_of-self-2-clause-run
invariant_of-self-2-clause-run g c =
    let s = c.args.self.now in
    let x = c.args.seat.now.client in
    let made = c.into_parts-what.result in
    let the_label : Label = record { client = x; what = made.0; marks = made.1 } in
    let items : c.push_reserved.new.self.items ≡ s.labels.items ++ the_label ∷ [] = search rules in
    step_keeps_run c.runs_stand_over.ensures.extends (development_in s.accepted.value) s.clients s.labels.items c.push_reserved.new.self.items s.draft c.save.new.self s.stands.items the_label x c.args.step made.2
    items (label-is the_label x c.args.step refl c.into_parts-what.ensures.what c.into_parts-what.ensures.marks) c.save.ensures.saved c.into_parts-what.ensures.client s.run c.requires.step

pub invariant_of-self-2-clause-placed : goal.invariant_of-self-2-clause-placed
invariant_of-self-2-clause-placed g c =
    let s = c.args.self.now in
    let object = (development_in s.accepted.value).object in
    placed_set object s.stands.items c.args.seat.now.client c.into_parts-what.result.2 s.placed (ap (λ k. is_placed object (client_of k)) c.into_parts-what.ensures.client ∙ c.requires.placed)

pub invariant_of-self-2-clause-count : goal.invariant_of-self-2-clause-count
invariant_of-self-2-clause-count g c = length-set c.args.self.now.stands.items c.args.seat.now.client c.into_parts-what.result.2 ∙ c.args.self.now.count

pub returns-clause-grown : goal.returns-clause-grown
returns-clause-grown g c =
    let s = c.args.self.now in
    let x = c.args.seat.now.client in
    let t = c.args.step in
    let made = c.into_parts-what.result in
    let the_label : Label = record { client = x; what = made.0; marks = made.1 } in
    let items : c.push_reserved.new.self.items ≡ s.labels.items ++ the_label ∷ [] = search rules in
    let theirs : c.push_reserved-2.new.self.items ≡ c.args.seat.now.labels.items ++ c.in_ok-copy.copy ∷ [] = search rules in
    let is = label-is the_label x t refl c.into_parts-what.ensures.what c.into_parts-what.ensures.marks in
    record {
      label = record { client = x; what = what_of t.what; marks = marks_of t.marks.items };
      client = refl;
      what = refl;
      step = subst (λ v. Instrumented (development_in s.accepted.value) (world_in s.draft s.stands.items) x (what_of t.what) (marks_of t.marks.items) v)
          (next-world s.draft c.save.new.self s.stands.items x t made.2 c.save.ensures.saved c.into_parts-what.ensures.client) c.requires.step;
      held = labels-grow s.labels.items c.push_reserved.new.self.items the_label _ items is;
      made = labels-grow c.args.seat.now.labels.items c.push_reserved-2.new.self.items c.in_ok-copy.copy _ theirs (c.in_ok-copy.ensures ∙ is);
    }
