use Rattle.std.proofs.Common.{◌≡◌, ◌+◌, false, map, sym, subst, ◌∙◌}
use Rattle.std.specs.Prelude.{All}
use Rattle.std.proofs.lemmas.List.Elements.{All-head, All-push, All-tail}
use Rattle.lc_plan.specs.View.{script_of}
use Rattle.lc_crew.specs.Members.{HasMadeAll, client_of}
use Rattle.lc_crew.specs.Phases.{has_script, phases_to}
use Rattle.lc_crew.proofs.Ends.{rest-made}
use Rattle.lc_crew.proofs.phase.cast_of.Goals as goal

pub loop-member-preserved-in-Continue-1 : goal.loop-member-preserved-in-Continue-1
loop-member-preserved-in-Continue-1 g c =
    let made = HasMadeAll {J = g.row.J.Denot} (phases_to c.args.plan.now c.args.number) in
    let so = c.loop-member.invariant in
    let member = c.in-Some.member in
    let left = subst (All made) c.in-Some.ensures.steps.0 so.left in
    record {
      playing = subst (All made) (sym c.in_ok-push.ensures.items) (All-push made c.loop-member.playing.items member so.playing (All-head made member c.next.new.self.rest.items left));
      resting = so.resting;
      left = All-tail made member c.next.new.self.rest.items left;
    }

pub loop-member-preserved : goal.loop-member-preserved
loop-member-preserved g c =
    let made = HasMadeAll {J = g.row.J.Denot} (phases_to c.args.plan.now c.args.number) in
    let more = HasMadeAll {J = g.row.J.Denot} (phases_to c.args.plan.now (c.args.number + 1)) in
    let so = c.loop-member.invariant in
    let member = c.in-Some.member in
    let left = subst (All made) c.in-Some.ensures.steps.0 so.left in
    let none : has_script (client_of member) (map script_of c.deref.result.now) ≡ false = subst (λ k. has_script k (map script_of c.deref.result.now) ≡ false) c.client.ensures (sym c.has_script.ensures ∙ c.if-has_script.false) in
    record {
      playing = so.playing;
      resting = subst (All more) (sym c.in_ok-push-2.ensures.items)
          (All-push more c.loop-member.resting.items member so.resting
          (rest-made c.args.plan.now c.args.number c.index.result.now c.deref.result.now member c.requires.below c.index.ensures c.deref.ensures.value none (All-head made member c.next.new.self.rest.items left)));
      left = All-tail made member c.next.new.self.rest.items left;
    }
