use Rattle.std.proofs.Common.{sym, subst}
use Rattle.std.specs.Prelude.{All}
use Rattle.std.proofs.lemmas.List.Elements.{All-head, All-push, All-tail}
use Rattle.lc_crew.specs.Members.{HasMadeAll}
use Rattle.lc_crew.specs.Phases.{phases_to, IsToMake}
use Rattle.lc_crew.proofs.phase.joined.Goals as goal

pub loop-thread-preserved : goal.loop-thread-preserved
loop-thread-preserved g c =
    let plan = c.args._plan.now in
    let n = c.args._phases in
    let so = c.loop-thread.invariant in
    let thread = c.in-Some.thread in
    let left = subst (All (IsToMake plan n)) c.in-Some.ensures.steps.0 so.left in
    let is = All-head (IsToMake plan n) thread c.next.new.self.rest.items left in
    let member = c.in_ok-join.field-0 in
    let made = subst (λ k. HasMadeAll (phases_to plan k) member) is.1 (subst (λ p. HasMadeAll (phases_to p thread.promise.phases) member) is.0 c.in_ok-join.ensures) in
    record {
      made = subst (All (HasMadeAll (phases_to plan n))) (sym c.in_ok-push.ensures.items) (All-push (HasMadeAll (phases_to plan n)) c.loop-thread.after.items member so.made made);
      left = All-tail (IsToMake plan n) thread c.next.new.self.rest.items left;
    }
