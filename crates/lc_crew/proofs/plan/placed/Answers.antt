use Rattle.std.proofs.Common.{None, Some, sym, subst}
use Rattle.std.specs.Prelude.{All}
use Rattle.std.proofs.lemmas.List.Elements.{All-head, All-push, All-set, All-tail}
use Rattle.lc_plan.specs.View.{plan_of}
use Rattle.lc_crew.specs.Members.{HasMadeAll, HasMadeAllIf}
use Rattle.lc_crew.proofs.plan.placed.Goals as goal

pub loop-client-preserved : goal.loop-client-preserved
loop-client-preserved g c =
    let there = HasMadeAllIf (plan_of c.args.plan.now).phases in
    subst (All there) (sym c.in_ok-push.ensures.items) (All-push there c.loop-client.places.items None c.loop-client.invariant tt)

pub loop-member-preserved-then-place-len : goal.loop-member-preserved-then-place-len
loop-member-preserved-then-place-len g c =
    let phases = (plan_of c.args.plan.now).phases in
    let so = c.loop-member.invariant in
    let member = c.in-Some.member in
    let left = subst (All (HasMadeAll phases)) c.in-Some.ensures.steps.0 so.left in
    record {
      made = All-set (HasMadeAllIf phases) c.loop-member.places.items c.client-place.result (Some member) (All-head (HasMadeAll phases) member c.next.new.self.rest.items left) so.made;
      left = All-tail (HasMadeAll phases) member c.next.new.self.rest.items left;
    }

pub loop-member-preserved-then-place-len-2 : goal.loop-member-preserved-then-place-len-2
loop-member-preserved-then-place-len-2 g c =
    let phases = (plan_of c.args.plan.now).phases in
    let so = c.loop-member.invariant in
    let member = c.in-Some.member in
    let left = subst (All (HasMadeAll phases)) c.in-Some.ensures.steps.0 so.left in
    record {
      made = All-set (HasMadeAllIf phases) c.loop-member.places.items c.client-place.result (Some member) (All-head (HasMadeAll phases) member c.next.new.self.rest.items left) so.made;
      left = All-tail (HasMadeAll phases) member c.next.new.self.rest.items left;
    }

pub loop-member-preserved : goal.loop-member-preserved
loop-member-preserved g c =
    let phases = (plan_of c.args.plan.now).phases in
    let so = c.loop-member.invariant in
    let left = subst (All (HasMadeAll phases)) c.in-Some.ensures.steps.0 so.left in
    record { made = so.made; left = All-tail (HasMadeAll phases) c.in-Some.member c.next.new.self.rest.items left }
