use Rattle.std.proofs.Common.{[], ◌∷◌, ◌++◌, sym, subst, arith}
use Rattle.std.specs.Prelude.{All}
use Rattle.std.proofs.lemmas.List.Elements.{All-head, All-tail}
use Rattle.lc_plan.specs.View.{plan_of}
use Rattle.lc_crew.specs.Members.{AreEndsOf, HasMadeAllIf}
use Rattle.lc_crew.specs.Ran.{AreNumberedFrom}
use Rattle.lc_crew.proofs.Ends.{end-more, is-end, numbered-more}
use Rattle.lc_crew.proofs.plan.parts_of.Goals as goal

pub loop-member-preserved : goal.loop-member-preserved
loop-member-preserved g c =
    let phases = (plan_of c.args.plan.now).phases in
    let so = c.loop-member.invariant in
    let seats = c.loop-member.seats.items in
    let ends = c.loop-member.ends.items in
    let member = c.in-Some-member.member in
    let parts = c.into_parts-seat.result in
    let told = c.into_parts-seat.ensures in
    let left = subst (All (HasMadeAllIf phases)) c.in-Some.ensures.steps.0 so.left in
    let seats' = sym c.in_ok-push.ensures.items in
    let ends' = sym c.in_ok-push-2.ensures.items in
    let made = subst (HasMadeAllIf phases) c.in-Some-member.is (All-head (HasMadeAllIf phases) c.in-Some.member c.next.new.self.rest.items left) in
    record {
      ends = subst (λ ss. AreEndsOf phases ss c.push-in-loop-member.new.self.items) seats'
          (subst (λ es. AreEndsOf phases (seats ++ parts.0 ∷ []) es) ends'
          (end-more phases seats ends parts.0 parts.1 so.ends (is-end phases member parts.0 parts.1 told.seat told.labels told.client told.halt made)));
      numbered = subst (λ es. AreNumberedFrom 0 es) ends' (numbered-more 0 ends parts.1 so.numbered (omega (arith, c.if-ended-len.false, c.len.ensures, c.loop-member.ends.ok.0)));
      left = All-tail (HasMadeAllIf phases) c.in-Some.member c.next.new.self.rest.items left;
    }
