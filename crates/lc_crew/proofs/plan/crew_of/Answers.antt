use Rattle.std.proofs.Common.{◌≡◌, [], sym, subst}
use Rattle.std.specs.Prelude.{All}
use Rattle.std.proofs.lemmas.List.Elements.{All-head, All-push, All-tail}
use Rattle.lc_run.specs.Locked.{labels_made}
use Rattle.lc_crew.specs.Members.{HasMadeAll}
use Rattle.lc_crew.proofs.Ends.{fresh}
use Rattle.lc_crew.proofs.plan.crew_of.Goals as goal

pub new-requires : goal.new-requires
new-requires g c = All-head (λ s. labels_made s ≡ []) c.in-Some.seat c.next.new.self.rest.items (subst (All (λ s. labels_made s ≡ [])) c.in-Some.ensures.steps.0 c.loop-seat.invariant.left)

pub loop-seat-preserved : goal.loop-seat-preserved
loop-seat-preserved g c =
    let so = c.loop-seat.invariant in
    let member = c.new.result in
    record {
      made = subst (All (HasMadeAll [])) (sym c.in_ok-push.ensures.items) (All-push (HasMadeAll []) c.loop-seat.crew.items member so.made (fresh member c.new.ensures.halt c.new.ensures.made));
      left = All-tail (λ s. labels_made s ≡ []) c.in-Some.seat c.next.new.self.rest.items (subst (All (λ s. labels_made s ≡ [])) c.in-Some.ensures.steps.0 so.left);
    }
