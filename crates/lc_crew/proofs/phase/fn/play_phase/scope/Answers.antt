use denote.Exit.{no}
use denote.Param.Send.{arg_send, param_send}
use Rattle.std.proofs.Common.{◌+◌, ap, sym, subst, ◌∙◌}
use Rattle.std.specs.Prelude.{All}
use Rattle.std.proofs.lemmas.List.Elements.{All-push, All-tail}
use Rattle.lc_crew.specs.Members.{HasMadeAll}
use Rattle.lc_crew.specs.Phases.{phases_to, IsToMake}
use Rattle.lc_crew.specs.declared.phase.MakesTo.{MakesTo}
use Rattle.lc_crew.proofs.Crossing.{taken-send}
use Rattle.lc_crew.proofs.phase.fn.play_phase.scope.Goals as goal

pub spawn_with-requires-send-F : goal.spawn_with-requires-send-F
spawn_with-requires-send-F g c κs within = param_send 2 _ (arg_send _ no _ (taken-send g.row.J g.J.Ledger g.row.R _ _ _ _ c.requires-raw.1.1.1.0))

pub loop-member-preserved : goal.loop-member-preserved
loop-member-preserved g c =
    let plan = c.captures.plan.now in
    let n = c.captures.number in
    let made = HasMadeAll {J = g.row.J.Denot} (phases_to plan n) in
    let so = c.loop-member.invariant in
    let thread = c.in-Ok.thread in
    let left = subst (All made) c.in-Some.ensures.steps.0 so.left in
    record {
      threads = subst (All (IsToMake plan (n + 1))) (sym c.in_ok-push-in-Ok.ensures.items)
          (All-push (IsToMake plan (n + 1)) c.loop-member.threads.items thread so.threads
          (ap (λ (p : MakesTo). p.plan.value) c.in-Ok.ensures.ok ∙ c.of.ensures, ap (λ (p : MakesTo). p.phases) c.in-Ok.ensures.ok));
      left = All-tail made c.in-Some.member c.next.new.self.rest.items left;
    }
