use Rattle.std.proofs.Common.{◌+◌, sym, subst}
use Rattle.std.specs.Prelude.{All}
use Rattle.std.proofs.lemmas.List.Elements.{All-push, All-tail}
use Rattle.lc_crew.specs.Members.{HasMadeAll}
use Rattle.lc_crew.specs.Phases.{phases_to}
use Rattle.lc_crew.specs.Turns.{IsOnWay}
use Rattle.lc_crew.proofs.drawn.players_of.Goals as goal

pub loop-member-preserved-in-Continue-branch-2 : goal.loop-member-preserved-in-Continue-branch-2
loop-member-preserved-in-Continue-branch-2 g c =
    let made = HasMadeAll {J = g.row.J.Denot} (phases_to c.args.plan.now c.args.number) in
    let all = HasMadeAll {J = g.row.J.Denot} (phases_to c.args.plan.now (c.args.number + 1)) in
    let so = c.loop-member.invariant in
    record {
      going = so.going;
      ended = subst (All all) (sym c.in_ok-push.ensures.items) (All-push all c.loop-member.ended.items c.into_member.result so.ended c.into_member.ensures);
      left = All-tail made c.in-Some.member c.next.new.self.rest.items (subst (All made) c.in-Some.ensures.steps.0 so.left);
    }

pub loop-member-preserved : goal.loop-member-preserved
loop-member-preserved g c =
    let made = HasMadeAll {J = g.row.J.Denot} (phases_to c.args.plan.now c.args.number) in
    let way = IsOnWay {J = g.row.J.Denot} (phases_to c.args.plan.now (c.args.number + 1)) in
    let so = c.loop-member.invariant in
    record {
      going = subst (All way) (sym c.in_ok-push-2.ensures.items) (All-push way c.loop-member.going.items c.in_ok-player.player so.going c.in_ok-player.ensures);
      ended = so.ended;
      left = All-tail made c.in-Some.member c.next.new.self.rest.items (subst (All made) c.in-Some.ensures.steps.0 so.left);
    }
