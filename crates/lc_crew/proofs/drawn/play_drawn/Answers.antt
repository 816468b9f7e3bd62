use Rattle.std.proofs.Common.{◌+◌, sym, subst, arith}
use Rattle.std.specs.Prelude.{All}
use Rattle.std.proofs.lemmas.List.Elements.{All-push}
use Rattle.lc_crew.specs.Members.{HasMadeAll}
use Rattle.lc_crew.specs.Phases.{phases_to}
use Rattle.lc_crew.specs.Turns.{IsOnWay}
use Rattle.lc_crew.proofs.Turns.{All-inserted, All-removed}
use Rattle.lc_crew.proofs.drawn.play_drawn.Goals as goal

pub loop-turn-preserved-in-Continue-branch-3 : goal.loop-turn-preserved-in-Continue-branch-3
loop-turn-preserved-in-Continue-branch-3 g c =
    let way = IsOnWay {J = g.row.J.Denot} (phases_to c.args.plan.now (c.args.number + 1)) in
    let all = HasMadeAll {J = g.row.J.Denot} (phases_to c.args.plan.now (c.args.number + 1)) in
    let so = c.loop-turn.invariant in
    record {
      going = subst (All way) (sym c.remove-player.ensures.items) (All-removed way c.loop-turn.going.items c.place-place.result so.going);
      ended = subst (All all) (sym c.in_ok-push.ensures.items) (All-push all c.loop-turn.ended.items c.into_member.result so.ended c.into_member.ensures);
    }

pub loop-turn-preserved : goal.loop-turn-preserved
loop-turn-preserved g c =
    let phases = phases_to c.args.plan.now (c.args.number + 1) in
    let way = IsOnWay {J = g.row.J.Denot} phases in
    let so = c.loop-turn.invariant in
    let place = c.place-place.result in
    let player = c.remove-player.result in
    let turned = c.in_ok-take_turn.ensures phases (subst way (sym c.remove-player.ensures.value) (so.going place player (omega (arith, c.place-place.ensures.below, c.len.ensures, c.loop-turn.going.ok.0)))) in
    let others = subst (All way) (sym c.remove-player.ensures.items) (All-removed way c.loop-turn.going.items place so.going) in
    record {
      going = subst (All way) (sym c.in_ok-insert.ensures.items) (All-inserted way c.remove-player.new.self.items place c.take_turn.new.self turned others);
      ended = so.ended;
    }
