use Rattle.lc_crew.specs.Phases.{phases_to}
use Rattle.lc_crew.proofs.Turns.{ended-made-all}
use Rattle.lc_crew.proofs.player.Player.into_member.Goals as goal

pub returns : goal.returns
returns g c =
    ended-made-all (phases_to c.args._plan.now c.args._phases) c.args.self c.halted.result c.halt_in.result c.requires.ended c.requires.way c.halt_in.ensures c.halted.ensures.client c.halted.ensures.halt c.halted.ensures.made
