use Rattle.lc_crew.proofs.Ends.{next-made}
use Rattle.lc_crew.proofs.phase.play_on.Goals as goal

pub returns : goal.returns
returns g c =
    next-made c.args.plan.now c.args.number c.index.result.now c.deref.result.now c.args.member c.plays_phase.result c.requires.below c.index.ensures c.deref.ensures.value c.requires.made c.plays_phase.ensures.plays
    c.plays_phase.ensures.same
