use Rattle.lc_machine.proofs.EdgeLaw.{by_edge, from_edge}
use Rattle.lc_machine.proofs.laws.edges_give_the_steps.Goals as goal

pub returns : goal.returns
returns c = λ object well p point at s s' variables kind outcome. (by_edge object well p point at s s' variables kind outcome, from_edge object well p point at s s' variables kind outcome)
