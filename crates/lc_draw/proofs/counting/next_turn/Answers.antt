use Rattle.lc_draw.proofs.Turning.{one_turn}
use Rattle.lc_draw.proofs.counting.next_turn.Goals as goal

pub returns-clause-more : goal.returns-clause-more
returns-clause-more c = one_turn c.args.turns.now.entries c.insert.new.self.entries c.args.client c.turns_of-turn.result c.turns_of-turn.ensures c.in_ok-insert.ensures.updates.0
