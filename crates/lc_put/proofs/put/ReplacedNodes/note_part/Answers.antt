use Rattle.lc_put.proofs.Remembered.{notes_inserted}
use Rattle.lc_put.proofs.put.ReplacedNodes.note_part.Goals as goal

pub returns-in_ok-insert-clause-parts : goal.returns-in_ok-insert-clause-parts
returns-in_ok-insert-clause-parts c = notes_inserted c.args.self.now.parts.entries c.insert.new.self.entries c.args.occurrence c.args.number c.in_ok-insert.ensures.updates.0
