use Rattle.lc_put.proofs.Remembered.{notes_inserted}
use Rattle.lc_put.proofs.put.ReplacedNodes.note_formula.Goals as goal

pub returns-in_ok-insert-clause-formulas : goal.returns-in_ok-insert-clause-formulas
returns-in_ok-insert-clause-formulas c = notes_inserted c.args.self.now.formulas.entries c.insert.new.self.entries c.args.occurrence c.args.number c.in_ok-insert.ensures.updates.0
