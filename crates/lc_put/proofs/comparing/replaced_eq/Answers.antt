use Rattle.lc_put.proofs.Remembered.{stands_later}
use Rattle.lc_put.proofs.comparing.replaced_eq.Goals as goal

pub returns-clause-done : goal.returns-clause-done
returns-clause-done g c = stands_later g.R.Filled.replacement c.args.put.now c.replaced_sides.new.table c.eq-2.new.self c.replaced_sides.new.done c.in_ok-left.ensures.done c.eq-2.ensures.kept
