use Rattle.lc_machine.proofs.Sums.{AreSums}
use Rattle.lc_machine.proofs.numbers.add.Given as goal

abbrev pub invariant-loop-i : goal.invariant-loop-i
invariant-loop-i l = AreSums l.numbers l.added l.i l.sums.items
