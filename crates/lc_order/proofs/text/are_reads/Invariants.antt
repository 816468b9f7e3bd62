use Rattle.lc_seq.specs.SpecView.{branches_of}
use Rattle.lc_order.specs.Only.{AreReads}
use Rattle.lc_order.proofs.text.are_reads.Given as goal

abbrev pub invariant-loop-branch : goal.invariant-loop-branch
invariant-loop-branch l = AreReads (branches_of l.branches) l.branch-index
