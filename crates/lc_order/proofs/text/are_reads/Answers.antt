use Rattle.std.proofs.Common.{◌≡◌, length, arith}
use Rattle.lc_term.specs.UpdateView.{update_of}
use Rattle.lc_seq.specs.SpecView.{branch_of, branches_of}
use Rattle.lc_order.proofs.Listing.{reads_next, none_of, branch_there}
use Rattle.lc_order.proofs.text.are_reads.Goals as goal

pub loop-branch-preserved : goal.loop-branch-preserved
loop-branch-preserved c =
    let branch = c.branch-item.result in
    let none : length branch.updates.items ≡ 0 = grind (arith, c.is_empty.ensures, c.if-not-is_empty.false) in
    reads_next (branches_of c.args.branches.now) c.loop-branch.branch-index (branch_of branch) (branch_there c.args.branches.now c.loop-branch.branch-index branch c.loop-branch-test.true c.branch-item.is)
    (none_of update_of branch.updates.items none) c.loop-branch.invariant
