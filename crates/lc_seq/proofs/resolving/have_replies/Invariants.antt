use Rattle.std.proofs.Common.{◌≡◌, ◌==◌, length, drop}
use Rattle.std.specs.List.{list_all}
use Rattle.lc_seq.specs.SpecView.{branches_of}
use Rattle.lc_seq.proofs.resolving.have_replies.Given as goal

-- what is left decides the answer
abbrev pub invariant-loop-branch : goal.invariant-loop-branch
invariant-loop-branch l = list_all (λ branch. length branch.replies == l.count) (branches_of l.branches) ≡ list_all (λ branch. length branch.replies == l.count) (branches_of (drop l.branch-index l.branches))
