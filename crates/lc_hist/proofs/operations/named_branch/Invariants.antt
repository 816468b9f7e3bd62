use Rattle.std.proofs.Common.{◌≡◌, drop}
use Rattle.std.specs.List.{list_any}
use Rattle.lc_seq.specs.Specification.{names}
use Rattle.lc_seq.specs.SpecView.{branches_of}
use Rattle.lc_hist.proofs.operations.named_branch.Given as goal

-- what is left decides the answer
abbrev pub invariant-loop-branch : goal.invariant-loop-branch
invariant-loop-branch l =
    list_any (λ b. names b.label l.text l.count) (branches_of l.branches) ≡ list_any (λ b. names b.label l.text l.count) (branches_of (drop l.branch-index l.branches))
