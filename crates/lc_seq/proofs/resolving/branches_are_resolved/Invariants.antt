use Rattle.std.proofs.Common.{◌≡◌, map, drop}
use Rattle.lc_base.specs.Name.{bytes_of}
use Rattle.std.specs.List.{list_all}
use Rattle.lc_seq.specs.Specification.{branch_is_resolved, variables_of}
use Rattle.lc_seq.specs.SpecView.{branches_of}
use Rattle.lc_seq.proofs.resolving.branches_are_resolved.Given as goal

-- what is left decides the answer
abbrev pub invariant-loop-branch : goal.invariant-loop-branch
invariant-loop-branch l =
    list_all (λ b. branch_is_resolved l.columns (variables_of (map bytes_of l.arguments) b) b) (branches_of l.branches)
    ≡ list_all (λ b. branch_is_resolved l.columns (variables_of (map bytes_of l.arguments) b) b) (branches_of (drop l.branch-index l.branches))
