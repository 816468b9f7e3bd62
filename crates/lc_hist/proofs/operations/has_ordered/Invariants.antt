use Rattle.std.proofs.Common.{◌≡◌, drop}
use Rattle.std.specs.List.{list_any}
use Rattle.lc_seq.specs.Specification.{is_in_order}
use Rattle.lc_seq.specs.SpecView.{branches_of}
use Rattle.lc_hist.proofs.operations.has_ordered.Given as goal

-- what is left decides the answer
abbrev pub invariant-loop-branch : goal.invariant-loop-branch
invariant-loop-branch l = list_any (λ b. is_in_order b.label) (branches_of l.branches) ≡ list_any (λ b. is_in_order b.label) (branches_of (drop l.branch-index l.branches))
