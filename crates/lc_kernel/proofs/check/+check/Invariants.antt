use Rattle.std.proofs.Common.{◌≡◌, ◌+◌, ◌*◌, ◌++◌, drop}
use Rattle.lc_table.specs.Tables.{formulas_in, Keeps}
use Rattle.lc_kernel.specs.Branches.{branches_in}
use Rattle.lc_kernel.specs.Proofs.{proofs, size, size_of_all}
use Rattle.lc_kernel.specs.View.{proof_of, proofs_of}
use Rattle.lc_kernel.proofs.Branches.{Left}
use Rattle.lc_kernel.proofs.check.+check.Given as goal

abbrev pub decreases-check : goal.decreases-check
decreases-check l = 2 * size (proof_of l.proof.now)

abbrev pub decreases-check_each : goal.decreases-check_each
decreases-check_each l = 2 * size_of_all (proofs (proofs_of l.children.now)) + 1

-- what is left decides of all, what is appended is what was at the start, and each number keeps its tree
abbrev pub invariant-check_each-loop-i : goal.invariant-check_each-loop-i
invariant-check_each-loop-i l =
    Left l.variables (formulas_in l.fn.terms (l.given ++ l.fn.appended.items)) (branches_in l.fn.terms l.branches) (proofs (proofs_of l.children)) l.first l.next
    (drop l.i (branches_in l.fn.terms l.branches)) (proofs (proofs_of (drop l.i l.children)))
    × (l.appended.items ≡ l.fn.appended.items) × Keeps l.fn.terms l.terms
