use Rattle.std.proofs.Common.{◌+◌, ◌*◌, ◌≤◌, zero}
use Rattle.lc_sexp.specs.Trees.{item_count, item_count_of_all}
use Rattle.lc_sexp.specs.Shown.{rest_of, number_of}
use Rattle.lc_kernel.specs.Proofs.{more}
use Rattle.lc_kernel.specs.View.{proof_of}
use Rattle.lc_reading.specs.Parts.{tree_of}
use Rattle.lc_reading.proofs.SoFar.{IsSoFar}
use Rattle.lc_proof_text.specs.Proofs.{proofs_reading}
use Rattle.lc_proof_text.proofs.proof.+read_proof.Given as goal

abbrev pub decreases-read_proof : goal.decreases-read_proof
decreases-read_proof g l = 2 * item_count (tree_of l.part)

abbrev pub decreases-read_step : goal.decreases-read_step
decreases-read_step g l = 2 * item_count_of_all (rest_of l.list.now) + 2

abbrev pub decreases-read_branches : goal.decreases-read_branches
decreases-read_branches g l = 2 * item_count_of_all (rest_of l.list.now) + 1

abbrev pub decreases-read_branches-proofs : goal.decreases-read_branches-proofs
decreases-read_branches-proofs g l = item_count_of_all (rest_of l.list)

-- the proofs that are read, and those that are left
abbrev pub invariant-read_branches-proofs : goal.invariant-read_branches-proofs
invariant-read_branches-proofs g l =
    let names = g.S.Scope.names l.scope in
    record {
      read : IsSoFar proof_of more (proofs_reading names l.fn.owner zero l.fn.due (number_of l.fn.list) (rest_of l.fn.list)) (proofs_reading names l.fn.owner zero l.due (number_of l.list) (rest_of l.list)) l.proofs;
      shorter : item_count_of_all (rest_of l.list) ≤ item_count_of_all (rest_of l.fn.list);
    }
