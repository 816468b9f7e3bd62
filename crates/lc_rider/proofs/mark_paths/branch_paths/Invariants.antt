use Rattle.std.proofs.Common.{◌≡◌, ◌++◌, List, drop}
use Rattle.lc_put.specs.PutNumbers.{terms_in}
use Rattle.lc_table.specs.Tables.{term_in, Keeps}
use Rattle.lc_seq.specs.TextView.{specification_of}
use Rattle.lc_action.specs.ActionView.{first_of}
use Rattle.lc_rider.specs.MarkView.{marking_of, branches_at}
use Rattle.lc_rider.specs.Paths.{Path, branch_paths}
use Rattle.lc_rider.specs.PathView.{path_in, IsPath}
use Rattle.lc_rider.specs.PathsAdded.{AddsPaths}
use Rattle.lc_rider.proofs.mark_paths.branch_paths.Given as goal

-- the paths so far, with those of the branches that are left, are all
abbrev pub invariant-loop-number : goal.invariant-loop-number
invariant-loop-number l =
    let operations = (specification_of l.mark.specification.now).operations in
    let first = first_of l.mark.system in
    let c = term_in l.fn.terms l.mark.client in
    let k = marking_of l.mark.marking c in
    let τ = terms_in l.fn.terms l.variables in
    record {
      kept : Keeps l.fn.terms l.terms;
      path : IsPath l.terms l.path;
      paths : (done : List Path) × AddsPaths l.initial.paths.items l.terms l.paths.items done
          × (done ++ branch_paths operations first l.mark.rider k τ (branches_at (drop l.number l.branches)) (path_in l.terms l.path)
          ≡ branch_paths operations first l.mark.rider k τ (branches_at l.branches) (path_in l.fn.terms l.initial.path));
    }
