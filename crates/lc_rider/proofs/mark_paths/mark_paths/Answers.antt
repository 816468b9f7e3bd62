use Rattle.std.proofs.Common.{◌≡◌, List, ap, sym, ◌∙◌, subst}
use Rattle.std.proofs.lemmas.Result.{on_ok_weaker}
use Rattle.lc_put.specs.PutNumbers.{terms_in, AreTerms}
use Rattle.lc_term.specs.Syntax.{Term}
use Rattle.lc_table.specs.Tables.{term_in}
use Rattle.lc_put.proofs.ByNumber.{are_terms_later, terms_still}
use Rattle.lc_table.proofs.Later.{kept_on, term_still, is_term_still}
use Rattle.lc_seq.specs.Branches.{op_branches, arity}
use Rattle.lc_seq.specs.Specification.{Branch, chosen}
use Rattle.lc_seq.specs.TextView.{specification_of}
use Rattle.lc_action.specs.ActionView.{first_of}
use Rattle.lc_rider.specs.MarkView.{marking_of, branches_at}
use Rattle.lc_rider.specs.Paths.{Path, branch_variables, owing, branch_paths}
use Rattle.lc_rider.specs.PathView.{path_in}
use Rattle.lc_rider.specs.RiderView.{choosing_of}
use Rattle.lc_rider.proofs.PathsAdded.{adds_same}
use Rattle.lc_rider.proofs.PathLater.{is_path_later, path_still}
use Rattle.lc_rider.proofs.mark_paths.mark_paths.Goals as goal

pub with_mark_duties-requires : goal.with_mark_duties-requires
with_mark_duties-requires c =
    let t0 = c.args.terms.now in
    let t1 = c.call_variables.new.terms in
    let kept = c.in_ok-variables.ensures.kept in
    record {
      path = is_path_later t0 t1 c.args.path c.requires.path kept;
      client = is_term_still t0 t1 c.args.mark.client c.requires.client kept;
      variables = subst (AreTerms t1) (sym c.deref-2.ensures.value) c.in_ok-variables.ensures.are;
    }

pub branch_paths-requires : goal.branch_paths-requires
branch_paths-requires c =
    let t0 = c.args.terms.now in
    let t1 = c.call_variables.new.terms in
    let t2 = c.with_mark_duties.new.terms in
    let ks = c.in_ok-variables.variables.items in
    let kept12 = c.in_ok-owing.ensures.kept in
    record {
      path = c.in_ok-owing.ensures.path.is;
      client = is_term_still t0 t2 c.args.mark.client c.requires.client (kept_on t0 t1 t2 c.in_ok-variables.ensures.kept kept12);
      variables = subst (AreTerms t2) (sym c.deref-4.ensures.value) (are_terms_later t1 t2 ks c.in_ok-variables.ensures.are kept12);
    }

pub returns-clause-paths : goal.returns-clause-paths
returns-clause-paths c =
    let operations = (specification_of c.args.mark.specification.now).operations in
    let first = first_of c.args.mark.system in
    let n = c.args.mark.rider in
    let m = c.args.mark.marking in
    let by = choosing_of c.args.by.now in
    let t0 = c.args.terms.now in
    let t1 = c.call_variables.new.terms in
    let t2 = c.with_mark_duties.new.terms in
    let t3 = c.branch_paths.new.terms in
    let client = c.args.mark.client in
    let ks = c.in_ok-variables.variables.items in
    let kept01 = c.in_ok-variables.ensures.kept in
    let kept12 = c.in_ok-owing.ensures.kept in
    let kept02 = kept_on t0 t1 t2 kept01 kept12 in
    let u0 = term_in t0 client in
    let p0 = path_in t0 c.args.path in
    let bs = chosen by (op_branches operations c.args.mark.operation.0) in
    let τ : List Term = branch_variables p0.columns first (arity operations c.args.mark.operation.0) u0 (terms_in t0 c.args.given.now) in
    let client_at : term_in t1 client ≡ u0 = term_still t0 t1 client c.requires.client kept01 in
    let client_now : term_in t2 client ≡ u0 = term_still t0 t2 client c.requires.client kept02 in
    let still = path_still t0 t1 c.args.path c.requires.path kept01 in
    let left : branches_at c.in_ok-branches.branches.items ≡ bs = c.in_ok-branches.ensures ∙ ap (chosen by) c.operation_branches-branches.ensures in
    let left_at : branches_at c.deref.result.now ≡ bs = ap branches_at c.deref.ensures.value ∙ left in
    let left_now : branches_at c.deref-3.result.now ≡ bs = ap branches_at c.deref-3.ensures.value ∙ left in
    let said_at : terms_in t1 c.deref-2.result.now ≡ τ = ap (terms_in t1) c.deref-2.ensures.value ∙ c.in_ok-variables.ensures.trees in
    let said_now : terms_in t2 c.deref-4.result.now ≡ τ =
    ap (terms_in t2) c.deref-4.ensures.value ∙ (terms_still t1 t2 ks c.in_ok-variables.ensures.are kept12 ∙ c.in_ok-variables.ensures.trees) in
    let owes : Term → List Term → List Branch → Path → Path = λ u xs cs q. owing operations first n (marking_of m u) u xs cs q in
    let owed : path_in t2 c.in_ok-owing.owing ≡ owes u0 τ bs p0 = c.in_ok-owing.ensures.path.path ∙ (λ i. owes (client_at i) (said_at i) (left_at i) (still i)) in
    let behind : Term → List Term → List Branch → Path → List Path = λ u xs cs q. branch_paths operations first n (marking_of m u) xs cs q in
    on_ok_weaker c.branch_paths.result (λ h. adds_same c.args.paths.now.items c.branch_paths.new.paths.items t3 _ _ h
    (λ i. behind (client_now i) (said_now i) (left_now i) (owed i))) c.branch_paths.ensures.paths
