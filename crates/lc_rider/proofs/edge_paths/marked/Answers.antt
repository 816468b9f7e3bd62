use Rattle.std.proofs.Common.{◌≡◌, List, map, ap, ◌∙◌, sym, subst}
use Rattle.std.proofs.lemmas.Result.{on_ok_weaker}
use Rattle.lc_put.specs.PutNumbers.{terms_in, AreTerms}
use Rattle.lc_term.specs.Replacement.{replacing, replace_term}
use Rattle.lc_term.specs.Said.{term_at}
use Rattle.lc_term.specs.Syntax.{Term}
use Rattle.lc_put.proofs.ByNumber.{are_terms_later, terms_still}
use Rattle.lc_table.proofs.Later.{kept_on, term_is, term_still, is_term_still}
use Rattle.lc_seq.specs.Branches.{op_branches}
use Rattle.lc_seq.specs.Sequential.{given_in}
use Rattle.lc_seq.specs.Specification.{chosen}
use Rattle.lc_seq.specs.TextView.{specification_of}
use Rattle.lc_action.specs.ActionView.{first_of}
use Rattle.lc_rider.specs.MarkView.{marking_of}
use Rattle.lc_rider.specs.Paths.{Path, choice_paths}
use Rattle.lc_rider.specs.PathView.{path_in}
use Rattle.lc_rider.specs.RiderView.{choosing_of}
use Rattle.lc_rider.proofs.PathsAdded.{adds_same}
use Rattle.lc_rider.proofs.PathLater.{is_path_later, path_still}
use Rattle.lc_rider.proofs.Reading.{has_is_term}
use Rattle.lc_rider.proofs.edge_paths.marked.Goals as goal

pub said_before-requires-2 : goal.said_before-requires-2
said_before-requires-2 c =
    let t0 = c.args.terms.now in
    let t1 = c.said_before.new.terms in
    record {
      path = is_path_later t0 t1 c.args.path c.requires.path c.in_ok-client.ensures.kept;
      variables = are_terms_later t0 t1 c.args.turn.riding.variables.now c.requires.variables c.in_ok-client.ensures.kept;
    }

pub mark_paths-requires : goal.mark_paths-requires
mark_paths-requires c =
    let t0 = c.args.terms.now in
    let t1 = c.said_before.new.terms in
    let t2 = c.said_before-2.new.terms in
    let kept12 = c.in_ok-given.ensures.kept in
    let client = c.in_ok-client.client in
    record {
      path = is_path_later t0 t2 c.args.path c.requires.path (kept_on t0 t1 t2 c.in_ok-client.ensures.kept kept12);
      client = is_term_still t1 t2 client (has_is_term t1 client _ c.in_ok-client.ensures.id) kept12;
      given = subst (AreTerms t2) (sym c.deref.ensures.value) c.in_ok-given.ensures.are;
    }

pub returns-clause-paths : goal.returns-clause-paths
returns-clause-paths c =
    let operations = (specification_of c.args.turn.riding.specification.now).operations in
    let first = first_of c.args.turn.riding.system in
    let o = c.args.operation.0 in
    let by = choosing_of c.args.by.now in
    let bs = chosen by (op_branches operations o) in
    let t0 = c.args.terms.now in
    let t1 = c.said_before.new.terms in
    let t2 = c.said_before-2.new.terms in
    let t3 = c.mark_paths.new.terms in
    let kept01 = c.in_ok-client.ensures.kept in
    let kept12 = c.in_ok-given.ensures.kept in
    let k = c.in_ok-client.client in
    let client = term_still t1 t2 k (has_is_term t1 k _ c.in_ok-client.ensures.id) kept12 ∙ term_is t1 k _ c.in_ok-client.ensures.id in
    let still1 = path_still t0 t1 c.args.path c.requires.path kept01 in
    let still = path_still t0 t2 c.args.path c.requires.path (kept_on t0 t1 t2 kept01 kept12) in
    let variables = terms_still t0 t1 c.args.turn.riding.variables.now c.requires.variables kept01 in
    let all : Path → List Term → List Term → List Term = λ q xs us. map (replace_term (replacing q.columns (term_at xs))) us in
    let given : terms_in t2 c.deref.result.now ≡ all (path_in t0 c.args.path) (terms_in t0 c.args.turn.riding.variables.now) (given_in by) =
    ap (terms_in t2) c.deref.ensures.value ∙ (c.in_ok-given.ensures.trees ∙ (λ i. all (still1 i) (variables i) (c.terms.ensures i))) in
    let behind : Term → List Term → Path → List Path = λ u xs q. choice_paths operations first c.args.turn.number o (marking_of c.args.marking u) u xs bs q in
    on_ok_weaker c.mark_paths.result (λ h. adds_same c.args.paths.now.items c.mark_paths.new.paths.items t3 _ _ h (λ i. behind (client i) (given i) (still i))) c.mark_paths.ensures.paths
