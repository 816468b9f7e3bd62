use Rattle.std.proofs.Common.{List, map, sym, ap, ◌∙◌, subst}
use Rattle.std.proofs.lemmas.Result.{IfOk-weaker}
use Rattle.lc_put.specs.PutNumbers.{terms_in, AreTerms}
use Rattle.lc_term.specs.Syntax.{Term}
use Rattle.lc_term.specs.View.{term_of}
use Rattle.lc_put.proofs.ByNumber.{are_terms_later, terms_still}
use Rattle.lc_seq.specs.TextView.{specification_of}
use Rattle.lc_action.specs.ActionView.{first_of}
use Rattle.lc_rider.specs.Paths.{Path, paths}
use Rattle.lc_rider.specs.RiderView.{riders_of}
use Rattle.lc_rider.proofs.PathsAdded.{have_same}
use Rattle.lc_rider.proofs.edge_paths.paths.Goals as goal

pub ridden-requires-clause-variables : goal.ridden-requires-clause-variables
ridden-requires-clause-variables c =
    let t1 = c.enter_terms.new.table in
    are_terms_later t1 c.path_start.new.terms c.deref-2.result.now (subst (AreTerms t1) (sym c.deref-2.ensures.value) c.in_ok-variables-2.ensures.are) c.in_ok-start.ensures.kept

pub returns-clause-paths : goal.returns-clause-paths
returns-clause-paths c =
    let operations = (specification_of c.args.specification.now).operations in
    let first = first_of c.args.edge.system in
    let o = c.args.edge.operation.0 in
    let t1 = c.enter_terms.new.table in
    let t2 = c.path_start.new.terms in
    let t3 = c.ridden.new.terms in
    let ks = c.deref-2.result.now in
    let are : AreTerms t1 ks = subst (AreTerms t1) (sym c.deref-2.ensures.value) c.in_ok-variables-2.ensures.are in
    let variables = terms_still t1 t2 ks are c.in_ok-start.ensures.kept
    ∙ (ap (terms_in t1) c.deref-2.ensures.value ∙ (c.in_ok-variables-2.ensures.trees ∙ (ap (map term_of) c.deref.ensures.value ∙ c.in_ok-variables.ensures))) in
    let all : List Term → Path → List Path = λ τ p. paths operations first 0 o τ (riders_of c.args.edge.riders.now) p in
    IfOk-weaker c.ridden.result _ _ (λ ps h. have_same t3 ps.items _ _ h (λ i. all (variables i) (c.in_ok-start.ensures.path.path i))) c.ridden.ensures.paths
