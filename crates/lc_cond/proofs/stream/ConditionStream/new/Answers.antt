use Rattle.std.proofs.Common.{ap, ◌∙◌, arith}
use Rattle.lc_term.specs.Lists.{concat_map}
use Rattle.lc_outline.specs.DevelopmentView.{development_view}
use Rattle.lc_cond.specs.Conditions.{conditions_in}
use Rattle.lc_cond.specs.PartView.{parts_along}
use Rattle.lc_object.specs.Edges.{edges}
use Rattle.lc_object.specs.EdgeView.{edge_of}
use Rattle.lc_cond.proofs.Few.{seen_length}
use Rattle.lc_cond.proofs.FewParts.{edges_few}
use Rattle.lc_cond.proofs.PartsList.{in_parts}
use Rattle.lc_cond.proofs.stream.ConditionStream.new.Goals as goal

pub returns-clause-left : goal.returns-clause-left
returns-clause-left c =
    let D = development_view c.args.development.now in
    ap (λ es. concat_map (conditions_in D) (parts_along D es)) c.in_ok-edges.ensures ∙ in_parts D

pub invariant_of-result : goal.invariant_of-result
invariant_of-result c =
    let D = development_view c.args.development.now in
    let few = edges_few D c.args.development.now.resolved in
    let size = seen_length edge_of c.in_ok-edges.edges.items (edges D.object) c.in_ok-edges.ensures in
    record { few_edges = omega (arith, few, size); few_parts = omega arith; few_conditions = omega arith }
