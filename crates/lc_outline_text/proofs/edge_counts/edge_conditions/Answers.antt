use Rattle.std.proofs.Common.{map, refl, sym, ap, ◌∙◌}
use Rattle.lc_sexp.specs.Shown.{rest_of}
use Rattle.lc_object.specs.View.{columns_of}
use Rattle.lc_object_text.specs.DeclaredView.{declared_view}
use Rattle.lc_object_text.specs.ObjectNames.{first_text, within_first, later}
use Rattle.lc_outline_text.specs.DeclarationsView.{declarations_view}
use Rattle.lc_outline_text.specs.Paths.{stands, ways_kept}
use Rattle.lc_outline_text.specs.Sizes.{columns_acted, columns_written, all_ways, edge_conditions}
use Rattle.lc_outline_text.specs.StoredView.{ways_of_riders}
use Rattle.lc_outline_text.specs.Views.{capped, rest_found}
use Rattle.lc_outline_text.proofs.Different.{joined_alike}
use Rattle.lc_outline_text.proofs.Paths.{same_paths}
use Rattle.lc_outline_text.proofs.edge_counts.edge_conditions.Goals as goal

pub returns-clause-count : goal.returns-clause-count
returns-clause-count c =
    let d = declarations_view c.args.declarations.now in
    let o = c.args.operation in
    let ts = rest_of c.in-Some.parts in
    let action = columns_of c.columns_acted-action.result.now in
    let acted = columns_acted d (first_text (within_first ts)) in
    let xs = columns_of c.deref-2.result.now in
    let ys = columns_written (declared_view c.args.declarations.now.declared) (first_text (rest_of c.args.code)) c.args.kind (rest_of c.args.code) in
    let written = ap columns_of c.deref-2.ensures.value ∙ c.in_ok-columns.ensures in
    let acts = c.columns_acted-action.ensures ∙ ap (λ name. stands (columns_acted d name)) (c.first_text.ensures ∙ ap first_text c.within_first.ensures.rest) in
    let riders = ap (λ rs. map ways_kept (ways_of_riders rs)) c.deref.ensures.value ∙ c.in_ok-riders.ensures ∙ ap (λ us. map ways_kept (all_ways d o us)) c.behind_first.ensures.rest in
    c.in_ok-count.ensures.count
    ∙ ap capped (same_paths action acted (ways_of_riders c.deref.result.now) (all_ways d o (later ts)) riders c.args.asked c.args.asked xs ys refl (joined_alike xs ys action acted (ap stands written) acts))
    ∙ ap (λ on. capped (edge_conditions d o (rest_found on) c.args.asked ys)) (sym c.in-Some.is)
