use Rattle.std.proofs.Common.{rules, [], ◌∷◌, ◌++◌, ◌≡◌, to_z, of_z, w64, ◌∙◌, inl, inr, ap}
use Rattle.std.specs.Prelude.{ℤ, pos, ◌-ℤ◌}
use Rattle.std.proofs.lemmas.Int.{to_z-of_z}
use Rattle.std.specs.Int.{w128}
use Rattle.lc_table.specs.Nodes.{tree_of}
use Rattle.lc_term.specs.Syntax.{Subtract}
use Rattle.lc_table.specs.Tables.{parts, formulas, term_in, formula_in, IsTerm}
use Rattle.lc_linear.specs.Closing.{gap}
use Rattle.lc_linear.proofs.Loads.{gap_behind}
use Rattle.lc_linear.proofs.Numbers.{wide_number_kept}
use Rattle.lc_linear.proofs.closing.push_gap.Goals as goal

pub returns-in_ok-push-in-Le-2 : goal.returns-in_ok-push-in-Le-2
returns-in_ok-push-in-Le-2 c =
    let ts = c.args.terms.now in
    let difference : gap (formula_in ts c.args.formula) ≡ Subtract (term_in ts c.in-Le.left) (term_in ts c.in-Le.right) = elim c.in-Le.is [
      | inl is ↦ ap gap (c.formula_node.ensures.tree ∙ ap (tree_of (parts ts) (formulas ts)) is)
      | inr is ↦ ap gap (c.formula_node.ensures.tree ∙ ap (tree_of (parts ts) (formulas ts)) is)
    ] in
    let is_l : IsTerm ts c.in-Le.left = search rules in
    let is_r : IsTerm ts c.in-Le.right = search rules in
    let same = to_z-of_z w64 c.args.multiplier c.ranges.multiplier in
    let there : ℤ = to_z w128 (of_z w128 c.wide.result) in
    let back : ℤ = to_z w128 (of_z w128 c.negated.result) in
    gap_behind ts c.args.multiples.now.items c.in-Le.left c.in-Le.right c.args.multiplier there back (gap (formula_in ts c.args.formula)) difference
    (wide_number_kept c.wide.result (record { sfits = c.wide.type_inv }) ∙ c.wide.ensures ∙ same) (wide_number_kept c.negated.result (record { sfits = c.negated.type_inv }) ∙ c.negated.ensures ∙ ap (λ k. pos 0 -ℤ k) same) is_l is_r c.push-in-Le.new.self.items
    (c.in_ok-push-in-Le-2.ensures.items ∙ ap (λ xs. xs ++ ((c.in-Le.right, back) ∷ [])) c.in_ok-push-in-Le.ensures.items)
