use Rattle.std.proofs.Common.{◌≡◌, ◌∙◌, inl, inr, ap, sym, refl, subst, pos, to_z}
use Rattle.std.specs.Int.{w128}
use Rattle.std.proofs.Math.IntN.{zero-*ℤ, +ℤ_idr}
use Rattle.std.specs.Prelude.{◌*ℤ◌, ◌+ℤ◌}
use Rattle.lc_table.specs.Nodes.{tree_of}
use Rattle.lc_term.specs.Syntax.{Subtract}
use Rattle.lc_table.specs.Tables.{parts, formulas, term_in, formula_in}
use Rattle.lc_linear.specs.Closing.{gap}
use Rattle.lc_linear.specs.Form.{form_of}
use Rattle.lc_linear.specs.LinForm.{AddsIn, numbers}
use Rattle.lc_linear.proofs.InTables.{Reads-same}
use Rattle.lc_linear.proofs.Numbers.{wide_number_kept}
use Rattle.lc_linear.proofs.closing.add_gap.Goals as goal

pub returns-in_ok-add_difference-in-Le : goal.returns-in_ok-add_difference-in-Le
returns-in_ok-add_difference-in-Le c =
    let ts = c.args.terms.now in
    let difference : gap (formula_in ts c.args.formula) ≡ Subtract (term_in ts c.in-Le.left) (term_in ts c.in-Le.right) = elim c.in-Le.is [
      | inl is ↦ ap gap (c.formula_node.ensures.tree ∙ ap (tree_of (parts ts) (formulas ts)) is)
      | inr is ↦ ap gap (c.formula_node.ensures.tree ∙ ap (tree_of (parts ts) (formulas ts)) is)
    ] in
    let old = c.args.form.now in
    let new = c.add_difference.new.form in
    subst (λ t. AddsIn ts old new (λ p. c.args.count *ℤ form_of t p)) (sym difference)
    (subst (λ k. AddsIn ts old new (λ p. k *ℤ form_of (Subtract (term_in ts c.in-Le.left) (term_in ts c.in-Le.right)) p)) (wide_number_kept c.args.count c.ranges.count) c.in_ok-add_difference-in-Le.ensures)

pub returns-then-count-eq0 : goal.returns-then-count-eq0
returns-then-count-eq0 c = λ f old.
    let ts = c.args.terms.now in
    let form = numbers c.args.form.now in
    let g = form_of (gap (formula_in ts c.args.formula)) in
    let none : c.args.count ≡ pos 0 = sym (wide_number_kept c.args.count c.ranges.count) ∙ ap (to_z w128) c.if-count-eq0.true in
    Reads-same ts form form f _ (λ p. refl) (λ p. sym (ap (λ k. f p +ℤ k *ℤ g p) none ∙ ap (λ k. f p +ℤ k) (zero-*ℤ (g p)) ∙ +ℤ_idr (f p))) old
