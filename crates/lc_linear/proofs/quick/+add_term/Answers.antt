use Rattle.std.proofs.Common.{rules, ◌∙◌, inl, inr, ap, sym, subst, to_z, of_z, w64}
use Rattle.std.specs.Prelude.{◌+ℤ◌, ◌*ℤ◌, FitsSigned}
use Rattle.std.specs.Int.{w128}
use Rattle.lc_table.specs.Nodes.{term_of_node}
use Rattle.lc_table.specs.Tables.{parts, term_in, column_in}
use Rattle.lc_linear.specs.LinForm.{numbers, HasNumbers}
use Rattle.lc_linear.specs.Numbered.{atom_form}
use Rattle.lc_linear.proofs.Made.{adds_number, adds_atom, adds_sum, adds_difference, adds_product}
use Rattle.lc_linear.proofs.Numbers.{wide_number_kept, widened_number, product_kept}
use Rattle.lc_linear.proofs.Parts.{IsAtom, IsAtom-Variable, IsAtom-Bound, IsAtom-Read}
use Rattle.lc_linear.proofs.quick.+add_term.Goals as goal
use Rattle.lc_linear.proofs.quick.+add_term.Goals.{In-Variable}

pub returns-in_ok-add_number-in-Number : goal.returns-in_ok-add_number-in-Number
returns-in_ok-add_number-in-Number t c =
    let f : FitsSigned w64 c.in-Number.number = search rules in
    let number = widened_number c.in-Number.number c.from.result f c.from.ensures in
    let m = product_kept _ _ c.in_ok-product-in-Number.ensures ∙ ap (λ n. to_z w128 (of_z w128 c.args.count) *ℤ n) number in
    adds_number c.args.terms.now c.args.form.now c.add_number.new.self (term_in c.args.terms.now c.args.term) c.args.count _ (wide_number_kept c.args.count c.ranges.count) c.in-Number.number _ c.in-Number.ensures.tree m c.in_ok-add_number-in-Number.ensures.ok

-- the term is an atom
atom : (t : _) (c : In-Variable t) → IsAtom (term_in c.args.terms.now c.args.term)
atom t c = elim c.in-Variable.is [
  | inl v ↦ subst IsAtom (sym (c.term_node.ensures.tree ∙ ap (term_of_node (parts c.args.terms.now)) v.1)) (IsAtom-Variable v.0)
  | inr (inl v) ↦ subst IsAtom (sym (c.term_node.ensures.tree ∙ ap (term_of_node (parts c.args.terms.now)) v.1)) (IsAtom-Bound v.0)
  | inr (inr v) ↦
      subst IsAtom (sym (c.term_node.ensures.tree ∙ ap (term_of_node (parts c.args.terms.now)) v.2)) (IsAtom-Read (column_in c.args.terms.now v.0) (term_in c.args.terms.now v.1))
]

pub returns-in_ok-add_atom-in-Variable : goal.returns-in_ok-add_atom-in-Variable
returns-in_ok-add_atom-in-Variable t c =
    let at = atom t (goal.at.returns-in_ok-add_atom-in-Variable t c).In-Variable in
    let added = subst (λ k. HasNumbers c.add_atom.new.self (λ p. numbers c.args.form.now p +ℤ k *ℤ atom_form c.args.term p)) (wide_number_kept c.args.count c.ranges.count) c.in_ok-add_atom-in-Variable.ensures.ok in
    adds_atom c.args.terms.now c.numbers_are_exact.ensures.terms c.args.term c.requires at c.args.form.now c.add_atom.new.self c.args.count added

pub returns-in_ok-add_term-in-Add-2 : goal.returns-in_ok-add_term-in-Add-2
returns-in_ok-add_term-in-Add-2 t c =
    let ts = c.args.terms.now in
    adds_sum ts c.args.form.now c.add_term-in-Add.new.form (term_in ts c.args.term) c.args.count _ (wide_number_kept c.args.count c.ranges.count) (term_in ts c.in-Add.left) (term_in ts c.in-Add.right) c.add_term.new.form c.in-Add.ensures.tree c.in_ok-add_term-in-Add.ensures c.in_ok-add_term-in-Add-2.ensures

pub returns-in_ok-add_term-in-Subtract-2 : goal.returns-in_ok-add_term-in-Subtract-2
returns-in_ok-add_term-in-Subtract-2 t c =
    let ts = c.args.terms.now in
    let back = product_kept _ _ c.in_ok-difference-in-Subtract.ensures in
    adds_difference ts c.args.form.now c.add_term-in-Subtract-2.new.form (term_in ts c.args.term) c.args.count _ (wide_number_kept c.args.count c.ranges.count) (term_in ts c.in-Subtract.left) (term_in ts c.in-Subtract.right) c.add_term-in-Subtract.new.form _ c.in-Subtract.ensures.tree back
    c.in_ok-add_term-in-Subtract.ensures c.in_ok-add_term-in-Subtract-2.ensures

pub returns-in_ok-add_term-in-Multiply : goal.returns-in_ok-add_term-in-Multiply
returns-in_ok-add_term-in-Multiply t c =
    let ts = c.args.terms.now in
    let f : FitsSigned w64 c.in-Multiply.factor = search rules in
    let factor = widened_number c.in-Multiply.factor c.from-in-Multiply.result f c.from-in-Multiply.ensures in
    let m = product_kept _ _ c.in_ok-product-in-Multiply.ensures ∙ ap (λ n. to_z w128 (of_z w128 c.args.count) *ℤ n) factor in
    adds_product ts c.args.form.now c.add_term-in-Multiply.new.form (term_in ts c.args.term) c.args.count _ (wide_number_kept c.args.count c.ranges.count) c.in-Multiply.factor _ (term_in ts c.in-Multiply.term) c.in-Multiply.ensures.tree m c.in_ok-add_term-in-Multiply.ensures
