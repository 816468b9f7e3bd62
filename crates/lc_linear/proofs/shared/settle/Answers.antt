use Rattle.std.proofs.Common.{rules, ◌∙◌, inl, inr, refl, ap, sym, subst, to_z, of_z, w64}
use Rattle.std.specs.Prelude.{ℤ, ◌*ℤ◌, FitsSigned}
use Rattle.std.specs.Int.{w128}
use Rattle.lc_table.specs.Nodes.{term_of_node}
use Rattle.lc_table.specs.Tables.{parts, term_in, column_in}
use Rattle.lc_linear.proofs.Made.{adds_number, adds_atom}
use Rattle.lc_linear.proofs.Numbers.{widened_number, product_kept}
use Rattle.lc_linear.proofs.Owing.{alone_settled, difference_owed, product_owed, sum_owed}
use Rattle.lc_linear.proofs.Parts.{IsAtom, IsAtom-Variable, IsAtom-Bound, IsAtom-Read}
use Rattle.lc_linear.proofs.shared.settle.Goals as goal

pub returns-in_ok-add_number-in-Number : goal.returns-in_ok-add_number-in-Number
returns-in_ok-add_number-in-Number c =
    let ts = c.args.terms.now in
    let less = c.subtract_atom.new.self in
    let count : ℤ = to_z w128 (of_z w128 c.coefficient-count.result) in
    let f : FitsSigned w64 c.in-Number.number = search rules in
    let number = widened_number c.in-Number.number c.from.result f c.from.ensures in
    let m = product_kept _ _ c.in_ok-product-in-Number.ensures ∙ ap (λ n. count *ℤ n) number in
    alone_settled ts c.args.form.now c.args.owed.now less less less c.args.node c.requires count c.in_ok-subtract_atom.ensures.ok c.add_number.new.self
    (adds_number ts c.args.form.now c.add_number.new.self (term_in ts c.args.node) count count refl c.in-Number.number _ c.in-Number.ensures.tree m c.in_ok-add_number-in-Number.ensures.ok)

pub returns-in_ok-add_atom-in-Variable : goal.returns-in_ok-add_atom-in-Variable
returns-in_ok-add_atom-in-Variable c =
    let ts = c.args.terms.now in
    let less = c.subtract_atom.new.self in
    let count : ℤ = to_z w128 (of_z w128 c.coefficient-count.result) in
    let at : IsAtom (term_in ts c.args.node) = elim c.in-Variable.is [
      | inl v ↦ subst IsAtom (sym (c.term_node.ensures.tree ∙ ap (term_of_node (parts ts)) v.1)) (IsAtom-Variable v.0)
      | inr (inl v) ↦ subst IsAtom (sym (c.term_node.ensures.tree ∙ ap (term_of_node (parts ts)) v.1)) (IsAtom-Bound v.0)
      | inr (inr v) ↦ subst IsAtom (sym (c.term_node.ensures.tree ∙ ap (term_of_node (parts ts)) v.2)) (IsAtom-Read (column_in ts v.0) (term_in ts v.1))
    ] in
    alone_settled ts c.args.form.now c.args.owed.now less less less c.args.node c.requires count c.in_ok-subtract_atom.ensures.ok c.add_atom.new.self
    (adds_atom ts c.numbers_are_exact.ensures.terms c.args.node c.requires at c.args.form.now c.add_atom.new.self count c.in_ok-add_atom-in-Variable.ensures.ok)

pub returns-in_ok-add_atom-in-Add-2 : goal.returns-in_ok-add_atom-in-Add-2
returns-in_ok-add_atom-in-Add-2 c =
    sum_owed c.args.terms.now c.args.form.now c.args.owed.now c.subtract_atom.new.self c.add_atom-in-Add.new.self c.add_atom-in-Add-2.new.self c.args.node c.requires
    (to_z w128 (of_z w128 c.coefficient-count.result)) c.in_ok-subtract_atom.ensures.ok c.in-Add.left c.in-Add.right c.in-Add.ensures.fits.0 c.in-Add.ensures.fits.1 c.in-Add.ensures.tree
    c.in_ok-add_atom-in-Add.ensures.ok c.in_ok-add_atom-in-Add-2.ensures.ok

pub returns-in_ok-subtract_atom-in-Subtract : goal.returns-in_ok-subtract_atom-in-Subtract
returns-in_ok-subtract_atom-in-Subtract c =
    difference_owed c.args.terms.now c.args.form.now c.args.owed.now c.subtract_atom.new.self c.add_atom-in-Subtract.new.self c.subtract_atom-in-Subtract.new.self c.args.node c.requires
    (to_z w128 (of_z w128 c.coefficient-count.result)) c.in_ok-subtract_atom.ensures.ok c.in-Subtract.left c.in-Subtract.right c.in-Subtract.ensures.fits.0 c.in-Subtract.ensures.fits.1
    c.in-Subtract.ensures.tree c.in_ok-add_atom-in-Subtract.ensures.ok c.in_ok-subtract_atom-in-Subtract.ensures.ok

pub returns-in_ok-add_atom-in-Multiply : goal.returns-in_ok-add_atom-in-Multiply
returns-in_ok-add_atom-in-Multiply c =
    let less = c.subtract_atom.new.self in
    let count : ℤ = to_z w128 (of_z w128 c.coefficient-count.result) in
    let f : FitsSigned w64 c.in-Multiply.factor = search rules in
    let factor = widened_number c.in-Multiply.factor c.from-in-Multiply.result f c.from-in-Multiply.ensures in
    product_owed c.args.terms.now c.args.form.now c.args.owed.now less less c.add_atom-in-Multiply.new.self c.args.node c.requires count c.in_ok-subtract_atom.ensures.ok c.in-Multiply.factor _
    c.in-Multiply.part c.in-Multiply.ensures.fits c.in-Multiply.ensures.tree (product_kept _ _ c.in_ok-product-in-Multiply.ensures ∙ ap (λ n. count *ℤ n) factor) c.in_ok-add_atom-in-Multiply.ensures.ok
