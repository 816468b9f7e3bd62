use Rattle.std.proofs.Common.{rules, ◌≡◌, ◌∙◌, ◌<◌, ◌^◌, inl, inr, None, Some, sym, ap, subst, w64, arith}
use Rattle.std.specs.Prelude.{pos, Err, FitsSigned, unsigned_abs}
use Rattle.std.proofs.lemmas.Int.{ints}
use Rattle.lc_table.specs.Nodes.{term_of_node}
use Rattle.lc_term.specs.Syntax as S
use Rattle.lc_table.specs.Tables.{parts, term_in, column_in}
use Rattle.lc_linear.specs.Form.{HasForm}
use Rattle.lc_linear.specs.LinForm.{numbers}
use Rattle.lc_linear.proofs.Faults.{passed_on}
use Rattle.lc_linear.proofs.Made.{number_given, atom_given}
use Rattle.lc_linear.proofs.Numbers.{widened_number}
use Rattle.lc_linear.proofs.Parts.{IsAtom, IsAtom-Variable, IsAtom-Bound, IsAtom-Read}
use Rattle.lc_linear.proofs.Weights.{HasForm-weight}
use Rattle.lc_linear.proofs.exact.leaf_form.Goals as goal
use Rattle.lc_linear.proofs.exact.leaf_form.Goals.{In-Variable}

pub returns-in_err-add_number-in-Number : goal.returns-in_err-add_number-in-Number
returns-in_err-add_number-in-Number c = passed_on _ _ c.from_residual.result _ c.from_residual.ensures.1 (λ met fits.
    let f : FitsSigned w64 c.in-Number.number = search rules in
    let zero : c.zero-form.result.constant ≡ pos 0 = c.zero-form.ensures None in
    let number = widened_number c.in-Number.number c.from.result f c.from.ensures in
    c.in_err-add_number-in-Number.ensures.large (ap Err met) (omega (arith, ints)))

pub returns-in_ok-add_number-in-Number : goal.returns-in_ok-add_number-in-Number
returns-in_ok-add_number-in-Number c =
    let ts = c.args.terms.now in
    let t = term_in ts c.args.leaf in
    let f : FitsSigned w64 c.in-Number.number = search rules in
    let number = widened_number c.in-Number.number c.from.result f c.from.ensures in
    let light : unsigned_abs c.in-Number.number < 2 ^ 127 = omega (arith, ints) in
    let is = c.in-Number.ensures.tree in (
      subst HasForm (sym is) (HasForm-weight (S.Number c.in-Number.number) light),
      (number_given ts c.in-Number.number _ t c.add_number.new.self (numbers c.zero-form.result) is number c.zero-form.ensures c.in_ok-add_number-in-Number.ensures.ok),
    )

-- the leaf is an atom
atom : (c : In-Variable) → IsAtom (term_in c.args.terms.now c.args.leaf)
atom c = elim c.in-Variable.is [
  | inl v ↦ subst IsAtom (sym (c.term_node.ensures.tree ∙ ap (term_of_node (parts c.args.terms.now)) v.1)) (IsAtom-Variable v.0)
  | inr (inl v) ↦ subst IsAtom (sym (c.term_node.ensures.tree ∙ ap (term_of_node (parts c.args.terms.now)) v.1)) (IsAtom-Bound v.0)
  | inr (inr v) ↦
      subst IsAtom (sym (c.term_node.ensures.tree ∙ ap (term_of_node (parts c.args.terms.now)) v.2)) (IsAtom-Read (column_in c.args.terms.now v.0) (term_in c.args.terms.now v.1))
]

pub returns-in_err-add_atom-in-Variable : goal.returns-in_err-add_atom-in-Variable
returns-in_err-add_atom-in-Variable c = passed_on _ _ c.from_residual-in_err-add_atom-in-Variable.result _ c.from_residual-in_err-add_atom-in-Variable.ensures.1 (λ met fits.
    let zero = c.zero-form.ensures (Some c.args.leaf) in
    c.in_err-add_atom-in-Variable.ensures.large (ap Err met) (omega (arith, ints)))

pub returns-in_ok-add_atom-in-Variable : goal.returns-in_ok-add_atom-in-Variable
returns-in_ok-add_atom-in-Variable c =
    let ts = c.args.terms.now in
    let at = atom (goal.at.returns-in_ok-add_atom-in-Variable c).In-Variable in (
      at.fits,
      (atom_given ts c.numbers_are_exact.ensures.terms c.args.leaf c.requires.term at c.add_atom.new.self (numbers c.zero-form.result) c.zero-form.ensures c.in_ok-add_atom-in-Variable.ensures.ok),
    )
