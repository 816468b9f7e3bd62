use Rattle.std.proofs.lemmas.Grind.{common_steps}
use Rattle.std.proofs.Common.{arith, refl}
use Rattle.lc_carry.proofs.Under.{renamed_Forall, renamed_Exists}
use Rattle.lc_carry.specs.Renaming.{column_for, renaming}
use Rattle.lc_term.proofs.Each.{replace_all-formulas}
use Rattle.lc_term.specs.View.{formulas_of}
use Rattle.lc_carry.proofs.renaming.+renamed_formula.Goals as goal

pub renamed_formula-returns-in_ok-boxed_formula-in-Forall : goal.renamed_formula-returns-in_ok-boxed_formula-in-Forall
renamed_formula-returns-in_ok-boxed_formula-in-Forall t c =
    renamed_Forall (column_for c.args.columns.now) c.args.formula.now c.in-Forall.body c.in_ok-boxed_formula-in-Forall.field-0 c.deref-in-Forall.result.now c.in_ok-boxed_formula-in-Forall.field-0.value c.in-Forall.is
    c.deref-in-Forall.ensures refl c.in_ok-boxed_formula-in-Forall.ensures

pub renamed_formula-returns-in_ok-boxed_formula-in-Exists : goal.renamed_formula-returns-in_ok-boxed_formula-in-Exists
renamed_formula-returns-in_ok-boxed_formula-in-Exists t c =
    renamed_Exists (column_for c.args.columns.now) c.args.formula.now c.in-Exists.body c.in_ok-boxed_formula-in-Exists.field-0 c.deref-in-Exists.result.now c.in_ok-boxed_formula-in-Exists.field-0.value c.in-Exists.is
    c.deref-in-Exists.ensures refl c.in_ok-boxed_formula-in-Exists.ensures

pub renamed_parts-returns : goal.renamed_parts-returns
renamed_parts-returns t c =
    let r = renaming (column_for c.args.columns.now) in
    let e = c.loop-part.invariant in
    grind (arith, common_steps, replace_all-formulas r (formulas_of c.args.parts.now))
