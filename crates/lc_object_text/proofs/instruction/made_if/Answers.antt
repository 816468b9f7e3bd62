use Rattle.std.proofs.Common.{◌≡◌, ℕ, sym, subst}
use Rattle.std.specs.Prelude.{Result}
use Rattle.lc_base.specs.declared.ids.PointId.{PointId}
use Rattle.lc_term.specs.Syntax as T
use Rattle.lc_term.specs.View.{formula_of}
use Rattle.lc_term.specs.declared.formula.Formula.{Formula}
use Rattle.lc_object.specs.View.{instruction_of}
use Rattle.lc_reading.proofs.Combined.{both_read, err_arm}
use Rattle.lc_reading.specs.Readings.{Reading, both}
use Rattle.lc_reading.specs.Results.{IsReading, both_results}
use Rattle.lc_reading.specs.declared.flaw.ReadFault.{ReadFault}
use Rattle.lc_object_text.specs.Instructions.{if_of}
use Rattle.lc_object_text.specs.Own.{labels_view}
use Rattle.lc_object_text.proofs.instruction.made_if.Goals as goal

abbrev Labels : Type 0
Labels = PointId × PointId

together : (r : Reading T.Formula) (l : Reading (ℕ × ℕ)) (a : Result Formula ReadFault) (b : Result Labels ReadFault) (e : Result (Formula × Labels) ReadFault)
    → IsReading formula_of r a → IsReading labels_view l b → e ≡ both_results a b → IsReading (λ (p : Formula × Labels). if_of (formula_of p.0) (labels_view p.1)) (both if_of r l) e
together r l a b e h k is =
    subst (IsReading (λ (p : Formula × Labels). if_of (formula_of p.0) (labels_view p.1)) (both if_of r l)) (sym is) (both_read formula_of labels_view if_of r l a b h k)

pub returns-in_err-condition : goal.returns-in_err-condition
returns-in_err-condition c = λ r l h k. err_arm _ instruction_of _ _ _ _ (together r l c.args.condition c.args.labels c.both.result h k c.both.ensures) c.in_err-condition.was c.from_residual.ensures.1
