use Rattle.std.proofs.Common.{◌≡◌, ℕ, List, sym, subst}
use Rattle.std.specs.Prelude.{Result, Vec}
use Rattle.std.specs.declared.alloc.Global.{Global}
use Rattle.lc_base.specs.declared.ids.PointId.{PointId}
use Rattle.lc_term.specs.Syntax as T
use Rattle.lc_term.specs.declared.term.Term.{Term}
use Rattle.lc_object.specs.View.{instruction_of}
use Rattle.lc_object.specs.declared.instr.LocalId.{LocalId}
use Rattle.lc_reading.proofs.Combined.{both_read, err_arm}
use Rattle.lc_reading.specs.Readings.{Reading, both}
use Rattle.lc_reading.specs.Results.{IsReading, both_results}
use Rattle.lc_reading.specs.declared.flaw.ReadFault.{ReadFault}
use Rattle.lc_object_text.specs.Instructions.{set_of}
use Rattle.lc_object_text.specs.Own.{assignments_view}
use Rattle.lc_object_text.proofs.instruction.made_set.Goals as goal

abbrev Cells : Type 0
Cells = Vec (LocalId × Term) Global

together : (r : Reading (List (ℕ × T.Term))) (l : Reading ℕ) (a : Result Cells ReadFault) (b : Result PointId ReadFault) (e : Result (Cells × PointId) ReadFault)
    → IsReading assignments_view r a → IsReading (λ point. point.0) l b → e ≡ both_results a b → IsReading (λ (p : Cells × PointId). set_of (assignments_view p.0) p.1.0) (both set_of r l) e
together r l a b e h k is =
    subst (IsReading (λ (p : Cells × PointId). set_of (assignments_view p.0) p.1.0) (both set_of r l)) (sym is) (both_read assignments_view (λ (point : PointId). point.0) set_of r l a b h k)

pub returns-in_err-cells : goal.returns-in_err-cells
returns-in_err-cells c = λ r l h k. err_arm _ instruction_of _ _ _ _ (together r l c.args.cells c.args.label c.both.result h k c.both.ensures) c.in_err-cells.was c.from_residual.ensures.1
