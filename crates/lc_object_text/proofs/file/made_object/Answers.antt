use Rattle.std.proofs.Common.{◌≡◌, List, sym, subst}
use Rattle.std.specs.Prelude.{Result, Vec}
use Rattle.std.specs.declared.alloc.Global.{Global}
use Rattle.lc_object.specs.Syntax as S
use Rattle.lc_object.specs.View.{parts_of}
use Rattle.lc_object.specs.declared.parts.Point.{Point}
use Rattle.lc_reading.proofs.Combined.{both_read, err_arm}
use Rattle.lc_reading.specs.Readings.{Reading, both}
use Rattle.lc_reading.specs.Results.{IsReading, both_results}
use Rattle.lc_reading.specs.declared.flaw.ReadFault.{ReadFault}
use Rattle.lc_object_text.specs.Objects as O
use Rattle.lc_object_text.specs.Points as P
use Rattle.lc_object_text.specs.Texts.{specification_view, object_parts}
use Rattle.lc_object_text.specs.declared.body.BodyText.{BodyText}
use Rattle.lc_object_text.specs.declared.signatures.SpecificationText.{SpecificationText}
use Rattle.lc_object_text.specs.declared.tables.Tables.{Tables}
use Rattle.lc_object_text.proofs.file.made_object.Goals as goal

abbrev Code : Type 0
Code = Tables × Vec (BodyText Point) Global

together : (s : Reading O.SpecificationText) (o : Reading (O.Tables × List (P.BodyText S.Point))) (a : Result SpecificationText ReadFault) (b : Result Code ReadFault) (e : Result (SpecificationText × Code) ReadFault)
    → IsReading specification_view s a → IsReading object_parts o b → e ≡ both_results a b
    → IsReading (λ (p : SpecificationText × Code). O.object_of (specification_view p.0) (object_parts p.1)) (both O.object_of s o) e
together s o a b e h k is =
    subst (IsReading (λ (p : SpecificationText × Code). O.object_of (specification_view p.0) (object_parts p.1)) (both O.object_of s o)) (sym is)
    (both_read specification_view object_parts O.object_of s o a b h k)

pub returns-in_err-specification : goal.returns-in_err-specification
returns-in_err-specification c = λ s o h k. err_arm _ parts_of _ _ _ _ (together s o c.args.specification c.args.object c.both.result h k c.both.ensures) c.in_err-specification.was c.from_residual.ensures.1
