use Rattle.std.specs.Prelude.{codes}
use Rattle.lc_object_text.specs.DeclaredView.{declared_view}
use Rattle.lc_object_text.specs.Objects.{specification_parts}
use Rattle.lc_object_text.specs.Texts.{specification_view}
use Rattle.lc_object_text.proofs.signatures.read_specification.Goals as goal
use Rattle.lc_reading.proofs.Parts.{behind_read, behind_wrong}

pub returns : goal.returns
returns c = behind_read specification_view (codes "spec") (specification_parts (declared_view c.args.declared.now)) c.args.part c.in_ok-parts.parts _ c.in_ok-parts.ensures c.read_specification_parts.ensures

pub returns-in_err-parts : goal.returns-in_err-parts
returns-in_err-parts c = behind_wrong specification_view (codes "spec") (specification_parts (declared_view c.args.declared.now)) c.args.part _ _ c.in_err-parts.ensures c.from_residual.ensures.1
