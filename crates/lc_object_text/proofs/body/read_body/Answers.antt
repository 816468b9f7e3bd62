use Rattle.std.specs.Prelude.{codes}
use Rattle.lc_object_text.specs.DeclaredView.{declared_view, body_view}
use Rattle.lc_object_text.specs.Points.{body_parts}
use Rattle.lc_object_text.specs.Texts.{body_text_view}
use Rattle.lc_object_text.proofs.body.read_body.Goals as goal
use Rattle.lc_reading.proofs.Parts.{behind_read, behind_wrong}

pub returns : goal.returns
returns g c =
    let d = declared_view c.args.reader.now.scope.declared.now in
    let b = body_view c.args.reader.now.scope.body.now in
    behind_read (body_text_view g.B.ReadsBeside.meaning) (codes "body") (body_parts d b (g.B.ReadsBeside.reading c.args.reader.now.beside.now) c.args.reader.now.operation.0) c.args.part c.in_ok-parts.parts
    c.read_body_parts.result c.in_ok-parts.ensures c.read_body_parts.ensures

pub returns-in_err-parts : goal.returns-in_err-parts
returns-in_err-parts g c =
    let d = declared_view c.args.reader.now.scope.declared.now in
    let b = body_view c.args.reader.now.scope.body.now in
    behind_wrong (body_text_view g.B.ReadsBeside.meaning) (codes "body") (body_parts d b (g.B.ReadsBeside.reading c.args.reader.now.beside.now) c.args.reader.now.operation.0) c.args.part _
    c.from_residual.result c.in_err-parts.ensures c.from_residual.ensures.1
