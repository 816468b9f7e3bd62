use Rattle.std.proofs.Common.{◌+◌, refl}
use Rattle.lc_sexp.specs.Shown.{owner_of}
use Rattle.lc_reading.specs.Parts.{tree_of, place_of}
use Rattle.lc_object_text.specs.DeclaredView.{declared_view, body_view}
use Rattle.lc_object_text.specs.Instructions.{instruction_reading}
use Rattle.lc_object_text.specs.ObjectNames.{code_names, body_names}
use Rattle.lc_object_text.specs.Points.{point_name_reading}
use Rattle.lc_object_text.proofs.PointWalk.{point_read, nothing_told}
use Rattle.lc_object_text.proofs.point.read_point_parts.Goals as goal

pub returns : goal.returns
returns g c =
    let d = declared_view c.args.reader.now.scope.declared.now in
    let b = body_view c.args.reader.now.scope.body.now in
    let before = b.first + c.args.place in
    let (at1, next1) = c.in_ok-name.ensures in
    let (at2, next2) = c.in_ok-code.ensures in
    let instruction = instruction_reading (code_names d b) (body_names d b) (place_of c.in_ok-code.code) (tree_of c.in_ok-code.code) in
    let shape = c.in_ok-is_shaped.ensures instruction c.read_instruction-instruction.ensures in
    let name = point_name_reading d before (owner_of c.args.list) (place_of c.in_ok-name.name) (tree_of c.in_ok-name.name) in
    let point = c.made_point-point.ensures name instruction (rw c.owner.ensures at c.read_point_name-name.ensures) c.read_instruction-instruction.ensures in
    point_read g.B.ReadsBeside.meaning d b (g.B.ReadsBeside.reading c.args.reader.now.beside.now) c.args.reader.now.operation.0 c.args.place before c.in_ok-is_shaped.is_shaped c.args.list
    c.next_part.new.list c.next_part-2.new.list c.in_ok-name.name c.in_ok-code.code c.read.result at1 next1 at2 next2 refl shape (c.read.ensures _ point)

pub returns-in_err-is_shaped : goal.returns-in_err-is_shaped
returns-in_err-is_shaped g c =
    let d = declared_view c.args.reader.now.scope.declared.now in
    let b = body_view c.args.reader.now.scope.body.now in
    let instruction = instruction_reading (code_names d b) (body_names d b) (place_of c.in_ok-code.code) (tree_of c.in_ok-code.code) in
    nothing_told g.B.ReadsBeside.meaning _ _ c.from_residual-in_err-is_shaped.result (c.in_err-is_shaped.ensures instruction c.read_instruction-instruction.ensures) c.from_residual-in_err-is_shaped.ensures.1
