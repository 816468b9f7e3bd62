use Rattle.std.proofs.Common.{arith, ◌≡◌, [], map, length, ap}
use Rattle.std.proofs.lemmas.List.{nil_from_length}
use Rattle.lc_object.specs.View.{operation_of, point_of}
use Rattle.lc_object_text.specs.Objects.{operations_from}
use Rattle.lc_object_text.specs.Texts.{signature_view, body_text_view, body_texts_view}
use Rattle.lc_object_text.proofs.MadeParts.{operations_done}
use Rattle.lc_object_text.proofs.made.made_code.Goals as goal

pub returns-clause-operations : goal.returns-clause-operations
returns-clause-operations c =
    let l = c.loop-body in
    let kept = l.body-iterator.rest.ok in
    let ended = c.in-None.ensures.steps in
    let none_left : l.body-iterator.rest.items ≡ [] = nil_from_length l.body-iterator.rest.items (omega arith) in
    operations_done (map operation_of l.operations.items) (operations_from 0 (map signature_view c.args.signatures.items) (body_texts_view c.args.bodies)) (length l.points.items) (map signature_view l.signatures.rest.items)
    (map (body_text_view point_of) l.body-iterator.rest.items) (ap (map (body_text_view point_of)) none_left) l.invariant.operations
