use Rattle.lc_object_text.specs.DeclaredView.{declared_view}
use Rattle.lc_object_text.proofs.PartsInRow.{signature_read}
use Rattle.lc_object_text.proofs.signatures.read_signature_parts.Goals as goal

pub returns : goal.returns
returns c =
    signature_read (declared_view c.args.declared.now) c.args.place c.owner.result c.args.list c.next_part.new.list c.next_part-2.new.list c.next_part-3.new.list
    c.in_ok-name.name c.in_ok-arguments.arguments c.in_ok-replies.replies c.made_signature.result c.in_ok-name.ensures c.in_ok-arguments.ensures c.in_ok-replies.ensures c.owner.ensures
    (c.made_signature.ensures _ _ c.read_operation_name-name.ensures c.read_call_of.ensures)
