use Rattle.std.proofs.Common.{◌≡◌, ◌++◌, map, length}
use Rattle.lc_object.specs.View.{operation_of, point_of}
use Rattle.lc_object_text.specs.Objects.{operations_from, points_of}
use Rattle.lc_object_text.specs.Texts.{signature_view, body_text_view, body_texts_view}
use Rattle.lc_object_text.proofs.made.made_code.Given as goal

-- what is made so far, and what the signatures and bodies that are left will make
abbrev pub invariant-loop-body : goal.invariant-loop-body
invariant-loop-body l = record {
  operations : map operation_of l.operations.items ++ operations_from (length l.points.items) (map signature_view l.signatures.rest.items) (map (body_text_view point_of) l.body-iterator.rest.items)
      ≡ operations_from 0 (map signature_view l.fn.signatures.items) (body_texts_view l.fn.bodies);
  points : map point_of l.points.items ++ points_of (map (body_text_view point_of) l.body-iterator.rest.items) ≡ points_of (body_texts_view l.fn.bodies);
}
