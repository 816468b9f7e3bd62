use Rattle.lc_sexp.specs.Shown.{rest_of, number_of, owner_of}
use Rattle.lc_object.specs.View.{instruction_of}
use Rattle.lc_object_text.specs.Heads.{own_parts}
use Rattle.lc_object_text.proofs.Ends.{parts_ended, parts_missing}
use Rattle.lc_object_text.proofs.instruction.read_headed.Goals as goal

pub returns : goal.returns
returns g c =
    let (own, left) = c.in_ok-instruction.ensures in
    parts_ended instruction_of (own_parts c.args.head) (number_of c.args.list) (rest_of c.args.list) c.in_ok-instruction.rest _ c.in_ok-instruction.instruction _ left own c.ended.ensures

pub returns-in_err-instruction : goal.returns-in_err-instruction
returns-in_err-instruction g c =
    let (shape, is, short) = c.in_err-instruction.ensures in
    parts_missing instruction_of (own_parts c.args.head) (number_of c.args.list) (owner_of c.args.list) (rest_of c.args.list) _ _ _ shape is short c.from_residual.ensures.1
