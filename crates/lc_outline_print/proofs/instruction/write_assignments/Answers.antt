use Rattle.std.proofs.Common.{ap, drop}
use Rattle.std.proofs.lemmas.List.{nil_from_length}
use Rattle.lc_object.specs.View.{locals_of, terms_of}
use Rattle.lc_outline_print.proofs.Printed.{all_assigned}
use Rattle.lc_outline_print.proofs.instruction.write_assignments.Goals as goal

pub returns-in_default : goal.returns-in_default
returns-in_default g c =
    all_assigned (g.S.Spelling.spelled c.args.spelling.now) (locals_of (drop c.loop-local.local-index c.args.locals.now)) (terms_of c.loop-local.others.now) _ _
    (ap terms_of (nil_from_length c.loop-local.others.now c.in_default.ensures.cases)) c.loop-local.invariant
