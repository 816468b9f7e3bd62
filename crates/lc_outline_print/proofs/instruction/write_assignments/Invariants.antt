use Rattle.std.proofs.Common.{◌≡◌, ◌++◌, drop, string_bytes}
use Rattle.lc_object.specs.View.{locals_of, terms_of}
use Rattle.lc_sexp.specs.Printed.{printed_others}
use Rattle.lc_outline_print.specs.Instructions.{assignment_trees}
use Rattle.lc_outline_print.proofs.instruction.write_assignments.Given as goal

abbrev pub invariant-loop-local : goal.invariant-loop-local
invariant-loop-local g l =
    string_bytes l.out ++ printed_others (assignment_trees (g.S.Spelling.spelled l.spelling) (locals_of (drop l.local-index l.locals)) (terms_of l.others))
    ≡ string_bytes l.fn.out ++ printed_others (assignment_trees (g.S.Spelling.spelled l.spelling) (locals_of l.locals) (terms_of l.values))
