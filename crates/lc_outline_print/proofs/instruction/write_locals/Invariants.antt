use Rattle.std.proofs.Common.{◌≡◌, ◌++◌, drop, string_bytes}
use Rattle.lc_object.specs.View.{locals_of}
use Rattle.lc_outline_print.specs.Instructions.{local_trees}
use Rattle.lc_sexp.specs.Printed.{printed_others}
use Rattle.lc_outline_print.proofs.instruction.write_locals.Given as goal

abbrev pub invariant-loop-local : goal.invariant-loop-local
invariant-loop-local g l =
    string_bytes l.out ++ printed_others (local_trees (g.S.Spelling.spelled l.spelling) (locals_of (drop l.local-index l.locals)))
    ≡ string_bytes l.fn.out ++ printed_others (local_trees (g.S.Spelling.spelled l.spelling) (locals_of l.locals))
