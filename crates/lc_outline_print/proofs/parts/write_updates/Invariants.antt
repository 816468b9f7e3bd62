use Rattle.std.proofs.Common.{◌≡◌, ◌++◌, drop, map, string_bytes}
use Rattle.lc_term.specs.UpdateView.{update_of}
use Rattle.lc_outline_print.specs.Parts.{update_trees}
use Rattle.lc_sexp.specs.Printed.{printed_others}
use Rattle.lc_outline_print.proofs.parts.write_updates.Given as goal

abbrev pub invariant-loop-update : goal.invariant-loop-update
invariant-loop-update g l =
    string_bytes l.out ++ printed_others (update_trees (g.S.Spelling.spelled l.spelling) (map update_of (drop l.update-index l.updates)))
    ≡ string_bytes l.fn.out ++ printed_others (update_trees (g.S.Spelling.spelled l.spelling) (map update_of l.updates))
