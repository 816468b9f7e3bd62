use Rattle.std.proofs.Common.{◌≡◌, ◌++◌, drop, map, string_bytes}
use Rattle.lc_sexp.specs.Trees.{row}
use Rattle.lc_action.specs.ActionView.{action_of}
use Rattle.lc_reading.specs.Words.{names_in}
use Rattle.lc_outline_print.specs.Beside.{action_tree}
use Rattle.lc_sexp.specs.Printed.{printed_others}
use Rattle.lc_outline_print.proofs.beside.write_actions.Given as goal

abbrev pub invariant-loop-action : goal.invariant-loop-action
invariant-loop-action l =
    string_bytes l.out ++ printed_others (row (map (action_tree (names_in l.columns)) (map action_of (drop l.action-index l.actions))))
    ≡ string_bytes l.fn.out ++ printed_others (row (map (action_tree (names_in l.columns)) (map action_of l.actions)))
