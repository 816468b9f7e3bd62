use Rattle.std.proofs.Common.{◌≡◌, ◌++◌, drop, map, string_bytes}
use Rattle.lc_sexp.specs.Trees.{row}
use Rattle.lc_object.specs.View.{parts_of}
use Rattle.lc_action.specs.ActionView.{action_of}
use Rattle.lc_outline.specs.PartsView.{on_of}
use Rattle.lc_outline_print.specs.Beside.{on_tree}
use Rattle.lc_sexp.specs.Printed.{printed_others}
use Rattle.lc_outline_print.proofs.beside.write_ons.Given as goal

abbrev pub invariant-loop-on : goal.invariant-loop-on
invariant-loop-on g l =
    string_bytes l.out ++ printed_others (row (map (on_tree (parts_of l.object) (map action_of l.actions) (g.S.Spelling.spelled l.spelling)) (map on_of (drop l.on-index l.ons))))
    ≡ string_bytes l.fn.out ++ printed_others (row (map (on_tree (parts_of l.object) (map action_of l.actions) (g.S.Spelling.spelled l.spelling)) (map on_of l.ons)))
