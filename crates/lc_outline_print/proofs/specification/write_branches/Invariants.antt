use Rattle.std.proofs.Common.{◌≡◌, ◌++◌, drop, map, string_bytes}
use Rattle.lc_base.specs.Name.{bytes_of}
use Rattle.lc_sexp.specs.Trees.{row}
use Rattle.lc_seq.specs.SpecView.{branch_of}
use Rattle.lc_reading.specs.Words.{names_in}
use Rattle.lc_outline_print.specs.Specifications.{branch_tree}
use Rattle.lc_sexp.specs.Printed.{printed_others}
use Rattle.lc_outline_print.proofs.specification.write_branches.Given as goal

abbrev pub invariant-loop-branch : goal.invariant-loop-branch
invariant-loop-branch l =
    string_bytes l.out ++ printed_others (row (map (branch_tree (names_in l.columns) (map bytes_of l.arguments)) (map branch_of (drop l.branch-index l.branches))))
    ≡ string_bytes l.fn.out ++ printed_others (row (map (branch_tree (names_in l.columns) (map bytes_of l.arguments)) (map branch_of l.branches)))
