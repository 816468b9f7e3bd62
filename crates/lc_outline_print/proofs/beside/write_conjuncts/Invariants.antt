use Rattle.std.proofs.Common.{◌≡◌, ◌++◌, drop, map, string_bytes}
use Rattle.lc_sexp.specs.Trees.{row}
use Rattle.lc_tie.specs.TieView.{conjunct_of}
use Rattle.lc_reading.specs.Words.{names_in}
use Rattle.lc_outline_print.specs.Beside.{conjunct_tree}
use Rattle.lc_sexp.specs.Printed.{printed_others}
use Rattle.lc_outline_print.proofs.beside.write_conjuncts.Given as goal

abbrev pub invariant-loop-conjunct : goal.invariant-loop-conjunct
invariant-loop-conjunct l =
    string_bytes l.out ++ printed_others (row (map (conjunct_tree (names_in l.columns)) (map conjunct_of (drop l.conjunct-index l.conjuncts))))
    ≡ string_bytes l.fn.out ++ printed_others (row (map (conjunct_tree (names_in l.columns)) (map conjunct_of l.conjuncts)))
