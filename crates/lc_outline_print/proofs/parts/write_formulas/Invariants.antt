use Rattle.std.proofs.Common.{◌≡◌, ◌++◌, drop, map, string_bytes}
use Rattle.lc_term.specs.View.{formula_of}
use Rattle.lc_outline_print.specs.Parts.{formula_trees}
use Rattle.lc_sexp.specs.Printed.{printed_others}
use Rattle.lc_outline_print.proofs.parts.write_formulas.Given as goal

abbrev pub invariant-loop-formula : goal.invariant-loop-formula
invariant-loop-formula g l =
    string_bytes l.out ++ printed_others (formula_trees (g.S.Spelling.spelled l.spelling) (map formula_of (drop l.formula-index l.formulas)))
    ≡ string_bytes l.fn.out ++ printed_others (formula_trees (g.S.Spelling.spelled l.spelling) (map formula_of l.formulas))
