use Rattle.std.proofs.Common.{◌≡◌, ◌++◌, drop, map, string_bytes}
use Rattle.lc_term.specs.View.{term_of}
use Rattle.lc_outline_print.specs.Parts.{term_trees}
use Rattle.lc_sexp.specs.Printed.{printed_others}
use Rattle.lc_outline_print.proofs.parts.write_terms.Given as goal

abbrev pub invariant-loop-term : goal.invariant-loop-term
invariant-loop-term g l =
    string_bytes l.out ++ printed_others (term_trees (g.S.Spelling.spelled l.spelling) (map term_of (drop l.term-index l.terms)))
    ≡ string_bytes l.fn.out ++ printed_others (term_trees (g.S.Spelling.spelled l.spelling) (map term_of l.terms))
