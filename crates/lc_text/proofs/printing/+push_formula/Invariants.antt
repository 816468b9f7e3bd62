use Rattle.std.proofs.Common.{◌≡◌, ◌++◌, drop, string_bytes}
use Rattle.lc_term.specs.Syntax.{formulas}
use Rattle.lc_term.specs.View.{formulas_of}
use Rattle.lc_text.specs.Spelled.{spelled_parts}
use Rattle.lc_text.proofs.printing.+push_formula.Given as goal

abbrev pub invariant-push_parts-loop-part : goal.invariant-push_parts-loop-part
invariant-push_parts-loop-part g l =
    string_bytes l.out ++ spelled_parts (g.S.Spelling.spelled l.spelling) l.depth (formulas (formulas_of (drop l.part-index l.parts)))
    ≡ string_bytes l.fn.out ++ spelled_parts (g.S.Spelling.spelled l.spelling) l.depth (formulas (formulas_of l.parts))
