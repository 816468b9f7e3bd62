use Rattle.std.proofs.Common.{◌≡◌, ◌+◌, ◌*◌, ◌++◌, drop}
use Rattle.lc_term.specs.Syntax.{formulas}
use Rattle.lc_table.specs.Tables.{formulas_in}
use Rattle.lc_table.proofs.Listed.{beyond}
use Rattle.lc_text.specs.Spelled.{spelled_parts}
use Rattle.lc_cond_text.specs.ConditionText.{spelled}
use Rattle.lc_outline.specs.DevelopmentView.{development_view}
use Rattle.lc_cond_text.proofs.nodes.+push_formula.Given as goal

abbrev pub decreases-push_below : goal.decreases-push_below
decreases-push_below l = 2 * l.body.0 + 2

abbrev pub decreases-push_formula : goal.decreases-push_formula
decreases-push_formula l = 2 * l.formula.0 + 1

abbrev pub decreases-push_parts : goal.decreases-push_parts
decreases-push_parts l = 2 * beyond l.parts.now

-- what is written so far, with what is left, is all
abbrev pub invariant-push_parts-loop-part : goal.invariant-push_parts-loop-part
invariant-push_parts-loop-part l =
    l.out.items ++ spelled_parts (spelled (development_view l.development)) l.depth (formulas (formulas_in l.terms (drop l.part-index l.parts)))
    ≡ l.fn.out.items ++ l.word ++ spelled_parts (spelled (development_view l.development)) l.depth (formulas (formulas_in l.terms l.parts))
