use Rattle.std.proofs.Common.{◌≡◌, ◌+◌, ◌*◌, ◌≤◌}
use Rattle.lc_sexp.specs.Trees.{item_count, item_count_of_all}
use Rattle.lc_sexp.specs.Shown.{rest_of, number_of}
use Rattle.lc_term.specs.Syntax.{more}
use Rattle.lc_term.specs.View.{formula_of}
use Rattle.lc_reading.specs.Parts.{tree_of}
use Rattle.lc_reading.specs.Words.{names_in}
use Rattle.lc_reading.proofs.SoFar.{IsSoFar}
use Rattle.lc_text.specs.Formulas.{formulas_reading}
use Rattle.lc_text.proofs.formula.+read_formula.Given as goal

abbrev pub decreases-read_bound_formula : goal.decreases-read_bound_formula
decreases-read_bound_formula g l = 3 * item_count (tree_of l.part)

abbrev pub decreases-read_connective : goal.decreases-read_connective
decreases-read_connective g l = 3 * item_count_of_all (rest_of l.list) + 5

abbrev pub decreases-read_negation : goal.decreases-read_negation
decreases-read_negation g l = 3 * item_count_of_all (rest_of l.list) + 4

abbrev pub decreases-read_row : goal.decreases-read_row
decreases-read_row g l = 3 * item_count_of_all (rest_of l.list) + 4

abbrev pub decreases-read_implication : goal.decreases-read_implication
decreases-read_implication g l = 3 * item_count_of_all (rest_of l.list) + 4

abbrev pub decreases-read_quantifier : goal.decreases-read_quantifier
decreases-read_quantifier g l = 3 * item_count_of_all (rest_of l.list) + 4

abbrev pub decreases-read_only : goal.decreases-read_only
decreases-read_only g l = 3 * item_count_of_all (rest_of l.list) + 3

abbrev pub decreases-read_both : goal.decreases-read_both
decreases-read_both g l = 3 * item_count_of_all (rest_of l.list) + 3

abbrev pub decreases-read_bound_formulas : goal.decreases-read_bound_formulas
decreases-read_bound_formulas g l = 3 * item_count_of_all (rest_of l.list) + 3

abbrev pub decreases-read_bound_formulas-parts : goal.decreases-read_bound_formulas-parts
decreases-read_bound_formulas-parts g l = item_count_of_all (rest_of l.rest)

abbrev pub invariant-read_bound_formulas-parts : goal.invariant-read_bound_formulas-parts
invariant-read_bound_formulas-parts g l =
    let names = g.S.Scope.names l.scope in
    let bound = names_in l.fn.bound.items in
    record {
      read : IsSoFar formula_of more (formulas_reading names bound (number_of l.fn.list) (rest_of l.fn.list)) (formulas_reading names bound (number_of l.rest) (rest_of l.rest)) l.formulas;
      shorter : item_count_of_all (rest_of l.rest) ≤ item_count_of_all (rest_of l.fn.list);
      kept : l.bound.items ≡ l.fn.bound.items;
    }

abbrev pub decreases-read_body : goal.decreases-read_body
decreases-read_body g l = 3 * item_count_of_all (rest_of l.list) + 3

abbrev pub decreases-read_inside : goal.decreases-read_inside
decreases-read_inside g l = 3 * item_count (tree_of l.part) + 2

abbrev pub decreases-read_named : goal.decreases-read_named
decreases-read_named g l = 3 * item_count (tree_of l.part) + 1
