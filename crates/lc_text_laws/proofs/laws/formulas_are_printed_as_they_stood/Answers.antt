use Rattle.std.proofs.Common.{◌≡◌}
use Rattle.lc_reading.proofs.Fine.{of_fine}
use Rattle.lc_text.specs.SpelledTree.{term_tree, formula_tree}
use Rattle.lc_text_laws.proofs.Alike.{Alike, Readable, same_count}
use Rattle.lc_text_laws.proofs.Terms.{term_stood, formula_stood, formula_shape}
use Rattle.lc_text_laws.proofs.laws.formulas_are_printed_as_they_stood.Goals as goal

pub returns : goal.returns
returns c = record {
  term = λ names by n t x spelled e. of_fine (λ x. term_tree by 0 x ≡ t) _ x (term_stood names by spelled n t) e;
  formula = λ names by n t f spelled plain e. of_fine (λ f. formula_tree by 0 f ≡ t) _ f (formula_stood names by spelled plain n t) e;
  items = λ names by n t f spelled e. same_count (formula_tree by 0 f) t (of_fine (λ f. Alike Readable (formula_tree by 0 f) t) _ f (formula_shape names by spelled n t) e);
}
