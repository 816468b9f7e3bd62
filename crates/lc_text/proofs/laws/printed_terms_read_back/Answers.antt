use Rattle.lc_text.proofs.PrintedTrees as printed
use Rattle.lc_text.proofs.ReadBack.{term_back, column_back, formula_back}
use Rattle.lc_text.proofs.laws.printed_terms_read_back.Goals as goal

pub returns : goal.returns
returns c = record {
  term_text = printed.term_text;
  column_text = printed.column_text;
  formula_text = printed.formula_text;
  term = term_back;
  column = column_back;
  formula = formula_back;
}
