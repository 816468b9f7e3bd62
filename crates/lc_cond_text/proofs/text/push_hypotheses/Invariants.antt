use Rattle.std.proofs.Common.{◌≡◌, ◌++◌, drop}
use Rattle.lc_table.specs.Tables.{formulas_in}
use Rattle.lc_outline.specs.DevelopmentView.{development_view}
use Rattle.lc_cond_text.specs.ConditionText.{spelled, formulas_text}
use Rattle.lc_cond_text.specs.Recalled.{Recalls}
use Rattle.lc_cond_text.proofs.text.push_hypotheses.Given as goal

-- what is written so far, with what is left, is all
abbrev pub invariant-loop-formula : goal.invariant-loop-formula
invariant-loop-formula l = record {
  text : l.out.items ++ formulas_text (spelled (development_view l.development)) (formulas_in l.terms (drop l.formula-index l.formulas))
      ≡ l.fn.out.items ++ formulas_text (spelled (development_view l.development)) (formulas_in l.terms l.formulas);
  recalls : Recalls (spelled (development_view l.development)) l.terms l.texts;
}
