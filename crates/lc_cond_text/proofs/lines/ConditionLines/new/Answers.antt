use Rattle.std.proofs.Common.{subst, sym}
use Rattle.lc_cond.specs.ConditionView.{AreConditions}
use Rattle.lc_outline.specs.DevelopmentView.{development_view}
use Rattle.lc_cond_text.specs.ConditionText.{spelled}
use Rattle.lc_cond_text.proofs.lines.ConditionLines.new.Goals as goal

pub invariant_of-result : goal.invariant_of-result
invariant_of-result c = λ going. record {
  are = subst (AreConditions c.new-2.result) (sym c.new-3.ensures.items) tt;
  recalls = c.no_texts.ensures (spelled (development_view c.args.development.now)) c.new-2.result;
}
