use Rattle.lc_outline.specs.DevelopmentView.{development_view}
use Rattle.lc_cond_text.specs.ConditionText.{spelled}
use Rattle.lc_cond_text.proofs.text.condition_text.Goals as goal

pub push_condition-requires-clause-recalls : goal.push_condition-requires-clause-recalls
push_condition-requires-clause-recalls c = c.no_texts-texts.ensures (spelled (development_view c.args.development.now)) c.args.terms.now
