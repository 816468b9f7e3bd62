use Rattle.std.proofs.lemmas.Result.{on_ok_weaker}
use Rattle.lc_outline.specs.DevelopmentView.{development_view}
use Rattle.lc_cond_text.specs.ConditionText.{spelled}
use Rattle.lc_cond_text.proofs.text.push_claim.Goals as goal

pub returns-clause-recalls : goal.returns-clause-recalls
returns-clause-recalls c =
    on_ok_weaker c.push_text-2.result (λ said. c.is_met.ensures (spelled (development_view c.args.development.now)) c.args.terms.now c.requires.recalls) c.push_text-2.ensures
