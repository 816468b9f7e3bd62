use Rattle.lc_cond.specs.Conditions.{conditions}
use Rattle.lc_outline.specs.DevelopmentView.{development_view}
use Rattle.lc_sound.proofs.Proven.{derived_are_valid}
use Rattle.lc_sound.proofs.theorems.derived_conditions_are_valid.Goals as goal

pub returns : goal.returns
returns c = record { valid = derived_are_valid (conditions (development_view c.args.development.now)) c.requires.derived }
