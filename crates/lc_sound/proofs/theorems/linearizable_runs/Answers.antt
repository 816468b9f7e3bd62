use Rattle.lc_outline.specs.DevelopmentView.{development_view}
use Rattle.lc_sound.proofs.Lifted.{runs_are_simulated, headline_is_proved}
use Rattle.lc_sound.proofs.Ordered.{orders_do_linearize}
use Rattle.lc_sound.proofs.Proven.{valid_is_proven}
use Rattle.lc_sound.proofs.theorems.linearizable_runs.Goals as goal

pub returns-clause-simulated : goal.returns-clause-simulated
returns-clause-simulated c = runs_are_simulated (development_view c.args.development.now) (valid_is_proven c.args.development.now c.requires.valid)

pub returns-clause-ordered : goal.returns-clause-ordered
returns-clause-ordered c = orders_do_linearize (development_view c.args.development.now) (valid_is_proven c.args.development.now c.requires.valid).resolved

pub returns-clause-linearizable : goal.returns-clause-linearizable
returns-clause-linearizable c = headline_is_proved (development_view c.args.development.now) (valid_is_proven c.args.development.now c.requires.valid)
