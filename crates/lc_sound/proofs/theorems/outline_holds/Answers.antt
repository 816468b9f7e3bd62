use Rattle.lc_outline.specs.DevelopmentView.{development_view}
use Rattle.lc_sound.proofs.Lifted.{bare_steps_lift}
use Rattle.lc_sound.proofs.Guaranteed.{steps_in_guarantees}
use Rattle.lc_sound.proofs.Relying.{rely_keeps}
use Rattle.lc_sound.proofs.Proven.{valid_is_proven}
use Rattle.lc_sound.proofs.Simulated.{outlines_hold, steps_act}
use Rattle.lc_sound.proofs.theorems.outline_holds.Goals as goal

pub returns-clause-holds : goal.returns-clause-holds
returns-clause-holds c = outlines_hold (development_view c.args.development.now) (valid_is_proven c.args.development.now c.requires.valid)

pub returns-clause-lifts : goal.returns-clause-lifts
returns-clause-lifts c = bare_steps_lift (development_view c.args.development.now) (valid_is_proven c.args.development.now c.requires.valid)

pub returns-clause-acts : goal.returns-clause-acts
returns-clause-acts c = steps_act (development_view c.args.development.now) (valid_is_proven c.args.development.now c.requires.valid)

pub returns-clause-guaranteed : goal.returns-clause-guaranteed
returns-clause-guaranteed c = steps_in_guarantees (development_view c.args.development.now) (valid_is_proven c.args.development.now c.requires.valid)

pub returns-clause-stable : goal.returns-clause-stable
returns-clause-stable c = rely_keeps (development_view c.args.development.now) (valid_is_proven c.args.development.now c.requires.valid)
