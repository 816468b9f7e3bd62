use Rattle.std.proofs.Common.{◌∙◌, sym}
use Rattle.lc_history.specs.Histories.{events_in}
use Rattle.lc_seq.specs.TextView.{specification_of}
use Rattle.lincheck.proofs.Drawn.{drawn_as_decided, drawn_as_given}
use Rattle.lincheck.proofs.draw.given_drawn.Goals as goal

pub returns-then-is_empty : goal.returns-then-is_empty
returns-then-is_empty c =
    drawn_as_decided c.args.shown (specification_of c.args.spec.now) (events_in c.args.history.now) c.args.given.now c.in_ok-decision.decision c.decision_drawn.result
    (sym c.is_empty.ensures ∙ c.if-is_empty.true) c.in_ok-decision.ensures c.decision_drawn.ensures

pub returns : goal.returns
returns c =
    drawn_as_given c.args.shown (specification_of c.args.spec.now) (events_in c.args.history.now) c.args.given.now c.drawn.result (sym c.is_empty.ensures ∙ c.if-is_empty.false) c.drawn.ensures
