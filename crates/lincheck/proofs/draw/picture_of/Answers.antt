use Rattle.lc_history.specs.Histories.{events_in}
use Rattle.lc_seq.specs.TextView.{specification_of}
use Rattle.lincheck.proofs.Drawn.{drawing_answered, drawing_refused}
use Rattle.lincheck.proofs.draw.picture_of.Goals as goal

pub returns-in-Ok : goal.returns-in-Ok
returns-in-Ok c =
    drawing_answered c.args.shown (specification_of c.args.spec.now) c.args.bytes.now (events_in c.in-Ok.history) c.in-Ok.given.items c.deref.result.now c.given_drawn.result
    c.in-Ok.ensures c.deref.ensures.value c.given_drawn.ensures

pub returns-in-Err : goal.returns-in-Err
returns-in-Err c = drawing_refused c.args.shown (specification_of c.args.spec.now) c.args.bytes.now c.in-Err.fault c.told_fault.result c.in-Err.ensures c.told_fault.ensures
