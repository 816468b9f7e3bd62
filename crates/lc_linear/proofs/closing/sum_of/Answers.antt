use Rattle.lc_linear.specs.Closing.{combined, entries_in}
use Rattle.lc_linear.proofs.Weights.{HasForm-light}
use Rattle.lc_linear.proofs.closing.sum_of.Goals as goal

pub returns-in-Ok : goal.returns-in-Ok
returns-in-Ok c =
    (HasForm-light c.sum_weight.result c.is_light.result (combined (entries_in c.args.terms.now c.args.entries.now)) c.sum_weight.ensures c.is_light.ensures c.if-not-is_light.false, c.in-Ok.ensures)
