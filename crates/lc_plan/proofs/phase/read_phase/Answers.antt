use Rattle.std.proofs.Common.{codes, sym, subst}
use Rattle.lc_reading.proofs.Sections.{behind_reading-is}
use Rattle.lc_reading.specs.Results.{IsReading}
use Rattle.lc_plan.specs.Readings.{scripts_reading}
use Rattle.lc_plan.specs.View.{all_in, scripts_of}
use Rattle.lc_plan.proofs.phase.read_phase.Goals as goal
use Rattle.lc_reading.proofs.Parts.{behind_wrong}

pub returns-in_err-list : goal.returns-in_err-list
returns-in_err-list c =
    behind_wrong scripts_of (codes "phase") (λ n m ts. scripts_reading (all_in c.args.operations.now) c.args.clients m ts) c.args.part _ c.from_residual.result c.in_err-list.ensures c.from_residual.ensures.1

pub returns : goal.returns
returns c =
    subst (λ r. IsReading scripts_of r c.read_scripts.result)
    (sym (behind_reading-is (codes "phase") (λ n m ts. scripts_reading (all_in c.args.operations.now) c.args.clients m ts) c.args.part c.in_ok-list.list c.in_ok-list.ensures)) c.read_scripts.ensures
