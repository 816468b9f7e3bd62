use Rattle.std.proofs.Common.{sym, subst}
use Rattle.lc_reading.proofs.Listed.{listed_reading-is}
use Rattle.lc_reading.specs.Parts.{tree_of, place_of}
use Rattle.lc_reading.specs.Results.{IsReading}
use Rattle.lc_reading.specs.TableView.{listed}
use Rattle.lc_plan.specs.Readings.{script_parts_reading}
use Rattle.lc_plan.specs.View.{all_in, script_of}
use Rattle.lc_plan.proofs.phase.read_script.Goals as goal

pub returns-in-List : goal.returns-in-List
returns-in-List c =
    let read = script_parts_reading (all_in c.args.operations.now) c.args.clients (listed c.args.before.now) in
    subst (λ r. IsReading script_of r c.read_script_parts.result)
    (sym (listed_reading-is read (place_of c.args.part) (tree_of c.args.part) c.in-List.list c.in-List.ensures.tree c.in-List.ensures.number c.in-List.ensures.placed))
    c.read_script_parts.ensures
