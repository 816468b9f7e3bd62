use Rattle.std.specs.Prelude.{string_bytes}
use Rattle.lc_sexp.specs.Shown.{rest_of}
use Rattle.lc_reading.specs.TableView.{listed}
use Rattle.lc_fill.specs.PlanView.{plan_view}
use Rattle.lc_fill.proofs.Names.{acts_made}
use Rattle.lc_fill.proofs.naming.read_acts.Goals as goal

pub returns : goal.returns
returns c =
    acts_made (plan_view c.args.plan.now) (listed c.in_ok-names.names) (string_bytes c.in_ok-stand_in.stand_in) (rest_of c.args.parts) c.in_ok-names.ensures c.in_ok-stand_in.ensures.name
