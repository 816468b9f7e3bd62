use Rattle.std.proofs.Common.{append-nil}
use Rattle.lc_reading.specs.TableView.{listed}
use Rattle.lc_spec_text.proofs.way.read_branches.Goals as goal

pub returns : goal.returns
returns c = rw (c.in_ok-scope.ensures.columns, c.in_ok-scope.ensures.variables, c.new.ensures, append-nil (listed c.args.variables.now)) at c.read_each.ensures
