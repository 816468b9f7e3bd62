use Rattle.lc_page.proofs.Plainly.{none_has_markup}
use Rattle.lc_page.proofs.traces.trace_page.Goals as goal

pub returns : goal.returns
returns c = record { is = c.in_ok-text.ensures; plain = none_has_markup c.args.trace.now }
