use Rattle.lc_rider.proofs.PathLaw.{paths_exclude, go_along}
use Rattle.lc_rider.proofs.PathTaken.{paths_are_taken}
use Rattle.lc_rider.proofs.laws.paths_are_runs.Goals as goal

pub returns-clause-apart : goal.returns-clause-apart
returns-clause-apart c = paths_exclude

pub returns-clause-along : goal.returns-clause-along
returns-clause-along c = go_along

pub returns-clause-taken : goal.returns-clause-taken
returns-clause-taken c = paths_are_taken
