use Rattle.lc_sound.proofs.EdgeTaken.{edge_paths_exclude, steps_are_paths}
use Rattle.lc_sound.proofs.Ordinary.{runs_are_ordinary}
use Rattle.lc_sound.proofs.laws.edges_go_by_paths.Goals as goal

pub returns-clause-apart : goal.returns-clause-apart
returns-clause-apart c = edge_paths_exclude

pub returns-clause-steps : goal.returns-clause-steps
returns-clause-steps c = steps_are_paths

pub returns-clause-ordinary : goal.returns-clause-ordinary
returns-clause-ordinary c = runs_are_ordinary
