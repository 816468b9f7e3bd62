use denote.Param.Send.{sendable}
use Rattle.lc_run.proofs.Crossing.{Runner-sync}
use Rattle.lc_run.proofs.laws.runners_are_shared.Goals as goal

pub is_shared-requires-sync-T : goal.is_shared-requires-sync-T
is_shared-requires-sync-T g c κs = λ _. search (Runner-sync, sendable)
