use denote.Param.Send.{sendable}
use Rattle.lc_outline.proofs.Crossing.{Development-sync}
use Rattle.lc_outline.proofs.laws.shares.Goals as goal

pub is_shared-requires-sync-T : goal.is_shared-requires-sync-T
is_shared-requires-sync-T c κs = search (Development-sync, sendable)
