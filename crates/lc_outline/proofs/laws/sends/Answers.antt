use denote.Param.Send.{sendable}
use Rattle.lc_outline.proofs.Crossing.{Development-send}
use Rattle.lc_outline.proofs.laws.sends.Goals as goal

pub is_sent-requires-send-T : goal.is_sent-requires-send-T
is_sent-requires-send-T c κs = search (Development-send, sendable)
