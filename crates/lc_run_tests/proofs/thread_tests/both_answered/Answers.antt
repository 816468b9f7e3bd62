use denote.Exit.{no}
use denote.Param.Send.{arg_send, param_send}
use Rattle.lc_run_tests.proofs.Crossing.{taken-send}
use Rattle.lc_run_tests.proofs.thread_tests.both_answered.Goals as goal

pub join-requires-send-F : goal.join-requires-send-F
join-requires-send-F g c κs within = param_send 1 _ (arg_send _ no _ (taken-send g.row.J g.J.Ledger g.row.R _ _ _ _ c.type_bounds.sync-R))
