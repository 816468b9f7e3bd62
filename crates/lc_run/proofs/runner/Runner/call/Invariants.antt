use Rattle.std.proofs.Common.{◌≡◌}
use Rattle.lc_machine.specs.Step.{Invoked}
use Rattle.lc_run.specs.Locked.{client_in, labels_made}
use Rattle.lc_run.proofs.Growing.{HasRun}
use Rattle.lc_run.proofs.runner.Runner.call.Given as goal

-- the call has begun, and its client has made a move each turn
abbrev pub invariant-loop-turn : goal.invariant-loop-turn
invariant-loop-turn g l =
    (client_in l.seat ≡ client_in l.fn.seat) × HasRun (Invoked l.fn.operation.0 l.numbers) (client_in l.fn.seat) l._turn (labels_made l.fn.seat) (labels_made l.seat)
