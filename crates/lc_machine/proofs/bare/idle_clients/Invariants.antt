use Rattle.std.proofs.Common.{◌≡◌, replicate}
use Rattle.lc_machine.specs.World.{Idle}
use Rattle.lc_machine.specs.View.{clients_of}
use Rattle.lc_machine.proofs.bare.idle_clients.Given as goal

-- `counter` clients so far
abbrev pub invariant-loop : goal.invariant-loop
invariant-loop l = clients_of l.clients.items ≡ replicate l.counter Idle
