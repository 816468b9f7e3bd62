use Rattle.std.proofs.Common.{◌≡◌, [], length}
use Rattle.lc_history.specs.Spans.{AreClients, HaveSeen}
use Rattle.lc_history.proofs.spans.idle_clients.Given as goal

abbrev pub invariant-loop : goal.invariant-loop
invariant-loop l = record {
  size : length l.clients.items ≡ l.counter;
  idle : AreClients [] l.clients.items;
  seen : HaveSeen (λ c. 0) l.clients.items;
}
