use Rattle.std.proofs.Common.{◌≡◌, length, take}
use Rattle.lc_history.specs.Spans.{AreClients, HaveSeen}
use Rattle.lc_history.specs.View.{events_of}
use Rattle.lc_history.proofs.spans.clients_of.Given as goal

abbrev pub invariant-loop-place : goal.invariant-loop-place
invariant-loop-place l = record {
  size : length l.clients.items ≡ length l.initial.clients.items;
  clients : AreClients (take l.place (events_of l.events)) l.clients.items;
  seen : HaveSeen (λ c. 0) l.clients.items;
}
