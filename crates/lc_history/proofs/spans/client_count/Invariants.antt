use Rattle.std.proofs.Common.{◌≡◌, ◌<◌, ◌+◌, ◌^◌, ℕ, Some, slice_get}
use Rattle.lc_history.specs.History.{Event}
use Rattle.lc_history.specs.View.{events_of}
use Rattle.lc_history.specs.WellFormed.{client_of}
use Rattle.lc_history.proofs.spans.client_count.Given as goal

abbrev pub invariant-loop-event : goal.invariant-loop-event
invariant-loop-event l = record {
  above : (i : ℕ) (event : Event) → i < l.event-index → slice_get (events_of l.events) i ≡ Some event → client_of event < l.clients;
  fits : l.clients < 2 ^ 32 + 1;
}
