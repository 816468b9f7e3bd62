use Rattle.std.proofs.Common.{◌≡◌, ◌<◌, ℕ, List, Some, length, take, slice_get}
use Rattle.lc_history.specs.History.{Event, Entry, count, is_of}
use Rattle.lc_history.specs.Spans.{AreClients, HaveSeen, span_of}
use Rattle.lc_history.specs.Tests.{named}
use Rattle.lc_history.specs.View.{entries_in}
use Rattle.lc_history.proofs.spans.spans_of.Given as goal

abbrev pub invariant-loop-done : goal.invariant-loop-done
invariant-loop-done g l =
    let order = entries_in g.S.SeqObject.call_meant g.S.SeqObject.choice_meant g.S.SeqObject.numbers l.order in
    record {
      spans : (h : List Event) → AreClients h l.fn.clients → (p : ℕ) (e : Entry) → p < l.done-index → slice_get order p ≡ Some e →
          slice_get l.spans.items p ≡ Some (span_of h e.client (named order p e));
      size : length l.spans.items ≡ l.done-index;
      clients : (h : List Event) → AreClients h l.fn.clients → AreClients h l.clients;
      seen : HaveSeen (λ c. count (is_of c) (take l.done-index order)) l.clients;
    }
