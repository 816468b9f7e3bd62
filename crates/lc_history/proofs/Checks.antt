-- What is read at the places of a call.
use Rattle.std.proofs.Common.{◌≡◌, ℕ, ◌<◌, List, ℤ, Option, Some, IfSome, length, get_or, Bool, true, ◌↔◌, ap, sym, subst, ◌∙◌}
use Rattle.lc_seq.specs.Sequential.{Call}
use Rattle.lc_history.specs.Checked.{called_in, replied_in, call_at, reply_there, reply_at, IsWithin, IsNamed, IsReplied}
use Rattle.lc_history.specs.History.{Event, Called, Replied}
use Rattle.lc_history.specs.View.{event_of, events_of}
use Rattle.lc_history.specs.declared.event.Event as R
use Rattle.lc_history.specs.declared.spans.Span.{Span}
use Rattle.lc_history.proofs.Turns.{event_at}

pub within_called : (n : ℕ) (span : Option Span) (s : Span) → span ≡ Some s → IsWithin n span → s.called < n
within_called n span s is within = (subst (IsWithin n) is within).0

pub call_there : (events : List R.Event) (span : Option Span) (s : Span) (event : R.Event) (c : ℕ) (call : Call) → span ≡ Some s → IsWithin (length events) span
    → event ≡ get_or events s.called event → event_of event ≡ Called c call → call_at (events_of events) span ≡ Some call
call_there events span s event c call is within here what =
    ap (call_at (events_of events)) is ∙ ap called_in (event_at events s.called event (within_called (length events) span s is within) here) ∙ ap (λ e. called_in (Some e)) what

within_returned : (n : ℕ) (span : Option Span) (s : Span) (place : ℕ) → span ≡ Some s → s.returned ≡ Some place → IsWithin n span → place < n
within_returned n span s place is there within = subst (λ r. IfSome r (λ p. p < n)) there (subst (IsWithin n) is within).1

pub reply_given : (events : List R.Event) (span : Option Span) (s : Span) (place : ℕ) (event : R.Event) (c : ℕ) (reply : List ℤ) → span ≡ Some s → s.returned ≡ Some place → IsWithin (length events) span
    → event ≡ get_or events place event → event_of event ≡ Replied c reply → reply_at (events_of events) span ≡ Some reply
reply_given events span s place event c reply is there within here what =
    ap (reply_at (events_of events)) is ∙ ap (reply_there (events_of events)) there
    ∙ ap replied_in (event_at events place event (within_returned (length events) span s place is there within) here) ∙ ap (λ e. replied_in (Some e)) what

-- the call there is this one
pub named_where : (h : List Event) (span : Option Span) (its x : Call) (b : Bool) → call_at h span ≡ Some its → (b ≡ true) ↔ (x ≡ its) → (b ≡ true) ↔ IsNamed h span x
named_where h span its x b there equal = (λ e. there ∙ ap Some (sym (equal.0 e)), λ n. equal.1 (cc (there, n)))

pub replied_where : (h : List Event) (span : Option Span) (reply given : List ℤ) (b : Bool) → reply_at h span ≡ Some given → (b ≡ true) ↔ (reply ≡ given) → (b ≡ true) ↔ IsReplied h span reply
replied_where h span reply given b there equal =
    (λ e other at. equal.0 e ∙ cc (there, at), λ r. equal.1 (r given there))
