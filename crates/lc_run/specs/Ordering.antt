-- What happens in a run, as it is put together, and the entries of its order.
use Rattle.std.specs.Prelude.{ℕ, ◌==◌, ◌^◌, Bool, true, false, cond, nat_lt, List, [], ◌∷◌, ℤ, Option, Some, None, Vec, map, slice_index_or}
use Rattle.std.specs.declared.alloc.Global.{Global}
use Rattle.lc_seq.specs.Sequential.{Call}
use Rattle.lc_seq.specs.SpecView.{text_call_of, choice_of}
use Rattle.lc_seq.specs.declared.choice.Pick.{Pick}
use Rattle.lc_seq.specs.declared.text_call.TextCall.{TextCall}
use Rattle.lc_history.specs.History as H
use Rattle.lc_history.specs.History.{Entry}
use Rattle.lc_history.specs.View.{entries_in}
use Rattle.lc_history.specs.declared.event.Done.{Done}
use Rattle.lc_rider.specs.Rider.{Mark}
use Rattle.lc_ride.specs.RideView.{mark_of}
use Rattle.lc_sound.specs.Happening as S
use Rattle.lc_sound.specs.Happening.{Happens}
use Rattle.lc_sound.specs.Instrumented.{Label}
use Rattle.lc_sound.specs.Order.{marked, no_call}
use Rattle.lc_run.specs.declared.ordering.Begun.{Begun}
use Rattle.lc_run.specs.declared.ordering.Happening.{Happening}
use Rattle.lc_run.specs.declared.ordering.Happening.TheVariants.{Called, Replied, Marked}

abbrev pub order_entries : List (Done TextCall Pick (Vec ℤ Global)) → List Entry
order_entries entries = entries_in text_call_of choice_of (λ reply. reply.items) entries

-- the entry of a mark for this call
abbrev pub entry_of : Call → Mark → Entry
entry_of call m = record { client = m.client; call = call; choice = m.choice; reply = m.reply }

-- ---- from the front: the calls that clients began last

abbrev pub call_of : Begun → Call
call_of b = record { op = b.operation.0; numbers = b.numbers.now }

abbrev pub call_in : Option Begun → Call
call_in None = no_call
call_in (Some b) = call_of b

-- the call that each client began last
abbrev pub calls_in : List (Option Begun) → ℕ → Call
calls_in calls c = call_in (slice_index_or calls c None)

abbrev pub happening_of : Happening → S.Happening
happening_of (Called c call) = Happens (H.Called c (call_of call))
happening_of (Replied c numbers) = Happens (H.Replied c numbers.now)
happening_of (Marked mark call) = marked (λ _. call_in call) (mark_of mark.now)

abbrev pub happenings_of : List Happening → List S.Happening
happenings_of hs = map happening_of hs

-- there are more clients than the number of this label's
abbrev pub has_client : ℕ → Label → Bool
has_client n l = nat_lt l.client n

-- ---- from the end: which clients have a return next

abbrev pub returns_in : List Bool → ℕ → Bool
returns_in returns c = slice_index_or returns c false

-- there are more clients than the number of who begins a call or returns
abbrev pub is_within : ℕ → S.Happening → Bool
is_within n (Happens event) = nat_lt (S.client_of (Happens event)) n
is_within n (S.Marked note entry) = true

-- the entry of a mark, if it counts when these clients have a return next
abbrev pub counted_first : (ℕ → Bool) → S.Happening → List Entry
counted_first returns (Happens event) = []
counted_first returns (S.Marked false entry) = entry ∷ []
counted_first returns (S.Marked true entry) = cond (returns entry.client) (entry ∷ []) []

-- a client's number of 32 bits
abbrev pub is_small : Entry → Bool
is_small e = nat_lt e.client (2 ^ 32)
