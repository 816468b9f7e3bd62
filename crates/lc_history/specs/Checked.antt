-- What is tested of one entry of an order, by where its call is.
use Rattle.std.specs.Prelude.{◌≡◌, ◌<◌, ℕ, Bool, true, false, List, ℤ, Option, Some, None, IfSome, Result, Ok, Err, length, take, slice_get}
use Rattle.lc_seq.specs.Sequential.{Call, Sequential, Step, Choice}
use Rattle.lc_seq.specs.declared.fault.SeqFault.{SeqFault}
use Rattle.lc_seq.specs.declared.fault.SeqFault.TheVariants.{Overflow, OutOfMemory}
use Rattle.lc_history.specs.History.{Event, Called, Replied, Entry}
use Rattle.lc_history.specs.Judged.{PassesBefore, IsFirstFailure, FitsAlong, applied, IsOverflow}
use Rattle.lc_history.specs.Spans.{span_of, is_preceded}
use Rattle.lc_history.specs.Tests.{named}
use Rattle.lc_history.specs.WellFormed.{IsWellFormed}
use Rattle.lc_history.specs.declared.judging.JudgeFault as F
use Rattle.lc_history.specs.declared.judging.JudgeFault.TheVariants as V
use Rattle.lc_history.specs.declared.reason.Reason.{Reason}
use Rattle.lc_history.specs.declared.reason.Reason.TheVariants.{OtherCall, OtherReply, MissingCall, NoStep, Preceded}
use Rattle.lc_history.specs.declared.spans.Span.{Span}

abbrev pub called_in : Option Event → Option Call
called_in None = None
called_in (Some (Called c call)) = Some call
called_in (Some (Replied c reply)) = None

abbrev pub replied_in : Option Event → Option (List ℤ)
replied_in None = None
replied_in (Some (Called c call)) = None
replied_in (Some (Replied c reply)) = Some reply

-- the call that begins at a place
abbrev pub call_at : List Event → Option Span → Option Call
call_at h None = None
call_at h (Some span) = called_in (slice_get h span.called)

-- the reply that is returned at a place
abbrev pub reply_there : List Event → Option ℕ → Option (List ℤ)
reply_there h None = None
reply_there h (Some place) = replied_in (slice_get h place)

abbrev pub reply_at : List Event → Option Span → Option (List ℤ)
reply_at h None = None
reply_at h (Some span) = reply_there h span.returned

-- the places of a call are places of the history
abbrev pub IsWithin : ℕ → Option Span → Type 0
IsWithin n None = Unit {0}
IsWithin n (Some span) = (span.called < n) × IfSome span.returned (λ place. place < n)

-- the call there is the entry's
abbrev pub IsNamed : List Event → Option Span → Call → Type 0
IsNamed h span call = call_at h span ≡ Some call

-- what it returned there, if it did, is the entry's reply
abbrev pub IsReplied : List Event → Option Span → List ℤ → Type 0
IsReplied h span reply = (given : List ℤ) → reply_at h span ≡ Some given → reply ≡ given

-- whether a step with this reply is taken, if the numbers that are reached fit
abbrev pub IsTaken : {A : Type 0} → Sequential A → (A → ℕ → Call → Choice → Type 0) → A → A → Entry → Result Bool SeqFault → Type 0
IsTaken step Fits old new e (Ok true) = Fits old e.client e.call e.choice × Step step old e.client e.call e.choice new e.reply
IsTaken {A} step Fits old new e (Ok false) = Fits old e.client e.call e.choice × ((t : A) → Step step old e.client e.call e.choice t e.reply → ⊥)
IsTaken step Fits old new e (Err Overflow) = Fits old e.client e.call e.choice → ⊥
IsTaken step Fits old new e (Err OutOfMemory) = Unit {0}

-- the first test that an entry does not pass, if there is one, and that the numbers fit that were reached
abbrev pub IsChecked : {A : Type 0} → Sequential A → (A → ℕ → Call → Choice → Type 0) → List Event → Option Span → Bool → Entry → A → A → Result (Option Reason) SeqFault → Type 0
IsChecked step Fits h span preceded e old new (Ok None) =
    IsNamed h span e.call × IsReplied h span e.reply × Fits old e.client e.call e.choice × Step step old e.client e.call e.choice new e.reply × (preceded ≡ false)
IsChecked step Fits h span preceded e old new (Ok (Some OtherCall)) = IsNamed h span e.call → ⊥
IsChecked step Fits h span preceded e old new (Ok (Some OtherReply)) = IsNamed h span e.call × (IsReplied h span e.reply → ⊥)
IsChecked {A} step Fits h span preceded e old new (Ok (Some NoStep)) =
    IsNamed h span e.call × IsReplied h span e.reply × Fits old e.client e.call e.choice × ((t : A) → Step step old e.client e.call e.choice t e.reply → ⊥)
IsChecked step Fits h span preceded e old new (Ok (Some Preceded)) =
    IsNamed h span e.call × IsReplied h span e.reply × Fits old e.client e.call e.choice × Step step old e.client e.call e.choice new e.reply × (preceded ≡ true)
IsChecked step Fits h span preceded e old new (Ok (Some MissingCall)) = ⊥
IsChecked step Fits h span preceded e old new (Err Overflow) = IsNamed h span e.call × IsReplied h span e.reply × (Fits old e.client e.call e.choice → ⊥)
IsChecked step Fits h span preceded e old new (Err OutOfMemory) = Unit {0}

-- it is known where the calls are that the entries name, and which places are preceded
pub record AreNames (h : List Event) (order : List Entry) (spans : List (Option Span)) (preceded : List Bool) : Type 0 where
  pub well_formed : IsWellFormed h
  pub found : (p : ℕ) (e : Entry) → slice_get order p ≡ Some e → slice_get spans p ≡ Some (span_of h e.client (named order p e))
  pub places : length spans ≡ length order
  pub told : (p : ℕ) → p < length spans → slice_get preceded p ≡ Some (is_preceded spans p)
  pub flags : length preceded ≡ length spans

-- what is returned for the entries
abbrev pub IsReplayed : {A : Type 0} → Sequential A → (A → ℕ → Call → Choice → Type 0) → A → List Event → List Entry → Result (Unit {0}) F.JudgeFault → Type 0
IsReplayed step Fits start h order (Ok done) = PassesBefore step start h order (length order) × FitsAlong step Fits start order
IsReplayed step Fits start h order (Err (V.Order place reason)) = IsFirstFailure step start h order place reason × FitsAlong step Fits start (take (applied reason place) order)
IsReplayed step Fits start h order (Err V.Overflow) = (place : ℕ) × IsOverflow step Fits start h order place
IsReplayed step Fits start h order (Err V.OutOfMemory) = Unit {0}
