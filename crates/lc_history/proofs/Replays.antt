-- The entries of an order, one after the other.
use Rattle.std.proofs.Common.{◌≡◌, ℕ, zero, suc, ◌+◌, ◌<◌, ◌≤◌, Bool, true, false, List, [], ◌∷◌, ◌++◌, ℤ, Option, Some, None, Result, Ok, Err, IsErrAnd, All, get_or, IfSome, option_map, take, slice_get, length, refl, ap, sym, subst, ◌∙◌, inl, inr, add-one, arith}
use Rattle.std.proofs.lemmas.Bool.{cases_order}
use Rattle.std.proofs.Math.Seq.{take-append_seam}
use Rattle.std.proofs.lemmas.Option.{slice_get_within, slice_get-get_or, get_or_from_slice_get}
use Rattle.lc_seq.specs.Sequential.{Call, Sequential, Step, Choice}
use Rattle.lc_history.specs.Checked.{call_at, reply_at, IsNamed, IsReplied, AreNames, IsChecked, IsReplayed, IsWithin}
use Rattle.lc_history.specs.Faults.{judge_fault}
use Rattle.lc_history.specs.WellFormed.{IsWellFormed}
use Rattle.lc_history.specs.declared.judging.JudgeFault.{JudgeFault}
use Rattle.lc_history.specs.declared.judging.JudgeFault.TheVariants as F
use Rattle.lc_history.specs.declared.spans.Client.{Client}
use Rattle.lc_history.proofs.Order.{passed_where_linearizes, linearizes_where_passed}
use Rattle.lc_seq.specs.declared.fault.SeqFault.{SeqFault}
use Rattle.lc_seq.specs.declared.fault.SeqFault.TheVariants.{Overflow, OutOfMemory}
use Rattle.lc_history.specs.History.{Event, Entry, IsLegal, Linearizes, is_call, is_return, is_of, count}
use Rattle.lc_history.specs.Judged.{PassesBefore, IsFirstFailure, Leads, FitsAlong, applied, IsOverflow, IsJudged}
use Rattle.lc_history.specs.Spans.{places_from, span_of, is_preceded, returns_of, AreClients, HaveSeen}
use Rattle.lc_history.specs.Tests.{IsCallOf, IsReplyOf, named, NamesItsCall, HasItsReply, IsUnpreceded, IsComplete, Passes, PassesEach, IsTested, rank}
use Rattle.lc_history.specs.declared.reason.Reason.{Reason}
use Rattle.lc_history.specs.declared.reason.Reason.TheVariants.{OtherCall, OtherReply, MissingCall, NoStep, Preceded}
use Rattle.lc_history.specs.declared.spans.Span.{Span}
use Rattle.lc_history.proofs.Naming.{place_from, length-places_from, call_at-span, span_of-call, reply_at-span, span_of-reply, told_preceded, told_free}

pub leads_next : {A : Type 0} (step : Sequential A) (s u t : A) (order : List Entry) (p : ℕ) (e : Entry) → slice_get order p ≡ Some e → Leads step s (take p order) u → Step step u e.client e.call e.choice t e.reply
    → Leads step s (take (suc p) order) t
leads_next step s u t [] p e at l to = absurd cc
leads_next step s u t (d ∷ es) zero e at l to =
    let same : e ≡ d = cc in
    (t, subst (λ z. Step step s z.client z.call z.choice t z.reply) same (subst (λ z. Step step z e.client e.call e.choice t e.reply) (sym l) to), refl)
leads_next step s u t (d ∷ es) (suc p) e at l to = (l.0, l.1, leads_next step l.0 u t es p e at l.2 to)

pub legal_next : {A : Type 0} (step : Sequential A) (s u t : A) (order : List Entry) (p : ℕ) (e : Entry) → slice_get order p ≡ Some e → Leads step s (take p order) u → Step step u e.client e.call e.choice t e.reply
    → IsLegal step s (take (suc p) order)
legal_next step s u t [] p e at l to = absurd cc
legal_next step s u t (d ∷ es) zero e at l to =
    let same : e ≡ d = cc in
    (t, subst (λ z. Step step s z.client z.call z.choice t z.reply) same (subst (λ z. Step step z e.client e.call e.choice t e.reply) (sym l) to), tt)
legal_next step s u t (d ∷ es) (suc p) e at l to = (l.0, l.1, legal_next step l.0 u t es p e at l.2 to)

abbrev state_in : {A : Type 0} → A → Option (A × List ℤ) → A
state_in s None = s
state_in s (Some x) = x.0

one_state : {A : Type 0} (step : Sequential A) (s u v : A) (e : Entry) → Step step s e.client e.call e.choice u e.reply → Step step s e.client e.call e.choice v e.reply → u ≡ v
one_state step s u v e a b = ap (state_in s) (sym a ∙ b)

pub step_of_legal : {A : Type 0} (step : Sequential A) (s u : A) (order : List Entry) (p : ℕ) (e : Entry) → slice_get order p ≡ Some e → Leads step s (take p order) u → IsLegal step s (take (suc p) order)
    → (t : A) × Step step u e.client e.call e.choice t e.reply
step_of_legal step s u [] p e at l legal = absurd cc
step_of_legal step s u (d ∷ es) zero e at l legal =
    let same : d ≡ e = cc in
    (legal.0, subst (λ z. Step step z e.client e.call e.choice legal.0 e.reply) l (subst (λ z. Step step s z.client z.call z.choice legal.0 z.reply) same legal.1))
step_of_legal step s u (d ∷ es) (suc p) e at l legal =
    step_of_legal step l.0 u es p e at l.2 (subst (λ z. IsLegal step z (take (suc p) es)) (one_state step s legal.0 l.0 d legal.1 l.1) legal.2)

-- numbers that fit up to one more place
pub fits_next : {A : Type 0} (step : Sequential A) (Fits : A → ℕ → Call → Choice → Type 0) (s u : A) (order : List Entry) (p : ℕ) (e : Entry) → slice_get order p ≡ Some e → Leads step s (take p order) u
    → FitsAlong step Fits s (take p order) → Fits u e.client e.call e.choice → FitsAlong step Fits s (take (suc p) order)
fits_next step Fits s u [] p e at l fits here = absurd cc
fits_next step Fits s u (d ∷ es) zero e at l fits here =
    let same : e ≡ d = cc in
    (subst (λ z. Fits s z.client z.call z.choice) same (subst (λ z. Fits z e.client e.call e.choice) (sym l) here), λ t taken. tt)
fits_next step Fits s u (d ∷ es) (suc p) e at l fits here =
    let rest = fits_next step Fits l.0 u es p e at l.2 (fits.1 l.0 l.1) here in
    (fits.0, λ t taken. subst (λ z. FitsAlong step Fits z (take (suc p) es)) (one_state step s l.0 t d l.1 taken) rest)

-- if numbers fit up to a place, they fit at an earlier one
pub fits_at : {A : Type 0} (step : Sequential A) (Fits : A → ℕ → Call → Choice → Type 0) (s u : A) (order : List Entry) (n p : ℕ) (e : Entry) → p < n → slice_get order p ≡ Some e → Leads step s (take p order) u
    → FitsAlong step Fits s (take n order) → Fits u e.client e.call e.choice
fits_at step Fits s u [] n p e lt at l fits = absurd cc
fits_at step Fits s u (d ∷ es) zero p e lt at l fits = absurd (omega arith)
fits_at step Fits s u (d ∷ es) (suc n) zero e lt at l fits =
    let same : d ≡ e = cc in
    subst (λ z. Fits z e.client e.call e.choice) l (subst (λ z. Fits s z.client z.call z.choice) same fits.0)
fits_at step Fits s u (d ∷ es) (suc n) (suc p) e lt at l fits = fits_at step Fits l.0 u es n p e (omega arith) at l.2 (fits.1 l.0 l.1)

pub take_whole : {A : Type 0} (xs : List A) → take (length xs) xs ≡ xs
take_whole [] = refl
take_whole (x ∷ xs) = ap (λ ys. x ∷ ys) (take_whole xs)

this_entry : (order : List Entry) (p : ℕ) (e d : Entry) → slice_get order p ≡ Some e → slice_get order p ≡ Some d → e ≡ d
this_entry order p e d at is = cc

its_span : (h : List Event) (order : List Entry) (spans : List (Option Span)) (flags : List Bool) (p : ℕ) (e : Entry) (span : Option Span) → AreNames h order spans flags → slice_get order p ≡ Some e → slice_get spans p ≡ Some span
    → span ≡ span_of h e.client (named order p e)
its_span h order spans flags p e span names at is = cc (names.found p e at, is)

pub names_its_call : (h : List Event) (order : List Entry) (spans : List (Option Span)) (flags : List Bool) (p : ℕ) (e : Entry) (span : Option Span) → AreNames h order spans flags
    → slice_get order p ≡ Some e → slice_get spans p ≡ Some span → IsNamed h span e.call → NamesItsCall h order p
names_its_call h order spans flags p e span names at is n d there =
    let same = this_entry order p e d at there in
    let its = its_span h order spans flags p e span names at is in
    subst (λ z. IsCallOf h z.client (named order p z) z.call) same (span_of-call h e.client (named order p e) e.call (subst (λ z. call_at h z ≡ Some e.call) its n))

pub is_named : (h : List Event) (order : List Entry) (spans : List (Option Span)) (flags : List Bool) (p : ℕ) (e : Entry) (span : Option Span) → AreNames h order spans flags
    → slice_get order p ≡ Some e → slice_get spans p ≡ Some span → NamesItsCall h order p → IsNamed h span e.call
is_named h order spans flags p e span names at is passed =
    let its = its_span h order spans flags p e span names at is in
    subst (λ z. call_at h z ≡ Some e.call) (sym its) (call_at-span h e.client (named order p e) e.call (passed e at))

pub has_its_reply : (h : List Event) (order : List Entry) (spans : List (Option Span)) (flags : List Bool) (p : ℕ) (e : Entry) (span : Option Span) → AreNames h order spans flags
    → slice_get order p ≡ Some e → slice_get spans p ≡ Some span → IsNamed h span e.call → IsReplied h span e.reply → HasItsReply h order p
has_its_reply h order spans flags p e span names at is n r d there reply given =
    let same = this_entry order p e d at there in
    let its = its_span h order spans flags p e span names at is in
    let call = names_its_call h order spans flags p e span names at is n e at in
    let back : IsReplyOf h e.client (named order p e) reply = subst (λ z. IsReplyOf h z.client (named order p z) reply) (sym same) given in
    ap (λ z. z.reply) (sym same) ∙ r reply (subst (λ z. reply_at h z ≡ Some reply) (sym its) (reply_at-span h e.client (named order p e) e.call reply call back))

pub is_replied : (h : List Event) (order : List Entry) (spans : List (Option Span)) (flags : List Bool) (p : ℕ) (e : Entry) (span : Option Span) → AreNames h order spans flags
    → slice_get order p ≡ Some e → slice_get spans p ≡ Some span → IsNamed h span e.call → HasItsReply h order p → IsReplied h span e.reply
is_replied h order spans flags p e span names at is n passed reply there =
    let its = its_span h order spans flags p e span names at is in
    let call = names_its_call h order spans flags p e span names at is n e at in
    passed e at reply (span_of-reply h e.client (named order p e) e.call reply call (subst (λ z. reply_at h z ≡ Some reply) its there))

its_flag : (h : List Event) (order : List Entry) (spans : List (Option Span)) (flags : List Bool) (p : ℕ) (span : Option Span) (flag : Bool) → AreNames h order spans flags → slice_get spans p ≡ Some span → slice_get flags p ≡ Some flag
    → is_preceded spans p ≡ flag
its_flag h order spans flags p span flag names is there = cc (names.told p (slice_get_within spans p span is), there)

pub unflagged_is_unpreceded : (h : List Event) (order : List Entry) (spans : List (Option Span)) (flags : List Bool) (p : ℕ) (span : Option Span) (flag : Bool) → AreNames h order spans flags → slice_get spans p ≡ Some span → slice_get flags p ≡ Some flag
    → flag ≡ false → IsUnpreceded h order p
unflagged_is_unpreceded h order spans flags p span flag names is there e = told_free h order spans flags names p (its_flag h order spans flags p span flag names is there ∙ e)

pub flagged_is_preceded : (h : List Event) (order : List Entry) (spans : List (Option Span)) (flags : List Bool) (p : ℕ) (span : Option Span) (flag : Bool) → AreNames h order spans flags → slice_get spans p ≡ Some span → slice_get flags p ≡ Some flag
    → flag ≡ true → IsUnpreceded h order p → ⊥
flagged_is_preceded h order spans flags p span flag names is there e = told_preceded h order spans flags names p (its_flag h order spans flags p span flag names is there ∙ e)

-- the tests at one more place are passed
pub passes_next : {A : Type 0} (step : Sequential A) (start : A) (h : List Event) (order : List Entry) (p : ℕ) → p < length order → PassesBefore step start h order p
    → NamesItsCall h order p → HasItsReply h order p → IsLegal step start (take (suc p) order) → IsUnpreceded h order p → PassesBefore step start h order (p + 1)
passes_next step start h order p within before names replies legal free q reason lt tested =
    elim (cases_order q p) [
      | inl same ↦ subst (λ z. Passes step start h order reason z) (sym same) (at_place reason (subst (λ z. IsTested (length order) reason z) same tested))
      | inr (inl less) ↦ before q reason less tested
      | inr (inr more) ↦ absurd (omega arith)
    ]
  where
    at_place : (reason : Reason) → IsTested (length order) reason p → Passes step start h order reason p
    at_place OtherCall tested = names
    at_place OtherReply tested = replies
    at_place MissingCall tested = absurd (omega arith)
    at_place NoStep tested = legal
    at_place Preceded tested = free

-- the tests below a rank are passed
lesser : {A : Type 0} (step : Sequential A) (start : A) (h : List Event) (order : List Entry) (p limit : ℕ) → p < length order
    → (1 < limit → NamesItsCall h order p) → (2 < limit → HasItsReply h order p) → (3 < limit → IsLegal step start (take (suc p) order)) → (4 < limit → IsUnpreceded h order p)
    → (other : Reason) → rank other < limit → IsTested (length order) other p → Passes step start h order other p
lesser step start h order p limit within names replies legal free OtherCall lt tested = names lt
lesser step start h order p limit within names replies legal free OtherReply lt tested = replies lt
lesser step start h order p limit within names replies legal free MissingCall lt tested = absurd (omega arith)
lesser step start h order p limit within names replies legal free NoStep lt tested = legal lt
lesser step start h order p limit within names replies legal free Preceded lt tested = free lt

-- an entry passes its tests
pub checked_entry_passes : {A : Type 0} (step : Sequential A) (Fits : A → ℕ → Call → Choice → Type 0) (start : A) (h : List Event) (order : List Entry) (spans : List (Option Span)) (flags : List Bool) (p : ℕ) (e : Entry) (span : Option Span) (flag : Bool) (s t : A)
    → AreNames h order spans flags → PassesBefore step start h order p → Leads step start (take p order) s → FitsAlong step Fits start (take p order) → slice_get order p ≡ Some e → slice_get spans p ≡ Some span → slice_get flags p ≡ Some flag
    → IsChecked step Fits h span flag e s t (Ok None) → PassesBefore step start h order (p + 1) × Leads step start (take (p + 1) order) t × FitsAlong step Fits start (take (p + 1) order)
checked_entry_passes step Fits start h order spans flags p e span flag s t names before leads fits at is told checked = (
  passes_next step start h order p (slice_get_within order p e at) before
      (names_its_call h order spans flags p e span names at is checked.0)
      (has_its_reply h order spans flags p e span names at is checked.0 checked.1)
      (legal_next step start s t order p e at leads checked.3)
      (unflagged_is_unpreceded h order spans flags p span flag names is told checked.4),
  rw (add-one p) (leads_next step start s t order p e at leads checked.3),
  rw (add-one p) (fits_next step Fits start s order p e at leads fits checked.2),
)

-- an entry does not pass them
pub checked_entry_fails : {A : Type 0} (step : Sequential A) (Fits : A → ℕ → Call → Choice → Type 0) (start : A) (h : List Event) (order : List Entry) (spans : List (Option Span)) (flags : List Bool) (p : ℕ) (e : Entry) (span : Option Span) (flag : Bool) (s t : A) (reason : Reason)
    → AreNames h order spans flags → PassesBefore step start h order p → Leads step start (take p order) s → slice_get order p ≡ Some e → slice_get spans p ≡ Some span → slice_get flags p ≡ Some flag
    → IsChecked step Fits h span flag e s t (Ok (Some reason)) → IsFirstFailure step start h order p reason
checked_entry_fails step Fits start h order spans flags p e span flag s t OtherCall names before leads at is told checked = record {
  tested = slice_get_within order p e at;
  fails = λ passed. checked (is_named h order spans flags p e span names at is passed);
  places = before;
  reasons = lesser step start h order p 1 (slice_get_within order p e at) (λ lt. absurd (omega arith)) (λ lt. absurd (omega arith)) (λ lt. absurd (omega arith)) (λ lt. absurd (omega arith));
}
checked_entry_fails step Fits start h order spans flags p e span flag s t OtherReply names before leads at is told checked = record {
  tested = slice_get_within order p e at;
  fails = λ passed. checked.1 (is_replied h order spans flags p e span names at is checked.0 passed);
  places = before;
  reasons = lesser step start h order p 2 (slice_get_within order p e at) (λ lt. names_its_call h order spans flags p e span names at is checked.0) (λ lt. absurd (omega arith)) (λ lt. absurd (omega arith)) (λ lt. absurd (omega arith));
}
checked_entry_fails step Fits start h order spans flags p e span flag s t MissingCall names before leads at is told checked = absurd checked
checked_entry_fails step Fits start h order spans flags p e span flag s t NoStep names before leads at is told checked = record {
  tested = slice_get_within order p e at;
  fails = λ passed. let taken = step_of_legal step start s order p e at leads passed in checked.3 taken.0 taken.1;
  places = before;
  reasons = lesser step start h order p 3 (slice_get_within order p e at) (λ lt. names_its_call h order spans flags p e span names at is checked.0)
      (λ lt. has_its_reply h order spans flags p e span names at is checked.0 checked.1) (λ lt. absurd (omega arith)) (λ lt. absurd (omega arith));
}
checked_entry_fails step Fits start h order spans flags p e span flag s t Preceded names before leads at is told checked = record {
  tested = slice_get_within order p e at;
  fails = flagged_is_preceded h order spans flags p span flag names is told checked.4;
  places = before;
  reasons = lesser step start h order p 4 (slice_get_within order p e at) (λ lt. names_its_call h order spans flags p e span names at is checked.0)
      (λ lt. has_its_reply h order spans flags p e span names at is checked.0 checked.1) (λ lt. legal_next step start s t order p e at leads checked.3) (λ lt. absurd (omega arith));
}

-- and the numbers fit that were reached
pub failing_fits : {A : Type 0} (step : Sequential A) (Fits : A → ℕ → Call → Choice → Type 0) (start : A) (h : List Event) (order : List Entry) (p : ℕ) (e : Entry) (span : Option Span) (flag : Bool) (s t : A) (reason : Reason)
    → Leads step start (take p order) s → FitsAlong step Fits start (take p order) → slice_get order p ≡ Some e → IsChecked step Fits h span flag e s t (Ok (Some reason)) → FitsAlong step Fits start (take (applied reason p) order)
failing_fits step Fits start h order p e span flag s t OtherCall leads fits at checked = fits
failing_fits step Fits start h order p e span flag s t OtherReply leads fits at checked = fits
failing_fits step Fits start h order p e span flag s t MissingCall leads fits at checked = fits
failing_fits step Fits start h order p e span flag s t NoStep leads fits at checked = fits_next step Fits start s order p e at leads fits checked.2
failing_fits step Fits start h order p e span flag s t Preceded leads fits at checked = fits_next step Fits start s order p e at leads fits checked.2

-- a number does not fit when an entry's call is applied
pub checked_entry_overflows : {A : Type 0} (step : Sequential A) (Fits : A → ℕ → Call → Choice → Type 0) (start : A) (h : List Event) (order : List Entry) (spans : List (Option Span)) (flags : List Bool) (p : ℕ) (e : Entry) (span : Option Span) (flag : Bool) (s t : A)
    → AreNames h order spans flags → PassesBefore step start h order p → Leads step start (take p order) s → FitsAlong step Fits start (take p order) → slice_get order p ≡ Some e → slice_get spans p ≡ Some span → slice_get flags p ≡ Some flag
    → IsChecked step Fits h span flag e s t (Err Overflow) → IsOverflow step Fits start h order p
checked_entry_overflows step Fits start h order spans flags p e span flag s t names before leads fits at is told checked = record {
  entry = e;
  state = s;
  stands = at;
  places = before;
  call = names_its_call h order spans flags p e span names at is checked.0;
  reply = has_its_reply h order spans flags p e span names at is checked.0 checked.1;
  leads = leads;
  fits = fits;
  overflows = checked.2;
}

-- what a fault of the object is to the judge
pub checked_entry_faults : {A : Type 0} (step : Sequential A) (Fits : A → ℕ → Call → Choice → Type 0) (start : A) (h : List Event) (order : List Entry) (spans : List (Option Span)) (flags : List Bool) (p : ℕ) (e : Entry) (span : Option Span) (flag : Bool) (s t : A) (fault : SeqFault)
    → AreNames h order spans flags → PassesBefore step start h order p → Leads step start (take p order) s → FitsAlong step Fits start (take p order) → slice_get order p ≡ Some e → slice_get spans p ≡ Some span → slice_get flags p ≡ Some flag
    → IsChecked step Fits h span flag e s t (Err fault) → IsReplayed step Fits start h order (Err (judge_fault fault))
checked_entry_faults step Fits start h order spans flags p e span flag s t Overflow names before leads fits at is told checked =
    (p, checked_entry_overflows step Fits start h order spans flags p e span flag s t names before leads fits at is told checked)
checked_entry_faults step Fits start h order spans flags p e span flag s t OutOfMemory names before leads fits at is told checked = tt

-- the places of a span that is found are places of the history
pub within_history : (h : List Event) (c k : ℕ) → IsWithin (length h) (span_of h c k)
within_history h c k = there (slice_get (places_from (is_call c) 0 h) k) refl
  where
    return_there : (o : Option ℕ) → slice_get (places_from (is_return c) 0 h) k ≡ o → IfSome o (λ place. place < length h)
    return_there None found = tt
    return_there (Some j) found = let f = place_from (is_return c) 0 h k j found in let lt = slice_get_within h f.index f.place.element f.place.stands in omega (arith, f.is, lt)

    there : (o : Option ℕ) → slice_get (places_from (is_call c) 0 h) k ≡ o → IsWithin (length h) (option_map (λ i. record { called = i; returned = slice_get (places_from (is_return c) 0 h) k }) o)
    there None found = tt
    there (Some i) found =
        let f = place_from (is_call c) 0 h k i found in
        let lt = slice_get_within h f.index f.place.element f.place.stands in
        (omega (arith, f.is, lt), return_there (slice_get (places_from (is_return c) 0 h) k) refl)

pub handed_on : {A : Type 0} (step : Sequential A) (Fits : A → ℕ → Call → Choice → Type 0) (start : A) (h : List Event) (order : List Entry) (r : Result (Unit {0}) JudgeFault) (fault : JudgeFault)
    → IsErrAnd r (λ y. y ≡ fault) → IsReplayed step Fits start h order (Err fault) → IsReplayed step Fits start h order r
handed_on step Fits start h order (Ok x) fault e known = absurd e
handed_on step Fits start h order (Err y) fault e known = subst (λ z. IsReplayed step Fits start h order (Err z)) (sym e) known

-- the judgement of the entries is the judgement of the order, if there is a fault
pub judged_so : {A : Type 0} (step : Sequential A) (Fits : A → ℕ → Call → Choice → Type 0) (start : A) (h : List Event) (order : List Entry) (r : Result (Unit {0}) JudgeFault) (fault : JudgeFault)
    → IsWellFormed h → IsErrAnd r (λ y. y ≡ fault) → IsReplayed step Fits start h order (Err fault) → IsJudged step Fits start h order r
judged_so step Fits start h order (Ok x) fault w e known = absurd e
judged_so step Fits start h order (Err y) fault w e known = subst (λ z. IsJudged step Fits start h order (Err z)) (sym e) (judged fault known)
  where
    judged : (fault : JudgeFault) → IsReplayed step Fits start h order (Err fault) → IsJudged step Fits start h order (Err fault)
    judged (F.Order place reason) known = (known.0, λ l. known.0.fails (passed_where_linearizes step start h order w l reason place known.0.tested), known.1)
    judged F.Overflow known = known
    judged F.OutOfMemory known = tt

each_client : (P : Client → Type 0) (clients : List Client) (c : ℕ) (client : Client) → All P clients → slice_get clients c ≡ Some client → P client
each_client P clients c client all at = subst P (get_or_from_slice_get clients c client client at) (all c client (slice_get_within clients c client at))

-- whether an order is complete, by its clients
pub complete_by_clients : (h : List Event) (order : List Entry) (clients : List Client) → AreClients h clients → HaveSeen (λ c. count (is_of c) order) clients
    → All (λ client. length client.returns.items ≤ client.entries) clients → IsComplete h order
complete_by_clients h order clients are seen all c = by_client (slice_get clients c) refl
  where
    by_client : (o : Option Client) → slice_get clients c ≡ o → count (is_return c) h ≤ count (is_of c) order
    by_client None at =
        let none : [] ≡ places_from (is_return c) 0 h = sym (ap returns_of at) ∙ are.returns c in
        omega (arith, ap length none, length-places_from (is_return c) 0 h)
    by_client (Some client) at =
        let its : client.returns.items ≡ places_from (is_return c) 0 h = sym (ap returns_of at) ∙ are.returns c in
        let enough = each_client (λ x. length x.returns.items ≤ x.entries) clients c client all at in
        omega (arith, ap length its, length-places_from (is_return c) 0 h, seen c client at, enough)

pub each_complete : (h : List Event) (order : List Entry) (clients : List Client) → AreClients h clients → HaveSeen (λ c. count (is_of c) order) clients
    → IsComplete h order → All (λ client. length client.returns.items ≤ client.entries) clients
each_complete h order clients are seen whole c d lt =
    let client = get_or clients c d in
    let at = slice_get-get_or clients c d lt in
    let its : client.returns.items ≡ places_from (is_return c) 0 h = sym (ap returns_of at) ∙ are.returns c in
    let enough = whole c in
    omega (arith, ap length its, length-places_from (is_return c) 0 h, seen c client at, enough)

-- if the entries pass and each returned call has one, each test is passed
pub passes_each : {A : Type 0} (step : Sequential A) (start : A) (h : List Event) (order : List Entry) → PassesBefore step start h order (length order) → IsComplete h order → PassesEach step start h order
passes_each step start h order before whole OtherCall p tested = before p OtherCall tested tested
passes_each step start h order before whole OtherReply p tested = before p OtherReply tested tested
passes_each step start h order before whole MissingCall p tested = whole
passes_each step start h order before whole NoStep p tested = before p NoStep tested tested
passes_each step start h order before whole Preceded p tested = before p Preceded tested tested

-- if only a returned call is missing
pub incomplete_misses_call : {A : Type 0} (step : Sequential A) (start : A) (h : List Event) (order : List Entry) (place : ℕ) → place ≡ length order → PassesBefore step start h order (length order) → (IsComplete h order → ⊥)
    → IsFirstFailure step start h order place MissingCall
incomplete_misses_call step start h order place last before lacks = record {
  tested = last;
  fails = lacks;
  places = subst (λ n. PassesBefore step start h order n) (sym last) before;
  reasons = none_else;
}
  where
    none_else : (other : Reason) → rank other < 5 → IsTested (length order) other place → Passes step start h order other place
    none_else OtherCall lt tested = absurd (omega arith)
    none_else OtherReply lt tested = absurd (omega arith)
    none_else MissingCall lt tested = absurd (omega arith)
    none_else NoStep lt tested = absurd (omega arith)
    none_else Preceded lt tested = absurd (omega arith)

pub take_of_joined : {A : Type 0} (n : ℕ) (xs ys : List A) → n ≡ length xs → take n (xs ++ ys) ≡ xs
take_of_joined n xs ys e = ap (λ k. take k (xs ++ ys)) e ∙ take-append_seam xs ys

-- what is returned if the entries pass and the clients are complete
pub all_pass : {A : Type 0} (step : Sequential A) (Fits : A → ℕ → Call → Choice → Type 0) (start : A) (h : List Event) (order : List Entry) (clients : List Client)
    → IsWellFormed h → AreClients h clients → HaveSeen (λ c. count (is_of c) order) clients → PassesBefore step start h order (length order) × FitsAlong step Fits start order
    → All (λ client. length client.returns.items ≤ client.entries) clients → Linearizes step start h order × FitsAlong step Fits start order
all_pass step Fits start h order clients w are seen known all = (
  linearizes_where_passed step start h order w (passes_each step start h order known.0 (complete_by_clients h order clients are seen all)),
  known.1,
)

-- what is returned if the entries pass and the clients are not complete
pub some_missing : {A : Type 0} (step : Sequential A) (Fits : A → ℕ → Call → Choice → Type 0) (start : A) (h : List Event) (order : List Entry) (clients : List Client) (place : ℕ)
    → IsWellFormed h → AreClients h clients → HaveSeen (λ c. count (is_of c) order) clients → PassesBefore step start h order (length order) × FitsAlong step Fits start order
    → (All (λ client. length client.returns.items ≤ client.entries) clients → ⊥) → place ≡ length order
    → IsFirstFailure step start h order place MissingCall × (Linearizes step start h order → ⊥) × FitsAlong step Fits start (take place order)
some_missing step Fits start h order clients place w are seen known lacks last =
    let absent : IsComplete h order → ⊥ = λ whole. lacks (each_complete h order clients are seen whole) in (
      incomplete_misses_call step start h order place last known.0 absent,
      λ l. absent (passed_where_linearizes step start h order w l MissingCall (length order) refl),
      subst (FitsAlong step Fits start) (sym (ap (λ n. take n order) last ∙ take_whole order)) known.1,
    )
