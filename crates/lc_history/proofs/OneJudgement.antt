-- An order has one judgement, but for `OutOfMemory`.
use Rattle.std.proofs.Common.{◌≡◌, ℕ, suc, ◌<◌, List, Ok, Err, Result, take, length, refl, sym, ap, ap₂, subst, ◌∙◌, inl, inr, arith}
use Rattle.std.specs.Prelude.{◌==◌, if◌then◌else◌}
use Rattle.std.proofs.lemmas.Bool.{cases_order}
use Rattle.std.proofs.lemmas.Option.{slice_get_within}
use Rattle.lc_seq.specs.Sequential.{Call, Sequential, Choice}
use Rattle.lc_history.specs.History.{Event, Entry}
use Rattle.lc_history.specs.Judged.{IsFirstFailure, FitsAlong, applied, IsOverflow, IsJudged, IsTold}
use Rattle.lc_history.specs.Tests.{rank}
use Rattle.lc_history.specs.declared.judging.JudgeFault.{JudgeFault}
use Rattle.lc_history.specs.declared.judging.JudgeFault.TheVariants.{Order, Overflow, OutOfMemory}
use Rattle.lc_history.specs.declared.reason.Reason.{Reason}
use Rattle.lc_history.specs.declared.reason.Reason.TheVariants.{OtherCall, OtherReply, MissingCall, NoStep, Preceded}
use Rattle.lc_history.proofs.Replays.{fits_at, take_whole}

-- the reason of a rank
abbrev by_rank : ℕ → Reason
by_rank n = if n == 1 then OtherCall else (if n == 2 then OtherReply else (if n == 3 then NoStep else (if n == 4 then Preceded else MissingCall)))

ranked : (reason : Reason) → by_rank (rank reason) ≡ reason
ranked OtherCall = refl
ranked OtherReply = refl
ranked MissingCall = refl
ranked NoStep = refl
ranked Preceded = refl

-- two first failures are at one place
one_place : {A : Type 0} (step : Sequential A) (start : A) (h : List Event) (order : List Entry) (p q : ℕ) (r s : Reason) →
    IsFirstFailure step start h order p r → IsFirstFailure step start h order q s → p ≡ q
one_place step start h order p q r s a b =
    elim (cases_order p q) [
      | inl same ↦ same
      | inr (inl less) ↦ absurd (a.fails (b.places p r less a.tested))
      | inr (inr more) ↦ absurd (b.fails (a.places q s more b.tested))
    ]

-- and have one reason
one_rank : {A : Type 0} (step : Sequential A) (start : A) (h : List Event) (order : List Entry) (p : ℕ) (r s : Reason) →
    IsFirstFailure step start h order p r → IsFirstFailure step start h order p s → rank r ≡ rank s
one_rank step start h order p r s a b =
    elim (cases_order (rank r) (rank s)) [
      | inl same ↦ same
      | inr (inl less) ↦ absurd (a.fails (b.reasons r less a.tested))
      | inr (inr more) ↦ absurd (b.fails (a.reasons s more b.tested))
    ]

one_failure : {A : Type 0} (step : Sequential A) (start : A) (h : List Event) (order : List Entry) (p q : ℕ) (r s : Reason) →
    IsFirstFailure step start h order p r → IsFirstFailure step start h order q s → Order p r ≡ Order q s
one_failure step start h order p q r s a b =
    let place = one_place step start h order p q r s a b in
    let rank_same = one_rank step start h order p r s a (subst (λ n. IsFirstFailure step start h order n s) (sym place) b) in
    ap₂ Order place (sym (ranked r) ∙ ap by_rank rank_same ∙ ranked s)

-- if the numbers fit, there is no overflow
fits_whole : {A : Type 0} (step : Sequential A) (Fits : A → ℕ → Call → Choice → Type 0) (start : A) (h : List Event) (order : List Entry) (p : ℕ) →
    FitsAlong step Fits start order → IsOverflow step Fits start h order p → ⊥
fits_whole step Fits start h order p fits o =
    o.overflows (fits_at step Fits start o.state order (length order) p o.entry (slice_get_within order p o.entry o.stands) o.stands o.leads (subst (FitsAlong step Fits start) (sym (take_whole order)) fits))

fits_before : {A : Type 0} (step : Sequential A) (Fits : A → ℕ → Call → Choice → Type 0) (start : A) (h : List Event) (order : List Entry) (n p : ℕ) → p < n →
    FitsAlong step Fits start (take n order) → IsOverflow step Fits start h order p → ⊥
fits_before step Fits start h order n p lt fits o = o.overflows (fits_at step Fits start o.state order n p o.entry lt o.stands o.leads fits)

at_least : (reason : Reason) (p q : ℕ) → p < q → p < applied reason q
at_least OtherCall p q lt = lt
at_least OtherReply p q lt = lt
at_least MissingCall p q lt = lt
at_least NoStep p q lt = omega arith
at_least Preceded p q lt = omega arith

-- nor at the place of a test that is not passed
not_here : {A : Type 0} (step : Sequential A) (Fits : A → ℕ → Call → Choice → Type 0) (start : A) (h : List Event) (order : List Entry) (p : ℕ) (reason : Reason) →
    IsFirstFailure step start h order p reason → FitsAlong step Fits start (take (applied reason p) order) → IsOverflow step Fits start h order p → ⊥
not_here step Fits start h order p OtherCall f fits o = f.fails o.call
not_here step Fits start h order p OtherReply f fits o = f.fails o.reply
not_here step Fits start h order p MissingCall f fits o = let lt = slice_get_within order p o.entry o.stands in omega (arith, lt, f.tested)
not_here step Fits start h order p NoStep f fits o = fits_before step Fits start h order (suc p) p (omega arith) fits o
not_here step Fits start h order p Preceded f fits o = fits_before step Fits start h order (suc p) p (omega arith) fits o

no_overflow : {A : Type 0} (step : Sequential A) (Fits : A → ℕ → Call → Choice → Type 0) (start : A) (h : List Event) (order : List Entry) (q p : ℕ) (reason : Reason) →
    IsFirstFailure step start h order q reason → FitsAlong step Fits start (take (applied reason q) order) → IsOverflow step Fits start h order p → ⊥
no_overflow step Fits start h order q p reason f fits o =
    elim (cases_order p q) [
      | inl same ↦ not_here step Fits start h order q reason f fits (subst (λ n. IsOverflow step Fits start h order n) same o)
      | inr (inl less) ↦ fits_before step Fits start h order (applied reason q) p (at_least reason p q less) fits o
      | inr (inr more) ↦ f.fails (o.places q reason more f.tested)
    ]

pub one_judgement : {A : Type 0} (step : Sequential A) (Fits : A → ℕ → Call → Choice → Type 0) (start : A) (h : List Event) (order : List Entry) (r s : Result (Unit {0}) JudgeFault) →
    IsJudged step Fits start h order r → IsTold r → IsJudged step Fits start h order s → IsTold s → r ≡ s
one_judgement step Fits start h order (Ok x) (Ok y) a told b also = refl
one_judgement step Fits start h order (Ok x) (Err (Order p r)) a told b also = absurd (b.1 a.0)
one_judgement step Fits start h order (Ok x) (Err Overflow) a told b also = absurd (fits_whole step Fits start h order b.0 a.1 b.1)
one_judgement step Fits start h order (Ok x) (Err OutOfMemory) a told b also = absurd also
one_judgement step Fits start h order (Err (Order p r)) (Ok y) a told b also = absurd (a.1 b.0)
one_judgement step Fits start h order (Err (Order p r)) (Err (Order q s)) a told b also = ap Err (one_failure step start h order p q r s a.0 b.0)
one_judgement step Fits start h order (Err (Order p r)) (Err Overflow) a told b also = absurd (no_overflow step Fits start h order p b.0 r a.0 a.2 b.1)
one_judgement step Fits start h order (Err (Order p r)) (Err OutOfMemory) a told b also = absurd also
one_judgement step Fits start h order (Err Overflow) (Ok y) a told b also = absurd (fits_whole step Fits start h order a.0 b.1 a.1)
one_judgement step Fits start h order (Err Overflow) (Err (Order q s)) a told b also = absurd (no_overflow step Fits start h order q a.0 s b.0 b.2 a.1)
one_judgement step Fits start h order (Err Overflow) (Err Overflow) a told b also = refl
one_judgement step Fits start h order (Err Overflow) (Err OutOfMemory) a told b also = absurd also
one_judgement step Fits start h order (Err OutOfMemory) s a told b also = absurd told
