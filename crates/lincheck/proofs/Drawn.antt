-- The answer to a history's file that is to be drawn, from its reading and from the beginning of the file.
use Rattle.std.proofs.Common.{◌≡◌, ◌==◌, ◌&&◌, ℕ, ℤ, ◌≤◌, ◌<◌, nat_le, Bool, true, false, ap, sym, length, take, List, [], ◌∷◌, codes, Option, None, Some, option_map, Result, Ok, Err, IfOk, String, string_bytes, Vec, refl, subst, ◌∙◌, inl, inr, arith}
use Rattle.std.proofs.lemmas.Bool.{eqb-true}
use Rattle.std.proofs.lemmas.List.{take_all, length-take}
use Rattle.std.specs.declared.alloc.Global.{Global}
use Rattle.lc_lemmas.proofs.Numbers.{below_or_from}
use Rattle.std.specs.List.{starts_with}
use Rattle.std.proofs.lemmas.Bool.Decides.{nat_tests}
use Rattle.lc_base.specs.Limits.{file_limit}
use Rattle.lc_base.specs.Line.{line_of}
use Rattle.lc_base.specs.declared.refusal.Fault.{Fault}
use Rattle.lc_draw.specs.Stretches.{IsDrawnRound}
use Rattle.lc_history.specs.History.{Event, Entry}
use Rattle.lc_hist.specs.JsonHistories.{IsRefusedAt}
use Rattle.lc_history.specs.View.{entries_view}
use Rattle.lc_hist.specs.JsonRecorded.{SaysRecorded, IsWrongRecordedItem}
use Rattle.lc_history.specs.declared.event.Done.{Done}
use Rattle.lc_order.specs.declared.deciding.Decision.{Decision}
use Rattle.lc_page.specs.Pages.{IsTracePage}
use Rattle.lc_seq.specs.Specification.{Specification}
use Rattle.lc_seq.specs.declared.choice.Pick.{Pick}
use Rattle.lc_seq.specs.declared.text_call.TextCall.{TextCall}
use Rattle.lc_words.specs.declared.request.Shown.{Shown}
use Rattle.lc_words.specs.declared.request.Shown.TheVariants.{Whole, Page, Around}
use Rattle.lincheck.specs.Answers.{ToldFault}
use Rattle.lincheck.specs.Draw.{AnswersDrawn, AnswersEither, AnswersShown, DrawsGiven, IsShown, ToldRound, front_found, is_traced, order_found}
use Rattle.lincheck.specs.Order.{IsDecision}
use Rattle.lincheck.specs.declared.answer.Answer.{Answer}
use Rattle.lincheck.specs.Reading.{OfFile, within_limit, most_bytes}
use Rattle.lincheck.proofs.Ordered.{wrong_item_told, wrong_of_long}
use Rattle.lincheck.proofs.Read.{read_so}

-- the beginning of a file that is beyond the limit says nothing, so item 0 is wrong in it and in the file
of_long : (shown : Shown) (spec : Specification) (n : ℕ) (file text : List ℕ) (status : ℕ) → n ≡ most_bytes → n ≤ length file → AnswersDrawn shown spec (take n file) text status → AnswersDrawn shown spec file text status
of_long shown spec n file text status e long (inl (history, given, says, draws)) = absurd (omega (arith, length-take n file, says.text.limit))
of_long shown spec n file text status e long (inr (item, wrong, told)) = inr (item, wrong_of_long spec n file item e long wrong, told)

-- nothing beyond the limit is drawn as a trace
long_untraced : (shown : Shown) (bytes : List ℕ) → file_limit < length bytes → is_traced shown bytes ≡ false
long_untraced Whole bytes long = refl
long_untraced Page bytes long = ap (λ b. starts_with ◌==◌ bytes (codes "linearizable ") && b) (over (length bytes) long) ∙ none (starts_with ◌==◌ bytes (codes "linearizable "))
  where
    over : (n : ℕ) → file_limit < n → nat_le n file_limit ≡ false
    over n long = grind (arith, nat_tests)

    none : (b : Bool) → b && false ≡ false
    none true = refl
    none false = refl
long_untraced (Around place width) bytes long = refl

-- the answer to what is read of a file is that to the file
of_whole : (shown : Shown) (spec : Specification) (n : ℕ) (file text : List ℕ) (status : ℕ) → n ≡ most_bytes → AnswersShown shown spec (take n file) text status → AnswersShown shown spec file text status
of_whole shown spec n file text status e is = elim (below_or_from (length file) n) [
  | inl h ↦ subst (λ l. AnswersShown shown spec l text status) (take_all n file (omega arith)) is
  | inr h ↦ subst (λ b. AnswersEither b shown spec file text status) (sym (long_untraced shown file (omega (arith, e, h))))
      (of_long shown spec n file text status e h (subst (λ b. AnswersEither b shown spec (take n file) text status) (long_untraced shown (take n file) (omega (arith, e, h, length-take n file))) is))
]

-- what is reported about what is read answers the file
pub drawn_answered : (shown : Shown) (spec : Specification) (known : Option (List ℕ)) (bytes seen text : List ℕ) (status : ℕ)
    → OfFile known (λ file. bytes ≡ within_limit file) → seen ≡ bytes → AnswersShown shown spec seen text status → OfFile known (λ file. AnswersShown shown spec file text status)
drawn_answered shown spec known bytes seen text status read same is = read_so known read (λ file read. of_whole shown spec most_bytes file text status refl (subst (λ b. AnswersShown shown spec b text status) (same ∙ read) is))

-- a drawing with an order that is given
pub drawn_as_given : {E : Type 0} (shown : Shown) (spec : Specification) (events : List Event) (given : List (Done TextCall Pick (Vec ℤ Global))) (result : Result Answer E) → (length given == 0) ≡ false
    → IfOk result (λ answer. IsShown shown spec.operations events (entries_view given) None answer.text.items answer.status) → IfOk result (λ answer. DrawsGiven shown spec events (entries_view given) answer.text.items answer.status)
drawn_as_given shown spec events given (Err fault) some draws = tt
drawn_as_given shown spec events [] (Ok answer) some draws = let no : true ≡ false = some in cc
drawn_as_given shown spec events (done ∷ order) (Ok answer) some draws = draws

-- a drawing of what is decided, if none is given
pub drawn_as_decided : {E : Type 0} (shown : Shown) (spec : Specification) (events : List Event) (given : List (Done TextCall Pick (Vec ℤ Global))) (decision : Decision TextCall Pick (Vec ℤ Global)) (result : Result Answer E) → (length given == 0) ≡ true
    → IsDecision spec events decision → IfOk result (λ answer. IsShown shown spec.operations events (order_found decision) (front_found decision) answer.text.items answer.status)
    → IfOk result (λ answer. DrawsGiven shown spec events (entries_view given) answer.text.items answer.status)
drawn_as_decided shown spec events given decision (Err fault) none is draws = tt
drawn_as_decided shown spec events [] decision (Ok answer) none is draws = (decision, is, draws)
drawn_as_decided shown spec events (done ∷ order) decision (Ok answer) none is draws =
    let zero : length (done ∷ order) ≡ 0 = eqb-true (length (done ∷ order)) 0 none in
    absurd (omega (arith, zero))

-- the drawing of what the bytes say answers them
pub drawing_answered : {E : Type 0} (shown : Shown) (spec : Specification) (bytes : List ℕ) (events : List Event) (given seen : List (Done TextCall Pick (Vec ℤ Global))) (result : Result Answer E)
    → SaysRecorded spec.operations bytes events (entries_view given) → seen ≡ given → IfOk result (λ answer. DrawsGiven shown spec events (entries_view seen) answer.text.items answer.status)
    → IfOk result (λ answer. AnswersDrawn shown spec bytes answer.text.items answer.status)
drawing_answered shown spec bytes events given seen (Ok answer) says same draws =
    inl (events, entries_view given, says, subst (λ (o : List (Done TextCall Pick (Vec ℤ Global))). DrawsGiven shown spec events (entries_view o) answer.text.items answer.status) same draws)
drawing_answered shown spec bytes events given seen (Err fault) says same draws = tt

-- and so does what is told of its first item that is wrong
pub drawing_refused : {E : Type 0} (shown : Shown) (spec : Specification) (bytes : List ℕ) (fault : Fault) (result : Result Answer E) → IsRefusedAt (IsWrongRecordedItem spec.operations bytes) fault
    → IfOk result (λ answer. ToldFault fault answer.text.items answer.status) → IfOk result (λ answer. AnswersDrawn shown spec bytes answer.text.items answer.status)
drawing_refused shown spec bytes fault (Err none) wrong told = tt
drawing_refused shown spec bytes fault (Ok answer) wrong told = inr (wrong_item_told spec bytes answer.text.items answer.status fault wrong told)

-- what is drawn near a mark is printed
pub round_drawn : (events : List Event) (order : List Entry) (place width : ℕ) (found : Option (String Global)) (text : String Global) (bytes : List ℕ) → found ≡ Some text → bytes ≡ string_bytes text
    → IsDrawnRound events order place width (option_map (λ t. string_bytes t) found) → (f : Option (List ℕ)) × IsDrawnRound events order place width f × ToldRound f bytes 0
round_drawn events order place width found text bytes is printed drawn =
    (Some (string_bytes text), subst (λ f. IsDrawnRound events order place width (option_map (λ t. string_bytes t) f)) is drawn, (printed, refl))

-- and a word is, if there is no mark
pub round_missing : (events : List Event) (order : List Entry) (place width : ℕ) (found : Option (String Global)) (bytes : List ℕ) → found ≡ None → bytes ≡ line_of (codes "no-such-place") []
    → IsDrawnRound events order place width (option_map (λ t. string_bytes t) found) → (f : Option (List ℕ)) × IsDrawnRound events order place width f × ToldRound f bytes 1
round_missing events order place width found bytes is printed drawn =
    (None, subst (λ f. IsDrawnRound events order place width (option_map (λ t. string_bytes t) f)) is drawn, (printed, refl))

-- what is no trace is answered as a history
pub untraced : {E : Type 0} (shown : Shown) (spec : Specification) (bytes : List ℕ) (result : Result Answer E) → is_traced shown bytes ≡ false → IfOk result (λ answer. AnswersDrawn shown spec bytes answer.text.items answer.status)
    → IfOk result (λ answer. AnswersShown shown spec bytes answer.text.items answer.status)
untraced shown spec bytes (Ok answer) is told = subst (λ b. AnswersEither b shown spec bytes answer.text.items answer.status) (sym is) told
untraced shown spec bytes (Err none) is told = tt

-- and a trace by its page
pub traced : (shown : Shown) (spec : Specification) (bytes text : List ℕ) → is_traced shown bytes ≡ true → IsTracePage bytes text → AnswersShown shown spec bytes text 0
traced shown spec bytes text is page = subst (λ b. AnswersEither b shown spec bytes text 0) (sym is) (page, refl)
