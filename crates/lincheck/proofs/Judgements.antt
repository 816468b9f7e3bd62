-- A judgement from the answers to the history's text and to its order, and from the beginning of a file.
use Rattle.std.proofs.Common.{◌≡◌, ℕ, ◌≤◌, length, take, List, Option, IfOk, Result, Ok, Err, refl, subst, ◌∙◌, inl, inr, arith, Vec, ℤ}
use Rattle.std.specs.Prelude.{IsErr}
use Rattle.std.specs.declared.alloc.Global.{Global}
use Rattle.std.proofs.lemmas.List.{take_all, length-take}
use Rattle.lc_lemmas.proofs.Numbers.{below_or_from}
use Rattle.lc_base.specs.declared.refusal.Fault.{Fault}
use Rattle.lc_base.specs.declared.refusal.Fault.TheVariants.{Refused, OutOfMemory}
use Rattle.lc_base.specs.declared.refusal.Refusal.TheVariants.{Text, Shape, Unknown, Repeated, Auxiliary, Bound, CertText, CertShape, Missing, Extra, Proof, Large, HistoryShape, Order}
use Rattle.lc_history.specs.History.{Event, Entry}
use Rattle.lc_hist.specs.JsonHistories.{SaysHistory, IsWrongItem}
use Rattle.lc_history.specs.View.{entries_view}
use Rattle.lc_history.specs.Judged.{IsJudged}
use Rattle.lc_history.specs.declared.event.Done.{Done}
use Rattle.lc_history.specs.declared.judging.JudgeFault as F
use Rattle.lc_history.specs.declared.judging.JudgeFault.TheVariants as V
use Rattle.lc_reading.specs.Files.{Says, IsFirstRefusal, IsAnswerTo}
use Rattle.lc_seq.specs.Specification.{Specification}
use Rattle.lc_seq.specs.TextStep.{text_step, TextFits, start_of}
use Rattle.lc_seq.specs.declared.choice.Pick.{Pick}
use Rattle.lc_seq.specs.declared.text_call.TextCall.{TextCall}
use Rattle.lincheck.specs.Answers.{ToldFault}
use Rattle.lincheck.specs.Judge.{IsLinearization, FailsFirst, Overflows, SaysSuch, IsJudgement, judgement_of, AnswersHistory, AnswersBoth, ToldJudgement}
use Rattle.lc_reading.proofs.Files.{says_not_refused}
use Rattle.lc_seq.specs.TextView.{specification_of}
use Rattle.lc_spec_text.specs.Specifications.{first_reading}
use Rattle.lc_words.specs.Tasks.{JudgeHistory}
use Rattle.lincheck.specs.Execution.{IsUnread}
use Rattle.lincheck.specs.Reading.{OfFile, within_limit, most_bytes}
use Rattle.lincheck.specs.declared.answer.Answer.{Answer}
use Rattle.lincheck.specs.declared.answer.Failure.{Failure}
use Rattle.lincheck.specs.declared.judge.Judgement.{Judgement}
use Rattle.lincheck.specs.declared.judge.Judgement.TheVariants.{Linearizable, Overflow}
use Rattle.lincheck.proofs.Read.{read_known, read_so}
use Rattle.lincheck.proofs.Truncated.{said_of_whole, refusal_of_whole}

-- what is answered of the order that the text says makes the judgement
judged : (spec : Specification) (bytes : List ℕ) (history : List Event) (order : List Entry) (result : Result (Unit {0}) F.JudgeFault) → SaysHistory spec.operations bytes history order
    → IsJudged (text_step spec.operations) (TextFits spec.operations) (start_of spec.columns) history order result → IsJudgement spec bytes (judgement_of result)
judged spec bytes history order (Ok done) says is = (history, order, says, is)
judged spec bytes history order (Err (V.Order place reason)) says is = (reason, refl, (history, order, says, is))
judged spec bytes history order (Err V.Overflow) says is = (history, order, says, is)
judged spec bytes history order (Err V.OutOfMemory) says is = tt

pub order_judged : (spec : Specification) (bytes : List ℕ) (history : List Event) (order seen : List (Done TextCall Pick (Vec ℤ Global))) (result : Result (Unit {0}) F.JudgeFault)
    → SaysHistory spec.operations bytes history (entries_view order) → seen ≡ order
    → IsJudged (text_step spec.operations) (TextFits spec.operations) (start_of spec.columns) history (entries_view seen) result → IsJudgement spec bytes (judgement_of result)
order_judged spec bytes history order seen result says same is =
    judged spec bytes history (entries_view order) result says
    (subst (λ (l : List (Done TextCall Pick (Vec ℤ Global))). IsJudged (text_step spec.operations) (TextFits spec.operations) (start_of spec.columns) history (entries_view l) result) same is)

-- the beginning of a file that is beyond the limit says nothing
says_nothing : (Holds : Specification → List Event → List Entry → Type 0) (spec : Specification) (n : ℕ) (file : List ℕ) → n ≡ most_bytes → n ≤ length file → SaysSuch Holds spec (take n file) → ⊥
says_nothing Holds spec n file e long (history, order, says, holds) = omega (arith, length-take n file, says.text.limit)

-- nor does the file, so item 0 is wrong in both
pub wrong_of_long : (spec : Specification) (n : ℕ) (file : List ℕ) (item : ℕ) → n ≡ most_bytes → n ≤ length file → IsWrongItem spec.operations (take n file) item → IsWrongItem spec.operations file item
wrong_of_long spec n file item e long (inl (is, none)) = inl (is, λ parts has. omega (arith, has.limit))
wrong_of_long spec n file item e long (inr (parts, has, wrong)) = absurd (omega (arith, length-take n file, has.limit))

of_long : (spec : Specification) (n : ℕ) (file : List ℕ) (judgement : Result Judgement Fault) → n ≡ most_bytes → n ≤ length file → IsJudgement spec (take n file) judgement → IsJudgement spec file judgement
of_long spec n file (Ok Linearizable) e long is = absurd (says_nothing IsLinearization spec n file e long is)
of_long spec n file (Ok Overflow) e long is = absurd (says_nothing Overflows spec n file e long is)
of_long spec n file (Err (Refused (HistoryShape item))) e long is = wrong_of_long spec n file item e long is
of_long spec n file (Err (Refused (Order place number))) e long (reason, same, says) = absurd (says_nothing (FailsFirst place reason) spec n file e long says)
of_long spec n file (Err (Refused (Text k))) e long is = absurd is
of_long spec n file (Err (Refused (Shape k))) e long is = absurd is
of_long spec n file (Err (Refused (Unknown k))) e long is = absurd is
of_long spec n file (Err (Refused (Repeated k))) e long is = absurd is
of_long spec n file (Err (Refused (Auxiliary k))) e long is = absurd is
of_long spec n file (Err (Refused (Bound k))) e long is = absurd is
of_long spec n file (Err (Refused (CertText k))) e long is = absurd is
of_long spec n file (Err (Refused (CertShape k))) e long is = absurd is
of_long spec n file (Err (Refused (Missing k))) e long is = absurd is
of_long spec n file (Err (Refused (Extra k))) e long is = absurd is
of_long spec n file (Err (Refused (Proof k m r))) e long is = absurd is
of_long spec n file (Err (Refused (Large k m))) e long is = absurd is
of_long spec n file (Err OutOfMemory) e long is = tt

-- the judgement of what is read of a file is that of the file
of_whole : (spec : Specification) (n : ℕ) (file : List ℕ) (judgement : Result Judgement Fault) → n ≡ most_bytes → IsJudgement spec (take n file) judgement → IsJudgement spec file judgement
of_whole spec n file judgement e is = elim (below_or_from (length file) n) [
  | inl h ↦ subst (λ l. IsJudgement spec l judgement) (take_all n file (omega arith)) is
  | inr h ↦ of_long spec n file judgement e h is
]

-- what is reported about the judgement of what is read answers the file
pub history_answered : (spec : Specification) (known : Option (List ℕ)) (bytes seen : List ℕ) (judgement : Result Judgement Fault) (text : List ℕ) (status : ℕ)
    → OfFile known (λ file. bytes ≡ within_limit file) → seen ≡ bytes → IsJudgement spec seen judgement → ToldJudgement judgement text status
    → OfFile known (λ file. AnswersHistory spec file text status)
history_answered spec known bytes seen judgement text status read same is told = read_so known read (λ file read. (judgement, of_whole spec most_bytes file judgement refl (subst (λ b. IsJudgement spec b judgement) (same ∙ read) is), told))

-- what is reported about the history answers both files, if the development is read
pub read_answered : (Answers : Specification → List ℕ → List ℕ → ℕ → Type 0) (known history history' : Option (List ℕ)) (bytes seen : List ℕ) (spec : Specification) (text : List ℕ) (status : ℕ)
    → OfFile known (λ file. bytes ≡ within_limit file) → seen ≡ bytes → Says first_reading seen spec → history' ≡ history → OfFile history' (λ file. Answers spec file text status)
    → OfFile known (λ file. AnswersBoth Answers file history text status)
read_answered Answers known history history' bytes seen spec text status read same says keeps answers = read_so known read (λ file read. inr (spec, said_of_whole first_reading file spec (subst (λ b. Says first_reading b spec) (same ∙ read) says), subst (λ h. OfFile h (λ f. Answers spec f text status)) keeps answers))

-- so it does if it may not be reported
pub read_answered_if : (Answers : Specification → List ℕ → List ℕ → ℕ → Type 0) (known history history' : Option (List ℕ)) (bytes seen : List ℕ) (spec : Specification) (result : Result Answer Failure)
    → OfFile known (λ file. bytes ≡ within_limit file) → seen ≡ bytes → Says first_reading seen spec → history' ≡ history
    → IfOk result (λ answer. OfFile history' (λ file. Answers spec file answer.text.items answer.status))
    → IfOk result (λ answer. OfFile known (λ file. AnswersBoth Answers file history answer.text.items answer.status))
read_answered_if Answers known history history' bytes seen spec (Ok answer) read same says keeps answers =
    read_answered Answers known history history' bytes seen spec answer.text.items answer.status read same says keeps answers
read_answered_if Answers known history history' bytes seen spec (Err failure) read same says keeps answers = tt

-- what is reported about the refusal of the development answers both files
pub refused_answered : (Answers : Specification → List ℕ → List ℕ → ℕ → Type 0) (known history : Option (List ℕ)) (bytes seen : List ℕ) (fault : Fault) (text : List ℕ) (status : ℕ)
    → OfFile known (λ file. bytes ≡ within_limit file) → seen ≡ bytes → IsAnswerTo specification_of first_reading seen (Err fault) → ToldFault fault text status
    → OfFile known (λ file. AnswersBoth Answers file history text status)
refused_answered Answers known history bytes seen (Refused refusal) text status read same is told = read_so known read (λ file read. inl (refusal, refusal_of_whole first_reading file refusal (subst (λ b. IsFirstRefusal first_reading b refusal) (same ∙ read) is), told))
refused_answered Answers known history bytes seen OutOfMemory text status read same is told = absurd told

-- if a file that is needed cannot be opened, and the development is read, there is no answer
pub read_unread : {T E : Type 0} (CannotOpen : List ℕ → Type 0) (bytes_at : List ℕ → Option (List ℕ)) (development history : List ℕ) (result : Result T E)
    → (CannotOpen development → ⊥) → (CannotOpen history → IsErr result) → IsUnread CannotOpen bytes_at (JudgeHistory development history) → IsErr result
read_unread CannotOpen bytes_at development history result opened none (inl closed) = absurd (opened closed)
read_unread CannotOpen bytes_at development history result opened none (inr (file, spec, known, says, closed)) = none closed

-- a development that is refused is read, and says nothing
pub refused_unread : {T E : Type 0} (CannotOpen : List ℕ → Type 0) (bytes_at : List ℕ → Option (List ℕ)) (development history : List ℕ) (result : Result T E) (bytes seen : List ℕ) (fault : Fault)
    (text : List ℕ) (status : ℕ) → (CannotOpen development → ⊥) → OfFile (bytes_at development) (λ file. bytes ≡ within_limit file) → seen ≡ bytes → IsAnswerTo specification_of first_reading seen (Err fault) → ToldFault fault text status
    → IsUnread CannotOpen bytes_at (JudgeHistory development history) → IsErr result
refused_unread CannotOpen bytes_at development history result bytes seen fault text status opened read same is told (inl closed) = absurd (opened closed)
refused_unread CannotOpen bytes_at development history result bytes seen (Refused refusal) text status opened read same is told (inr (file, spec, known, says, closed)) =
    let whole : bytes ≡ within_limit file = read_known (λ f. bytes ≡ within_limit f) known read in
    absurd (says_not_refused first_reading file spec refusal says (refusal_of_whole first_reading file refusal (subst (λ b. IsFirstRefusal first_reading b refusal) (same ∙ whole) is)))
refused_unread CannotOpen bytes_at development history result bytes seen OutOfMemory text status opened read same is told (inr unread) = absurd told
