-- The answer to a history's file of which an order is to be found, from its reading and from the beginning of the file.
use Rattle.std.proofs.Common.{◌≡◌, ℕ, ℤ, ◌≤◌, Bool, length, take, List, Option, IfOk, Result, Ok, Err, Vec, refl, subst, ◌∙◌, inl, inr, arith}
use Rattle.std.proofs.lemmas.List.{take_all, length-take}
use Rattle.std.specs.declared.alloc.Global.{Global}
use Rattle.lc_lemmas.proofs.Numbers.{below_or_from}
use Rattle.lc_base.specs.declared.memory.OutOfMemory.{OutOfMemory}
use Rattle.lc_base.specs.declared.refusal.Fault.{Fault}
use Rattle.lc_base.specs.declared.refusal.Fault.TheVariants.{Refused, OutOfMemory as NoMemory}
use Rattle.lc_base.specs.declared.refusal.Refusal.TheVariants.{Text, Shape, Unknown, Repeated, Auxiliary, Bound, CertText, CertShape, Missing, Extra, Proof, Large, HistoryShape, Order}
use Rattle.lc_history.specs.History.{Event, Entry}
use Rattle.lc_hist.specs.JsonHistories.{IsRefusedAt}
use Rattle.lc_hist.specs.JsonRecorded.{SaysRecorded, IsWrongRecordedItem}
use Rattle.lc_order.specs.declared.deciding.Decision.{Decision}
use Rattle.lc_seq.specs.Specification.{Specification}
use Rattle.lc_seq.specs.declared.choice.Pick.{Pick}
use Rattle.lc_seq.specs.declared.text_call.TextCall.{TextCall}
use Rattle.lincheck.specs.Answers.{ToldFault}
use Rattle.lincheck.specs.Order.{AnswersOrdered, IsDecision, RefusesRecorded, ToldDecision}
use Rattle.lincheck.specs.declared.answer.Answer.{Answer}
use Rattle.lincheck.specs.Reading.{OfFile, within_limit, most_bytes}
use Rattle.lincheck.proofs.Read.{read_so}

-- what is told of a decision answers the text of the history of which it is decided
pub recorded_told : (check : Bool) (spec : Specification) (bytes : List ℕ) (history : List Event) (given : List Entry) (decision : Decision TextCall Pick (Vec ℤ Global)) (result : Result Answer OutOfMemory)
    → SaysRecorded spec.operations bytes history given → IsDecision spec history decision
    → IfOk result (λ answer. ToldDecision check spec.operations history decision answer.text.items answer.status) → IfOk result (λ answer. AnswersOrdered check spec bytes answer.text.items answer.status)
recorded_told check spec bytes history given decision (Ok answer) says is told = inl (history, given, decision, says, is, told)
recorded_told check spec bytes history given decision (Err none) says is told = tt

-- what is told of the first item that is wrong is its refusal
pub wrong_item_told : (spec : Specification) (bytes text : List ℕ) (status : ℕ) (fault : Fault) → IsRefusedAt (IsWrongRecordedItem spec.operations bytes) fault → ToldFault fault text status
    → RefusesRecorded spec bytes text status
wrong_item_told spec bytes text status NoMemory wrong told = absurd told
wrong_item_told spec bytes text status (Refused (HistoryShape item)) wrong told = (item, wrong, told)
wrong_item_told spec bytes text status (Refused (Text n)) wrong told = absurd wrong
wrong_item_told spec bytes text status (Refused (Shape n)) wrong told = absurd wrong
wrong_item_told spec bytes text status (Refused (Unknown n)) wrong told = absurd wrong
wrong_item_told spec bytes text status (Refused (Repeated n)) wrong told = absurd wrong
wrong_item_told spec bytes text status (Refused (Auxiliary n)) wrong told = absurd wrong
wrong_item_told spec bytes text status (Refused (Bound n)) wrong told = absurd wrong
wrong_item_told spec bytes text status (Refused (CertText n)) wrong told = absurd wrong
wrong_item_told spec bytes text status (Refused (CertShape n)) wrong told = absurd wrong
wrong_item_told spec bytes text status (Refused (Missing n)) wrong told = absurd wrong
wrong_item_told spec bytes text status (Refused (Extra n)) wrong told = absurd wrong
wrong_item_told spec bytes text status (Refused (Proof k n r)) wrong told = absurd wrong
wrong_item_told spec bytes text status (Refused (Large k n)) wrong told = absurd wrong
wrong_item_told spec bytes text status (Refused (Order k r)) wrong told = absurd wrong

-- and it answers the text of the history
pub recorded_refused : (check : Bool) (spec : Specification) (bytes : List ℕ) (fault : Fault) (result : Result Answer OutOfMemory) → IsRefusedAt (IsWrongRecordedItem spec.operations bytes) fault
    → IfOk result (λ answer. ToldFault fault answer.text.items answer.status) → IfOk result (λ answer. AnswersOrdered check spec bytes answer.text.items answer.status)
recorded_refused check spec bytes fault (Err none) wrong told = tt
recorded_refused check spec bytes fault (Ok answer) wrong told = inr (wrong_item_told spec bytes answer.text.items answer.status fault wrong told)

-- a file beyond the limit says nothing, nor does its beginning, so item 0 is wrong in both
pub wrong_of_long : (spec : Specification) (n : ℕ) (file : List ℕ) (item : ℕ) → n ≡ most_bytes → n ≤ length file → IsWrongRecordedItem spec.operations (take n file) item
    → IsWrongRecordedItem spec.operations file item
wrong_of_long spec n file item e long (inl (is, none)) = inl (is, λ parts has. omega (arith, has.limit))
wrong_of_long spec n file item e long (inr (parts, has, wrong)) = absurd (omega (arith, length-take n file, has.limit))

of_long : (check : Bool) (spec : Specification) (n : ℕ) (file text : List ℕ) (status : ℕ) → n ≡ most_bytes → n ≤ length file → AnswersOrdered check spec (take n file) text status
    → AnswersOrdered check spec file text status
of_long check spec n file text status e long (inl (history, given, decision, says, is, told)) = absurd (omega (arith, length-take n file, says.text.limit))
of_long check spec n file text status e long (inr (item, wrong, told)) = inr (item, wrong_of_long spec n file item e long wrong, told)

-- the answer to what is read of a file is that to the file
of_whole : (check : Bool) (spec : Specification) (n : ℕ) (file text : List ℕ) (status : ℕ) → n ≡ most_bytes → AnswersOrdered check spec (take n file) text status
    → AnswersOrdered check spec file text status
of_whole check spec n file text status e is = elim (below_or_from (length file) n) [
  | inl h ↦ subst (λ l. AnswersOrdered check spec l text status) (take_all n file (omega arith)) is
  | inr h ↦ of_long check spec n file text status e h is
]

-- what is told of what is read answers the file
pub ordered_answered : (check : Bool) (spec : Specification) (known : Option (List ℕ)) (bytes seen text : List ℕ) (status : ℕ)
    → OfFile known (λ file. bytes ≡ within_limit file) → seen ≡ bytes → AnswersOrdered check spec seen text status → OfFile known (λ file. AnswersOrdered check spec file text status)
ordered_answered check spec known bytes seen text status read same is =
    read_so known read (λ file read. of_whole check spec most_bytes file text status refl (subst (λ b. AnswersOrdered check spec b text status) (same ∙ read) is))
