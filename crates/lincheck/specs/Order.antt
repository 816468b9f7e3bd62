-- The answer to a development's file and a history's, of which an order is to be found.
use Rattle.std.specs.Prelude.{◌≡◌, ℕ, ◌⊎◌, Bool, true, false, List, [], ◌∷◌, ◌++◌, ℤ, codes, Option, Vec}
use Rattle.std.specs.declared.alloc.Global.{Global}
use Rattle.lc_base.specs.Line.{line_of}
use Rattle.lc_base.specs.declared.refusal.Fault.TheVariants.{Refused}
use Rattle.lc_base.specs.declared.refusal.Refusal.TheVariants.{HistoryShape}
use Rattle.lc_history.specs.History.{Event, Entry}
use Rattle.lc_history.specs.View.{entries_view}
use Rattle.lc_hist.specs.JsonRecorded.{SaysRecorded, IsWrongRecordedItem}
use Rattle.lc_hist.specs.JsonWritten.{history_text}
use Rattle.lc_order.specs.Decided.{IsDecided}
use Rattle.lc_order.specs.declared.deciding.Decision.{Decision}
use Rattle.lc_order.specs.declared.deciding.Decision.TheVariants.{Order, NotLinearizable, Unknown, Overflow, Budget}
use Rattle.lc_seq.specs.SpecView.{text_call_of, choice_of}
use Rattle.lc_seq.specs.Specification.{Operation, Specification}
use Rattle.lc_seq.specs.TextStep.{text_step, start_of}
use Rattle.lc_seq.specs.declared.choice.Pick.{Pick}
use Rattle.lc_seq.specs.declared.text_call.TextCall.{TextCall}
use Rattle.lincheck.specs.Answers.{ToldFault}
use Rattle.lincheck.specs.Judge.{AnswersBoth}

-- this is decided of the history by the steps of the specification, from its start
abbrev pub IsDecision : Specification → List Event → Decision TextCall Pick (Vec ℤ Global) → Type 0
IsDecision spec history = IsDecided (text_step spec.operations) (start_of spec.columns) history text_call_of choice_of (λ reply. reply.items)

-- what is printed of a history with an order that linearizes it: both, or the word alone
abbrev pub ordered_text : (check : Bool) → List Operation → List Event → List Entry → List ℕ
ordered_text false operations history order = history_text operations history order ++ (10 ∷ [])
ordered_text true operations history order = line_of (codes "linearizable") []

-- it is told by that text and status 0; or by a word and status 1, with the number of first events that no order linearizes
abbrev pub ToldDecision : (check : Bool) → List Operation → List Event → Decision TextCall Pick (Vec ℤ Global) → List ℕ → ℕ → Type 0
ToldDecision check operations history (Order order) text status = (text ≡ ordered_text check operations history (entries_view order.items)) × (status ≡ 0)
ToldDecision check operations history (NotLinearizable front) text status = (text ≡ line_of (codes "not linearizable") (front ∷ [])) × (status ≡ 1)
ToldDecision check operations history Unknown text status = (text ≡ line_of (codes "unknown") []) × (status ≡ 1)
ToldDecision check operations history Overflow text status = (text ≡ line_of (codes "overflow") []) × (status ≡ 1)
ToldDecision check operations history Budget text status = (text ≡ line_of (codes "budget") []) × (status ≡ 1)

-- the text says a recorded history, of which this is decided and told
abbrev pub TellsRecorded : (check : Bool) → Specification → List ℕ → List ℕ → ℕ → Type 0
TellsRecorded check spec file text status =
    (history : List Event) × (given : List Entry) × (decision : Decision TextCall Pick (Vec ℤ Global)) × SaysRecorded spec.operations file history given
    × IsDecision spec history decision × ToldDecision check spec.operations history decision text status

-- the refusal tells the first item that is wrong in the text of a recorded history
abbrev pub RefusesRecorded : Specification → List ℕ → List ℕ → ℕ → Type 0
RefusesRecorded spec file text status = (item : ℕ) × IsWrongRecordedItem spec.operations file item × ToldFault (Refused (HistoryShape item)) text status

-- the answer to a history's file, by a specification: what is decided; or the refusal
abbrev pub AnswersOrdered : (check : Bool) → Specification → List ℕ → List ℕ → ℕ → Type 0
AnswersOrdered check spec file text status = TellsRecorded check spec file text status ⊎ RefusesRecorded spec file text status

-- The answer to a development's file and a history's
abbrev pub AnswersOrder : (check : Bool) → List ℕ → Option (List ℕ) → List ℕ → ℕ → Type 0
AnswersOrder check = AnswersBoth (AnswersOrdered check)
