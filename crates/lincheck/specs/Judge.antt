-- The judgement of a history by a specification, and the answer to a development's file and a history's.
use Rattle.std.specs.Prelude.{◌≡◌, ℕ, ◌⊎◌, List, [], codes, Option, Result, Ok, Err}
use Rattle.lc_base.specs.Line.{line_of}
use Rattle.lc_base.specs.declared.refusal.Fault.{Fault}
use Rattle.lc_base.specs.declared.refusal.Fault.TheVariants.{Refused, OutOfMemory}
use Rattle.lc_base.specs.declared.refusal.Refusal.{Refusal}
use Rattle.lc_base.specs.declared.refusal.Refusal.TheVariants.{HistoryShape, Order}
use Rattle.lc_history.specs.History.{Event, Entry, IsLinearizable}
use Rattle.lc_hist.specs.JsonHistories.{SaysHistory, IsWrongItem}
use Rattle.lc_history.specs.Judged.{IsJudged}
use Rattle.lc_history.specs.Reason.{code_of}
use Rattle.lc_history.specs.declared.reason.Reason.{Reason}
use Rattle.lc_history.specs.declared.judging.JudgeFault as F
use Rattle.lc_history.specs.declared.judging.JudgeFault.TheVariants as V
use Rattle.lc_reading.specs.Files.{Says, IsFirstRefusal}
use Rattle.lc_spec_text.specs.Specifications.{first_reading}
use Rattle.lc_seq.specs.Specification.{Specification}
use Rattle.lc_seq.specs.TextStep.{text_step, TextFits, start_of}
use Rattle.lincheck.specs.Answers.{ToldFault}
use Rattle.lincheck.specs.Reading.{OfFile}
use Rattle.lincheck.specs.declared.judge.Judgement.{Judgement}
use Rattle.lincheck.specs.declared.judge.Judgement.TheVariants.{Linearizable, Overflow}

-- some order linearizes the history by the steps of the specification, from its start
abbrev pub IsSpecified : Specification → List Event → Type 0
IsSpecified spec history = IsLinearizable (text_step spec.operations) (start_of spec.columns) history

-- this is what the judge of an order answers by the specification
abbrev pub IsJudgedSo : Result (Unit {0}) F.JudgeFault → Specification → List Event → List Entry → Type 0
IsJudgedSo answer spec history order = IsJudged (text_step spec.operations) (TextFits spec.operations) (start_of spec.columns) history order answer

-- the order linearizes the history, and each number that the specification reaches has 64 bits
abbrev pub IsLinearization : Specification → List Event → List Entry → Type 0
IsLinearization = IsJudgedSo (Ok tt)

-- the order does not linearize the history, this is the first test that it does not pass, and each number that is reached has 64 bits
abbrev pub FailsFirst : ℕ → Reason → Specification → List Event → List Entry → Type 0
FailsFirst place reason = IsJudgedSo (Err (V.Order place reason))

-- at the first place whose tests are not passed, a number that the specification reaches leaves 64 bits
abbrev pub Overflows : Specification → List Event → List Entry → Type 0
Overflows = IsJudgedSo (Err V.Overflow)

-- the text says a history and an order for which this holds
abbrev pub SaysSuch : (Specification → List Event → List Entry → Type 0) → Specification → List ℕ → Type 0
SaysSuch Holds spec bytes = (history : List Event) × (order : List Entry) × SaysHistory spec.operations bytes history order × Holds spec history order

-- the refusal tells the first test that the order does not pass
abbrev pub IsOrderRefusal : Specification → List ℕ → ℕ → ℕ → Type 0
IsOrderRefusal spec bytes place number = (reason : Reason) × (number ≡ code_of reason) × SaysSuch (FailsFirst place reason) spec bytes

-- the refusal tells the first item of the text that is wrong, or why the order that it says does not linearize its history
abbrev pub IsHistoryRefusal : Specification → List ℕ → Refusal → Type 0
IsHistoryRefusal spec bytes (HistoryShape item) = IsWrongItem spec.operations bytes item
IsHistoryRefusal spec bytes (Order place number) = IsOrderRefusal spec bytes place number
IsHistoryRefusal spec bytes refusal = ⊥

-- The judgement of a history's text by a specification
abbrev pub IsJudgement : Specification → List ℕ → Result Judgement Fault → Type 0
IsJudgement spec bytes (Ok Linearizable) = SaysSuch IsLinearization spec bytes
IsJudgement spec bytes (Ok Overflow) = SaysSuch Overflows spec bytes
IsJudgement spec bytes (Err (Refused refusal)) = IsHistoryRefusal spec bytes refusal
IsJudgement spec bytes (Err OutOfMemory) = Unit {0}

-- what the judge of an order answers, as a judgement
abbrev pub judgement_of : Result (Unit {0}) F.JudgeFault → Result Judgement Fault
judgement_of (Ok done) = Ok Linearizable
judgement_of (Err (V.Order place reason)) = Err (Refused (Order place (code_of reason)))
judgement_of (Err V.Overflow) = Ok Overflow
judgement_of (Err V.OutOfMemory) = Err OutOfMemory

-- it is reported by the line `linearizable` and status 0, by the line `overflow` and status 1, or as a refusal
abbrev pub ToldJudgement : Result Judgement Fault → List ℕ → ℕ → Type 0
ToldJudgement (Ok Linearizable) text status = (text ≡ line_of (codes "linearizable") []) × (status ≡ 0)
ToldJudgement (Ok Overflow) text status = (text ≡ line_of (codes "overflow") []) × (status ≡ 1)
ToldJudgement (Err fault) text status = ToldFault fault text status

-- the answer to a history's file, by a specification
abbrev pub AnswersHistory : Specification → List ℕ → List ℕ → ℕ → Type 0
AnswersHistory spec file text status = (judgement : Result Judgement Fault) × IsJudgement spec file judgement × ToldJudgement judgement text status

-- the development's file has a first refusal, and that is reported
abbrev pub AnswersRefused : List ℕ → List ℕ → ℕ → Type 0
AnswersRefused development text status = (refusal : Refusal) × IsFirstRefusal first_reading development refusal × ToldFault (Refused refusal) text status

-- the first form of the development's file is a specification, by which the history's file is answered so
abbrev pub AnswersRead : (Specification → List ℕ → List ℕ → ℕ → Type 0) → List ℕ → Option (List ℕ) → List ℕ → ℕ → Type 0
AnswersRead Answers development history text status =
    (spec : Specification) × Says first_reading development spec × OfFile history (λ file. Answers spec file text status)

-- a refusal of the development's file decides, whatever the history's has; else this is answered so
abbrev pub AnswersBoth : (Specification → List ℕ → List ℕ → ℕ → Type 0) → List ℕ → Option (List ℕ) → List ℕ → ℕ → Type 0
AnswersBoth Answers development history text status = AnswersRefused development text status ⊎ AnswersRead Answers development history text status

-- The answer to a development's file and a history's
abbrev pub AnswersJudge : List ℕ → Option (List ℕ) → List ℕ → ℕ → Type 0
AnswersJudge = AnswersBoth AnswersHistory
