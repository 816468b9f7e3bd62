-- The answers to a development's file, its certificate's and a plan's.
use Rattle.std.specs.Prelude.{◌≡◌, ℕ, zero, suc, ◌-◌, ◌⊎◌, List, [], ◌∷◌, ◌++◌, codes, flat_map, length, Option, Some, None, Result, Ok, Err}
use Rattle.std.specs.Fmt.{decimal}
use Rattle.lc_base.specs.Line.{line_of}
use Rattle.lc_base.specs.declared.refusal.Fault.TheVariants.{Refused}
use Rattle.lc_base.specs.declared.refusal.Refusal.{Refusal}
use Rattle.lc_check.specs.VerdictView.{development_in}
use Rattle.lc_check.specs.Verdicts.{IsProvenBy}
use Rattle.lc_check.specs.declared.verdict.Accepted.{Accepted}
use Rattle.lc_crew.specs.Halts.{word_of}
use Rattle.lc_crew.specs.Ran.{IsOrdered}
use Rattle.lc_crew.specs.declared.ended.Ended.{Ended}
use Rattle.lc_crew.specs.declared.halt.Halt.{Halt}
use Rattle.lc_crew.specs.declared.plan.Ran.{Ran}
use Rattle.lc_history.specs.Histories.{events_in}
use Rattle.lc_history.specs.History.{Event, Entry}
use Rattle.lc_history.specs.View.{entries_view}
use Rattle.lc_hist.specs.JsonWritten.{history_text}
use Rattle.lc_outline.specs.Development.{Development}
use Rattle.lc_outline_text.specs.Developments.{file_reading}
use Rattle.lc_plan.specs.Plans as S
use Rattle.lc_plan.specs.Readings.{plan_reading}
use Rattle.lc_plan.specs.View.{plan_of}
use Rattle.lc_plan.specs.declared.plan.Plan.{Plan}
use Rattle.lc_reading.specs.Files.{Says, IsFirstRefusal}
use Rattle.lc_run.specs.LabelView.{labels_of}
use Rattle.lc_sound.specs.Instrumented.{Label, history}
use Rattle.lc_sound.specs.Order.{order}
use Rattle.lc_trace.specs.Traces.{TellsSteps}
use Rattle.lc_words.specs.declared.request.Turns.{Turns}
use Rattle.lc_words.specs.declared.request.Turns.TheVariants.{Free, Drawn, DrawnEach, Traced}
use Rattle.lincheck.specs.Answers.{ToldFault}
use Rattle.lincheck.specs.Carry.{RefusesCertificate}
use Rattle.lincheck.specs.Check.{TellsRefusal}
use Rattle.lincheck.specs.Reading.{OfFile}
use Rattle.lincheck.specs.declared.answer.Answer.{Answer}

-- ---- what is printed

-- the line for a client that did not come to its end
abbrev pub halt_text : ℕ → Option Halt → List ℕ
halt_text client None = []
halt_text client (Some halt) = codes "client " ++ decimal client ++ codes " " ++ word_of halt ++ (10 ∷ [])

abbrev pub end_text : Ended → List ℕ
end_text e = halt_text e.client e.halt

-- the line `linearizable` with the number of entries, a line for each client that did not come to its end, and the history with its
-- order
abbrev pub run_text : Development → List Event → List Entry → List Ended → List ℕ
run_text D events entries ends =
    line_of (codes "linearizable") (length entries ∷ []) ++ flat_map end_text ends ++ history_text D.specification.operations events entries ++ (10 ∷ [])

abbrev pub ran_text : Development → Ran → List ℕ
ran_text D ran = run_text D (events_in ran.log.history) (entries_view ran.log.order.items) ran.ends.items

-- what is printed of a run by a plan: its history and its order, which linearizes it, and how its clients came to their ends; each
-- made the calls that are planned for it, in their order: all of them, or up to the one that halted it
abbrev pub TellsRun : Development → S.Plan → List ℕ → Type 0
TellsRun D P text =
    (labels : List Label) × (ends : List Ended) × IsOrdered D P.clients P.phases labels ends × (text ≡ run_text D (history labels) (order labels) ends)

-- ` client C WORD`, for a client that did not come to its end
abbrev pub halted_text : ℕ → Option Halt → List ℕ
halted_text client None = []
halted_text client (Some halt) = codes " client " ++ decimal client ++ codes " " ++ word_of halt

abbrev pub ended_text : Ended → List ℕ
ended_text e = halted_text e.client e.halt

-- the line for a run by a seed: the number of entries, and the clients that did not come to their ends
abbrev pub seed_text : ℕ → ℕ → List Ended → List ℕ
seed_text seed entries ends = codes "seed " ++ decimal seed ++ codes " linearizable " ++ decimal entries ++ flat_map ended_text ends ++ (10 ∷ [])

-- what is printed of a run by a plan and a seed, in a line
abbrev pub TellsSeed : Development → S.Plan → ℕ → List ℕ → Type 0
TellsSeed D P seed text =
    (labels : List Label) × (ends : List Ended) × IsOrdered D P.clients P.phases labels ends × (text ≡ seed_text seed (length (order labels)) ends)

-- and of runs by n seeds, from this one on
abbrev pub TellsSeeds : Development → S.Plan → (n seed : ℕ) → List ℕ → Type 0
TellsSeeds D P zero seed text = text ≡ []
TellsSeeds D P (suc n) seed text = (line : List ℕ) × (rest : List ℕ) × TellsSeed D P seed line × TellsSeeds D P n (suc seed) rest × (text ≡ line ++ rest)

-- the line `linearizable` with the number of entries, a line for each client that did not come to its end, and the lines of the steps
abbrev pub trace_text : ℕ → List Ended → List ℕ → List ℕ
trace_text entries ends lines = line_of (codes "linearizable") (entries ∷ []) ++ flat_map end_text ends ++ lines

-- and so of what has run by n clients: its steps are told
abbrev pub TracesRan : Development → ℕ → Ran → List ℕ → Type 0
TracesRan D n ran text =
    (lines : List ℕ) × TellsSteps D n (labels_of ran.log.labels.items) lines × (text ≡ trace_text (length ran.log.order.items) ran.ends.items lines)

-- what is printed of a run by a plan in which each step is told, with the marks that it makes and the cells that it changes
abbrev pub TellsTrace : Development → S.Plan → List ℕ → Type 0
TellsTrace D P text =
    (labels : List Label) × (ends : List Ended) × (lines : List ℕ)
    × IsOrdered D P.clients P.phases labels ends × TellsSteps D P.clients labels lines × (text ≡ trace_text (length (order labels)) ends lines)

-- what is printed by a plan, by whose turn it is
abbrev pub TellsBy : Turns → Development → S.Plan → List ℕ → Type 0
TellsBy Free D P text = TellsRun D P text
TellsBy (Drawn seed) D P text = TellsRun D P text
TellsBy (DrawnEach first end) D P text = TellsSeeds D P (end - first) first text
TellsBy (Traced seed) D P text = TellsTrace D P text

-- what has run is reported, with status 0; or seats did not match, and nothing is printed
abbrev pub RunsBy : Turns → Development → S.Plan → List ℕ → ℕ → Type 0
RunsBy turns D P text status = (TellsBy turns D P text × (status ≡ 0)) ⊎ ((text ≡ []) × (status ≡ 5))

-- the file is no plan for the development, and its first refusal is reported
abbrev pub RefusesPlan : Development → List ℕ → List ℕ → ℕ → Type 0
RefusesPlan D file text status = (refusal : Refusal) × IsFirstRefusal (plan_reading D) file refusal × ToldFault (Refused refusal) text status

-- the file of the plan is refused; or the development runs so by it
abbrev pub AnswersPlan : Turns → Development → List ℕ → List ℕ → ℕ → Type 0
AnswersPlan turns D file text status = RefusesPlan D file text status ⊎ ((P : S.Plan) × Says (plan_reading D) file P × RunsBy turns D P text status)

-- the file of the certificate is refused; or it proves the development, and the plan's is answered
abbrev pub AnswersProvenRun : Turns → Development → List ℕ → Option (List ℕ) → List ℕ → ℕ → Type 0
AnswersProvenRun turns D file plan text status =
    RefusesCertificate D file text status ⊎ (IsProvenBy D file × OfFile plan (λ other. AnswersPlan turns D other text status))

-- The answer to a development's file, its certificate's and a plan's. The first that is refused decides
abbrev pub AnswersRun : Turns → List ℕ → Option (List ℕ) → Option (List ℕ) → List ℕ → ℕ → Type 0
AnswersRun turns development certificate plan text status =
    TellsRefusal development text status
    ⊎ ((D : Development) × Says file_reading development D × OfFile certificate (λ file. AnswersProvenRun turns D file plan text status))

-- ---- files that are opened

-- the file of a certificate is opened: it proves the development; or its refusal is reported
abbrev pub OpensAccepted : Development → List ℕ → Result Accepted Answer → Type 0
OpensAccepted D file (Ok accepted) = (development_in accepted ≡ D) × IsProvenBy D file
OpensAccepted D file (Err answer) = RefusesCertificate D file answer.text.items answer.status

-- the file of a plan is opened: it says this plan; or its refusal is reported
abbrev pub OpensPlan : Development → List ℕ → Result Plan Answer → Type 0
OpensPlan D file (Ok plan) = Says (plan_reading D) file (plan_of plan)
OpensPlan D file (Err answer) = RefusesPlan D file answer.text.items answer.status

-- the certificate's file of a development cannot be opened; or it proves the development, and the plan's cannot
abbrev pub IsUnreadPlan : (List ℕ → Type 0) → (List ℕ → Option (List ℕ)) → Development → List ℕ → List ℕ → Type 0
IsUnreadPlan CannotOpen bytes_at D certificate plan =
    CannotOpen certificate ⊎ ((proofs : List ℕ) × (bytes_at certificate ≡ Some proofs) × IsProvenBy D proofs × CannotOpen plan)

-- the development's file cannot be opened; or it is read, and another that is needed cannot
abbrev pub IsUnreadRun : (List ℕ → Type 0) → (List ℕ → Option (List ℕ)) → List ℕ → List ℕ → List ℕ → Type 0
IsUnreadRun CannotOpen bytes_at development certificate plan =
    CannotOpen development
    ⊎ ((file : List ℕ) × (D : Development) × (bytes_at development ≡ Some file) × Says file_reading file D × IsUnreadPlan CannotOpen bytes_at D certificate plan)
