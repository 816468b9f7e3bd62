-- What is told of labels, one after another.
use Rattle.std.proofs.Common.{◌≡◌, ℕ, zero, suc, ◌<◌, ◌≤◌, ◌+◌, List, [], ◌∷◌, ◌++◌, Option, None, length, drop, get_or, replicate, refl, sym, ap, ◌∙◌, subst, append_assoc, append-nil}
use Rattle.std.specs.Prelude.{slice_index_or}
use Rattle.lc_lemmas.proofs.Lists.{drop_at_element, dropped_all}
use Rattle.lc_term.specs.Updates.{Write}
use Rattle.lc_seq.specs.Sequential.{Call}
use Rattle.lc_machine.specs.World.{World}
use Rattle.lc_outline.specs.Development.{Development}
use Rattle.lc_ride.specs.RideView.{marks_of}
use Rattle.lc_run.specs.LabelView.{label_of, labels_of}
use Rattle.lc_run.specs.Ordering.{call_in, calls_in}
use Rattle.lc_run.specs.declared.label.Label.{Label}
use Rattle.lc_run.specs.declared.ordering.Begun.{Begun}
use Rattle.lc_sound.specs.Instrumented.{Instrumented, start_world}
use Rattle.lc_sound.specs.Order.{called_last, no_call}
use Rattle.lc_steps.specs.StepView.{what_of}
use Rattle.lc_trace.specs.Changes.{Changes}
use Rattle.lc_trace.specs.Lines.{step_text}
use Rattle.lc_trace.specs.Traces.{TellsStepsFrom, TellsSteps}

-- no call was begun
abbrev no_begun : Option Begun
no_begun = None

-- what is told from a world on is the rest of the trace
abbrev pub Leads : Development → ℕ → List Label → World → (ℕ → Call) → ℕ → List ℕ → Type 0
Leads D n labels w calls k text = (rest : List ℕ) → TellsStepsFrom D w calls (labels_of (drop k labels)) rest → TellsSteps D n (labels_of labels) (text ++ rest)

none_begun : (n c : ℕ) → slice_index_or (replicate n no_begun) c no_begun ≡ no_begun
none_begun zero c = refl
none_begun (suc n) zero = refl
none_begun (suc n) (suc c) = none_begun n c

pub told_first : (D : Development) (n : ℕ) (labels : List Label) (w : World) (calls : List (Option Begun)) (text : List ℕ) → w ≡ start_world D n → calls ≡ replicate n None → text ≡ [] →
    Leads D n labels w (calls_in calls) 0 text
told_first D n labels w calls text is none empty = λ rest so.
    let no_calls : calls_in calls ≡ (λ c. no_call) = λ i c. call_in ((ap (λ cs. slice_index_or cs c None) none ∙ none_begun n c) i) in
    subst (λ t. TellsSteps D n (labels_of labels) (t ++ rest)) (sym empty) (subst (λ cs. TellsStepsFrom D (start_world D n) cs (labels_of labels) rest) no_calls (subst (λ v. TellsStepsFrom D v (calls_in calls) (labels_of labels) rest) is so))

pub told_next : (D : Development) (n : ℕ) (labels : List Label) (k : ℕ) (l : Label) (w next : World) (calls calls' : ℕ → Call) (cells : List Write) (text text' : List ℕ) → k < length labels → l ≡ get_or labels k l →
    Instrumented D w l.client (what_of l.what) (marks_of l.marks.items) next → Changes next.columns w.columns cells → calls' ≡ called_last calls l.client (what_of l.what) →
    text' ≡ text ++ step_text D calls (label_of l) cells → Leads D n labels w calls k text → Leads D n labels next calls' (k + 1) text'
told_next D n labels k l w next calls calls' cells text text' lt is step changed noted more leads = λ rest so.
    let line = step_text D calls (label_of l) cells in
    let after = labels_of (drop (k + 1) labels) in
    let here : TellsStepsFrom D w calls (label_of l ∷ after) (line ++ rest) =
    (next, cells, rest, step, changed, subst (λ (cs : ℕ → Call). TellsStepsFrom D next cs after rest) noted so, refl) in
    let front : labels_of (drop k labels) ≡ label_of l ∷ after = ap labels_of (drop_at_element labels k l lt is) in
    subst (λ t. TellsSteps D n (labels_of labels) t) (sym (ap (λ t. t ++ rest) more ∙ append_assoc text line rest))
    (leads (line ++ rest) (subst (λ ls. TellsStepsFrom D w calls ls (line ++ rest)) (sym front) here))

pub told_all : (D : Development) (n : ℕ) (labels : List Label) (k : ℕ) (w : World) (calls : ℕ → Call) (text : List ℕ) → length labels ≤ k → Leads D n labels w calls k text → TellsSteps D n (labels_of labels) text
told_all D n labels k w calls text past leads =
    let none : labels_of (drop k labels) ≡ [] = ap labels_of (dropped_all labels k past) in
    subst (λ t. TellsSteps D n (labels_of labels) t) (append-nil text) (leads [] (subst (λ ls. TellsStepsFrom D w calls ls []) (sym none) refl))
