-- What is reported about one condition, and about those that are chosen.
use Rattle.std.proofs.Common.{◌≡◌, ℕ, suc, ◌+◌, Bool, true, false, List, [], ◌∷◌, ◌++◌, length, Option, Some, None, IfOk, Result, Ok, Err, Vec, refl, ap, ap₂, ◌∙◌, inl, inr, arith}
use Rattle.std.specs.declared.alloc.Global.{Global}
use Rattle.std.specs.Prelude.{codes}
use Rattle.lc_base.specs.Line.{line_of}
use Rattle.lc_base.specs.declared.refusal.Fault.TheVariants.{Refused}
use Rattle.lc_base.specs.declared.refusal.Refusal.TheVariants.{Extra}
use Rattle.lc_cond.specs.Conditions.{Condition, conditions}
use Rattle.lc_cond_text.specs.ConditionText.{condition_text, conditions_text, lines_from, total_line}
use Rattle.lc_cond_text.specs.Chosen.{chosen_count, chosen_from, chosen_text}
use Rattle.lc_cond_text.specs.Shown.{IsLaid}
use Rattle.lc_outline.specs.Development.{Development}
use Rattle.lc_outline_text.specs.Developments.{file_reading}
use Rattle.lc_reading.specs.Files.{Says}
use Rattle.lc_words.specs.Tasks.{listing}
use Rattle.lincheck.specs.Answers.{ToldFault}
use Rattle.lincheck.specs.Check.{AnswersDevelopment, TellsRefusal}
use Rattle.lincheck.specs.Condition.{AnswersChosen, AnswersCondition, TellsChosen, TellsCondition, TellsLine, TellsLines}
use Rattle.lincheck.specs.Execution.{AnswersTask}
use Rattle.lincheck.specs.Reading.{OfFile}
use Rattle.lincheck.specs.declared.answer.Answer.{Answer}
use Rattle.lincheck.proofs.Read.{read_so}
use Rattle.lc_base.specs.declared.memory.OutOfMemory.{OutOfMemory}

pub laid_told : (k : ℕ) (line : Option (List ℕ)) (text : Vec ℕ Global) → IsLaid line (Some text) → TellsLine k line text.items 0
laid_told k None text is = absurd is
laid_told k (Some line) text is = (is, refl)

unlaid_told : (k : ℕ) (line : Option (List ℕ)) (text : List ℕ) (status : ℕ) → IsLaid line None → ToldFault (Refused (Extra k)) text status → TellsLine k line text status
unlaid_told k None text status is told = told
unlaid_told k (Some line) text status is told = absurd is

-- so it is where the answer may be wanting
pub unlaid_answered : (k : ℕ) (line : Option (List ℕ)) (r : Result Answer OutOfMemory) → IsLaid line None → IfOk r (λ answer. ToldFault (Refused (Extra k)) answer.text.items answer.status)
    → IfOk r (λ answer. TellsLine k line answer.text.items answer.status)
unlaid_answered k line (Ok answer) is told = unlaid_told k line answer.text.items answer.status is told
unlaid_answered k line (Err wanting) is told = tt

pub condition_answered : (k : ℕ) (known : Option (List ℕ)) (D : Development) (text : List ℕ) (status : ℕ) → OfFile known (λ file. Says file_reading file D) → TellsCondition D k text status
    → OfFile known (λ file. AnswersCondition k file text status)
condition_answered k known D text status says tells = read_so known says (λ file says. inr (D, says, tells))

pub condition_refused : (k : ℕ) (known : Option (List ℕ)) (text : List ℕ) (status : ℕ) → OfFile known (λ file. TellsRefusal file text status)
    → OfFile known (λ file. AnswersCondition k file text status)
condition_refused k known text status tells = read_so known tells (λ file tells. inl tells)

-- ---- those that are chosen

pub lines_told : (known : Bool) (lines text : List ℕ) → known ≡ true → text ≡ lines → TellsLines known lines text 0
lines_told true lines text is same = (same, refl)
lines_told false lines text is same = cc

pub no_point_told : (known : Bool) (lines text : List ℕ) → known ≡ false → text ≡ line_of (codes "no-such-point") [] → TellsLines known lines text 1
no_point_told false lines text is same = (same, refl)
no_point_told true lines text is same = cc

pub chosen_told : (point kind : Option (List ℕ)) (known : Option (List ℕ)) (D : Development) (text : List ℕ) (status : ℕ) → OfFile known (λ file. Says file_reading file D)
    → TellsChosen point kind D text status → OfFile known (λ file. AnswersChosen point kind file text status)
chosen_told point kind known D text status says tells = read_so known says (λ file says. inr (D, says, tells))

pub chosen_refused : (point kind : Option (List ℕ)) (known : Option (List ℕ)) (text : List ℕ) (status : ℕ) → OfFile known (λ file. TellsRefusal file text status)
    → OfFile known (λ file. AnswersChosen point kind file text status)
chosen_refused point kind known text status tells = read_so known tells (λ file tells. inl tells)

-- ---- if nothing is asked for all are chosen

all_lines : (D : Development) (k : ℕ) (cs : List Condition) → chosen_from None None D k cs ≡ lines_from D k cs
all_lines D k [] = refl
all_lines D k (c ∷ cs) = ap (λ l. condition_text D k c ++ 10 ∷ l) (all_lines D (suc k) cs)

all_counted : (D : Development) (cs : List Condition) → chosen_count None None D cs ≡ length cs
all_counted D [] = refl
all_counted D (c ∷ cs) = ap suc (all_counted D cs)

behind_none : (n : ℕ) → n ≡ 0 + n
behind_none n = omega arith

all_chosen : (D : Development) → chosen_text None None D ≡ conditions_text D
all_chosen D = ap₂ (λ l n. l ++ total_line n) (all_lines D 0 (conditions D)) (all_counted D (conditions D) ∙ behind_none (length (conditions D)))

all_answered : (file text : List ℕ) (status : ℕ) → AnswersChosen None None file text status → AnswersDevelopment conditions_text file text status
all_answered file text status (inl tells) = inl tells
all_answered file text status (inr (D, says, tells)) = inr (D, says, tells.0 ∙ all_chosen D, tells.1)

all_known : (known : Option (List ℕ)) (text : List ℕ) (status : ℕ) → OfFile known (λ file. AnswersChosen None None file text status)
    → OfFile known (λ file. AnswersDevelopment conditions_text file text status)
all_known known text status answers = read_so known answers (λ file answers. all_answered file text status answers)

pub chosen_answered : (bytes_at : List ℕ → Option (List ℕ)) (path : List ℕ) (point kind : Option (List ℕ)) (text : List ℕ) (status : ℕ)
    → OfFile (bytes_at path) (λ file. AnswersChosen point kind file text status) → AnswersTask bytes_at (listing path point kind) text status
chosen_answered bytes_at path None None text status answers = all_known (bytes_at path) text status answers
chosen_answered bytes_at path (Some point) None text status answers = answers
chosen_answered bytes_at path None (Some kind) text status answers = answers
chosen_answered bytes_at path (Some point) (Some kind) text status answers = answers
