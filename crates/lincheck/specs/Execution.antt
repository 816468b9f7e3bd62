-- What the program leaves on standard output, and its exit status.
use Rattle.std.specs.Prelude.{◌≡◌, ℕ, ◌⊎◌, List, Option, Some, None}
use Rattle.std.specs.Io.KnownBytes.{Keeps, Appends}
use Rattle.lc_reading.specs.Files.{Says}
use Rattle.lc_spec_text.specs.Specifications.{first_reading}
use Rattle.lc_seq.specs.Specification.{Specification}
use Rattle.lc_cond_text.specs.ConditionText.{conditions_text}
use Rattle.lc_outline.specs.Development.{Development}
use Rattle.lc_outline_print.specs.Developments.{development_printed}
use Rattle.lc_outline_text.specs.Developments.{file_reading}
use Rattle.lincheck.specs.Carry.{AnswersCarry, AnswersWith, IsUnreadCarry}
use Rattle.lincheck.specs.Check.{AnswersDevelopment, AnswersCheck}
use Rattle.lc_words.specs.Tasks.{Task, CheckFormula, JudgeHistory, ShowDevelopment, ShowLines, ListConditions, ListChosen, ShowCondition, CheckByWorkers, CheckCertificate, ProveDevelopment, ProveWithHints, DrawHistory, BeginDevelopment, PrintLibrary, CarryCertificate, CarryWithHints, RunPlan, FindOrder, MakeWhole, ExploreRuns}
use Rattle.lincheck.specs.Complete.{AnswersComplete}
use Rattle.lincheck.specs.Condition.{AnswersChosen, AnswersCondition, kind_of, point_of}
use Rattle.lincheck.specs.Draw.{AnswersDraw}
use Rattle.lincheck.specs.Explore.{AnswersExplore, IsUnreadExplore}
use Rattle.lincheck.specs.Formula.{AnswersFormula}
use Rattle.lincheck.specs.Judge.{AnswersJudge}
use Rattle.lincheck.specs.Library.{AnswersLibrary}
use Rattle.lincheck.specs.Lines.{AnswersLines}
use Rattle.lincheck.specs.New.{AnswersNew}
use Rattle.lincheck.specs.Order.{AnswersOrder}
use Rattle.lincheck.specs.Prove.{AnswersProve, AnswersHinted}
use Rattle.lincheck.specs.Printing.{Begins, IsInPieces}
use Rattle.lincheck.specs.Reading.{OfFile}
use Rattle.lincheck.specs.Run.{AnswersRun, IsUnreadRun}

-- the answer to a task: to the bytes of the files that it names, or to some bytes in place of those of a file that is not known
abbrev pub AnswersTask : (List ℕ → Option (List ℕ)) → Task → List ℕ → ℕ → Type 0
AnswersTask bytes_at (CheckFormula path) text status = OfFile (bytes_at path) (λ file. AnswersFormula file text status)
AnswersTask bytes_at (JudgeHistory development history) text status =
    OfFile (bytes_at development) (λ file. AnswersJudge file (bytes_at history) text status)
AnswersTask bytes_at (ShowDevelopment development) text status =
    OfFile (bytes_at development) (λ file. AnswersDevelopment development_printed file text status)
AnswersTask bytes_at (ShowLines development) text status = OfFile (bytes_at development) (λ file. AnswersLines file text status)
AnswersTask bytes_at (ListConditions development) text status =
    OfFile (bytes_at development) (λ file. AnswersDevelopment conditions_text file text status)
AnswersTask bytes_at (ListChosen development filter) text status =
    OfFile (bytes_at development) (λ file. AnswersChosen (point_of filter) (kind_of filter) file text status)
AnswersTask bytes_at (ShowCondition development number) text status =
    OfFile (bytes_at development) (λ file. AnswersCondition number file text status)
AnswersTask bytes_at (CheckCertificate development certificate) text status =
    OfFile (bytes_at development) (λ file. AnswersCheck file (bytes_at certificate) text status)
AnswersTask bytes_at (CheckByWorkers development certificate workers) text status =
    OfFile (bytes_at development) (λ file. AnswersCheck file (bytes_at certificate) text status)
AnswersTask bytes_at (ProveDevelopment development) text status =
    OfFile (bytes_at development) (λ file. AnswersProve file text status)
AnswersTask bytes_at (ProveWithHints development hints) text status =
    OfFile (bytes_at development) (λ file. AnswersHinted file (bytes_at hints) text status)
AnswersTask bytes_at (CarryCertificate old certificate new) text status =
    OfFile (bytes_at old) (λ file. AnswersCarry (AnswersWith None) file (bytes_at certificate) (bytes_at new) text status)
AnswersTask bytes_at (CarryWithHints old certificate new hints) text status =
    OfFile (bytes_at old) (λ file. AnswersCarry (AnswersWith (Some (bytes_at hints))) file (bytes_at certificate) (bytes_at new) text status)
AnswersTask bytes_at (RunPlan development certificate plan turns) text status =
    OfFile (bytes_at development) (λ file. AnswersRun turns file (bytes_at certificate) (bytes_at plan) text status)
AnswersTask bytes_at (DrawHistory development history shown) text status =
    OfFile (bytes_at development) (λ file. AnswersDraw shown file (bytes_at history) text status)
AnswersTask bytes_at (BeginDevelopment name) text status = AnswersNew name text status
AnswersTask bytes_at (PrintLibrary lib asked) text status = AnswersLibrary lib asked text status
AnswersTask bytes_at (FindOrder development history check budget) text status =
    OfFile (bytes_at development) (λ file. AnswersOrder check file (bytes_at history) text status)
AnswersTask bytes_at (MakeWhole short budget) text status = OfFile (bytes_at short) (λ file. AnswersComplete file text status)
AnswersTask bytes_at (ExploreRuns development setting bare budget) text status =
    OfFile (bytes_at development) (λ file. AnswersExplore bytes_at bare budget setting file text status)

-- A file that a task needs cannot be opened: the only one or the development; or the other, if the development is read
abbrev pub IsUnread : (List ℕ → Type 0) → (List ℕ → Option (List ℕ)) → Task → Type 0
IsUnread CannotOpen bytes_at (CheckFormula path) = CannotOpen path
IsUnread CannotOpen bytes_at (JudgeHistory development history) =
    CannotOpen development
    ⊎ ((file : List ℕ) × (spec : Specification) × (bytes_at development ≡ Some file) × Says first_reading file spec × CannotOpen history)
IsUnread CannotOpen bytes_at (ShowDevelopment development) = CannotOpen development
IsUnread CannotOpen bytes_at (ShowLines development) = CannotOpen development
IsUnread CannotOpen bytes_at (ListConditions development) = CannotOpen development
IsUnread CannotOpen bytes_at (ListChosen development filter) = CannotOpen development
IsUnread CannotOpen bytes_at (ShowCondition development number) = CannotOpen development
IsUnread CannotOpen bytes_at (CheckCertificate development certificate) =
    CannotOpen development
    ⊎ ((file : List ℕ) × (D : Development) × (bytes_at development ≡ Some file) × Says file_reading file D × CannotOpen certificate)
IsUnread CannotOpen bytes_at (CheckByWorkers development certificate workers) =
    CannotOpen development
    ⊎ ((file : List ℕ) × (D : Development) × (bytes_at development ≡ Some file) × Says file_reading file D × CannotOpen certificate)
IsUnread CannotOpen bytes_at (ProveDevelopment development) = CannotOpen development
IsUnread CannotOpen bytes_at (ProveWithHints development hints) =
    CannotOpen development
    ⊎ ((file : List ℕ) × (D : Development) × (bytes_at development ≡ Some file) × Says file_reading file D × CannotOpen hints)
IsUnread CannotOpen bytes_at (CarryCertificate old certificate new) = IsUnreadCarry CannotOpen bytes_at old certificate new None
IsUnread CannotOpen bytes_at (CarryWithHints old certificate new hints) = IsUnreadCarry CannotOpen bytes_at old certificate new (Some hints)
IsUnread CannotOpen bytes_at (RunPlan development certificate plan turns) = IsUnreadRun CannotOpen bytes_at development certificate plan
IsUnread CannotOpen bytes_at (DrawHistory development history shown) =
    CannotOpen development
    ⊎ ((file : List ℕ) × (spec : Specification) × (bytes_at development ≡ Some file) × Says first_reading file spec × CannotOpen history)
IsUnread CannotOpen bytes_at (BeginDevelopment name) = ⊥
IsUnread CannotOpen bytes_at (PrintLibrary lib asked) = ⊥
IsUnread CannotOpen bytes_at (FindOrder development history check budget) =
    CannotOpen development
    ⊎ ((file : List ℕ) × (spec : Specification) × (bytes_at development ≡ Some file) × Says first_reading file spec × CannotOpen history)
IsUnread CannotOpen bytes_at (MakeWhole short budget) = CannotOpen short
IsUnread CannotOpen bytes_at (ExploreRuns development setting bare budget) = IsUnreadExplore CannotOpen bytes_at development setting

-- The program ends with a task: with a fault of reading, or out of memory, and nothing is printed; or with an answer for which
-- this holds, which is appended to standard output, unless there is a fault of writing, or memory runs out while
-- an answer is printed as it is made: then a beginning of it is there
abbrev pub Ends : Task → (List ℕ → ℕ → Type 0) → Option (List ℕ) → Option (List ℕ) → ℕ → Type 0
Ends task IsAnswer before after status =
    (((status ≡ 3) ⊎ (status ≡ 4)) × Keeps before after)
    ⊎ ((text : List ℕ) × (said : ℕ) × IsAnswer text said
    × ((status ≡ 3) ⊎ ((IsInPieces task × (status ≡ 4) × Begins before after text) ⊎ ((status ≡ said) × Appends before after text))))
