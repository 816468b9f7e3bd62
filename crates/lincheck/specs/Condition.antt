-- The answer to a development's file and the number of a condition; and which conditions are chosen.
use Rattle.std.specs.Prelude.{◌≡◌, ℕ, ◌⊎◌, Bool, true, false, codes, List, [], Option, Some, None}
use Rattle.lc_base.specs.Line.{line_of}
use Rattle.lc_base.specs.declared.refusal.Fault.TheVariants.{Refused}
use Rattle.lc_base.specs.declared.refusal.Refusal.TheVariants.{Extra}
use Rattle.lc_cond_text.specs.Chosen.{chosen_text, is_point_word}
use Rattle.lc_cond_text.specs.Shown.{IsLaidLine, line_at}
use Rattle.lc_outline.specs.Development.{Development}
use Rattle.lc_outline_text.specs.Developments.{file_reading}
use Rattle.lc_reading.specs.Files.{Says}
use Rattle.lc_words.specs.Tasks.{Filter, OfPoint, OfKind, OfBoth}
use Rattle.lincheck.specs.Answers.{ToldFault}
use Rattle.lincheck.specs.Check.{TellsRefusal}

-- the line of a condition, laid out, with status 0; else it is reported that there is no condition of this number
abbrev pub TellsLine : ℕ → Option (List ℕ) → List ℕ → ℕ → Type 0
TellsLine k None text status = ToldFault (Refused (Extra k)) text status
TellsLine k (Some line) text status = IsLaidLine line text × (status ≡ 0)

abbrev pub TellsCondition : Development → ℕ → List ℕ → ℕ → Type 0
TellsCondition D k text status = TellsLine k (line_at D k) text status

-- the answer to a development's file: its first refusal, or what is reported about the condition of this number
abbrev pub AnswersCondition : ℕ → List ℕ → List ℕ → ℕ → Type 0
AnswersCondition k file text status =
    TellsRefusal file text status ⊎ ((D : Development) × Says file_reading file D × TellsCondition D k text status)

-- the point, and the kind, if one is named
abbrev pub point_of : Filter → Option (List ℕ)
point_of (OfPoint point) = Some point
point_of (OfKind kind) = None
point_of (OfBoth point kind) = Some point

abbrev pub kind_of : Filter → Option (List ℕ)
kind_of (OfPoint point) = None
kind_of (OfKind kind) = Some kind
kind_of (OfBoth point kind) = Some kind

-- lines may have the word that is asked for as their POINT, if one is
abbrev pub is_known : Option (List ℕ) → Development → Bool
is_known None D = true
is_known (Some point) D = is_point_word point D

-- the lines that are chosen, with status 0; or, if there is no such point, a word, with status 1
abbrev pub TellsLines : (known : Bool) → List ℕ → List ℕ → ℕ → Type 0
TellsLines true lines text status = (text ≡ lines) × (status ≡ 0)
TellsLines false lines text status = (text ≡ line_of (codes "no-such-point") []) × (status ≡ 1)

abbrev pub TellsChosen : (point kind : Option (List ℕ)) → Development → List ℕ → ℕ → Type 0
TellsChosen point kind D text status = TellsLines (is_known point D) (chosen_text point kind D) text status

-- the answer to a development's file: its first refusal, or what is reported about the conditions with this point and this kind
abbrev pub AnswersChosen : (point kind : Option (List ℕ)) → List ℕ → List ℕ → ℕ → Type 0
AnswersChosen point kind file text status =
    TellsRefusal file text status ⊎ ((D : Development) × Says file_reading file D × TellsChosen point kind D text status)
