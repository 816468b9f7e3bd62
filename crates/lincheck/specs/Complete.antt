-- The answer to a short development's file that is to be made whole.
use Rattle.std.specs.Prelude.{◌≡◌, ℕ, ◌⊎◌, List, [], ◌∷◌, ◌++◌, codes}
use Rattle.lc_base.specs.Line.{line_of}
use Rattle.lc_base.specs.declared.refusal.Fault.TheVariants.{Refused}
use Rattle.lc_base.specs.declared.refusal.Refusal.{Refusal}
use Rattle.lc_check.specs.Verdicts.{IsProvenBy}
use Rattle.lc_complete.specs.Making.{IsMade, IsRefused}
use Rattle.lc_outline.specs.Development.{Development}
use Rattle.lincheck.specs.Answers.{ToldFault}

-- what was made is printed as it is, with status 0, only if some certificate of the development is accepted; else with a last line that counts
-- conditions, and status 1
abbrev pub TellsMade : Development → List ℕ → List ℕ → ℕ → Type 0
TellsMade D made text status =
    ((text ≡ made) × (status ≡ 0) × ((certificate : List ℕ) × IsProvenBy D certificate))
    ⊎ ((count : ℕ) × (text ≡ made ++ line_of (codes "; incomplete") (count ∷ [])) × (status ≡ 1))

-- how the file is refused is reported
abbrev pub TellsShortRefusal : List ℕ → List ℕ → ℕ → Type 0
TellsShortRefusal file text status = (refusal : Refusal) × IsRefused file refusal × ToldFault (Refused refusal) text status

-- The answer to the file: how it is refused; or a development that completes it
abbrev pub AnswersComplete : List ℕ → List ℕ → ℕ → Type 0
AnswersComplete file text status =
    TellsShortRefusal file text status ⊎ ((D : Development) × (made : List ℕ) × IsMade file made D × TellsMade D made text status)
