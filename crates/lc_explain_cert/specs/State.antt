-- What is shown of a step of a proof: the hypotheses there, by their numbers.
use Rattle.std.specs.Prelude.{◌≡◌, ℕ, suc, List, [], ◌∷◌, ◌++◌, length, codes, Option, Some, None, string_bytes, String}
use Rattle.std.specs.declared.alloc.Global.{Global}
use Rattle.std.specs.Fmt.{decimal}
use Rattle.lc_term.specs.Syntax.{Formula, Not}
use Rattle.lc_text.specs.Spelled.{spelled_formula}
use Rattle.lc_text.specs.Spelling.{Spelled}
use Rattle.lc_explain_cert.specs.declared.state.TheConstants.{GIVEN, NEGATED, ADDED}

-- a formula with its number, in a line
abbrev pub line : Spelled → ℕ → Formula → List ℕ
line by k f = codes "    " ++ decimal k ++ codes "  " ++ spelled_formula by 0 f ++ codes "\n"

-- formulas, a line each, numbered from this number on
abbrev pub numbered : Spelled → ℕ → List Formula → List ℕ
numbered by k [] = []
numbered by k (f ∷ fs) = line by k f ++ numbered by (suc k) fs

-- the same below a line that says what they are, if there are any
abbrev pub group : List ℕ → Spelled → ℕ → List Formula → List ℕ
group title by k [] = []
group title by k (f ∷ fs) = title ++ numbered by k (f ∷ fs)

-- the hypotheses of a goal, then the negated goal, and what steps have added
abbrev pub shown_state : Spelled → List Formula → Formula → List Formula → List ℕ
shown_state by given negated added =
    group GIVEN.now by 0 given ++ (group NEGATED.now by (length given) (negated ∷ []) ++ group ADDED.now by (suc (length given)) added)

-- The text ends with these hypotheses, those of the goal and the negated goal first
pub record ShowsState (by : Spelled) (given : List Formula) (goal : Formula) (stand : List Formula) (text : List ℕ) : Type 0 where
  pub added : List Formula
  pub reason : List ℕ
  pub all : stand ≡ given ++ Not goal ∷ added
  pub text_is : text ≡ reason ++ shown_state by given (Not goal) added

-- the same for a text that is there
abbrev pub IsShown : Spelled → List Formula → Formula → List Formula → Option (String Global) → Type 0
IsShown by given goal stand None = ⊥
IsShown by given goal stand (Some text) = ShowsState by given goal stand (string_bytes text)
