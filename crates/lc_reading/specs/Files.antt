-- What a file says, and its first refusal, by what its trees read as.
use Rattle.std.specs.Prelude.{◌≡◌, ℕ, ◌⊎◌, List, Result, Ok, Err}
use Rattle.lc_base.specs.declared.refusal.Fault.{Fault}
use Rattle.lc_base.specs.declared.refusal.Fault.TheVariants.{Refused, OutOfMemory}
use Rattle.lc_base.specs.declared.refusal.Refusal.{Refusal}
use Rattle.lc_base.specs.declared.refusal.Refusal.TheVariants as R
use Rattle.lc_sexp.specs.Reads.{ReadsAs, IsFirstFault}
use Rattle.lc_sexp.specs.Trees.{Trees}
use Rattle.lc_reading.specs.Flaws.{refusal_of}
use Rattle.lc_reading.specs.Readings.{Reading, fine, flawed}
use Rattle.lc_reading.specs.declared.flaw.Flaw.{Flaw}

-- the file says this: it reads as trees that read so
abbrev pub Says : {X : Type 0} → (Trees → Reading X) → List ℕ → X → Type 0
Says read bytes x = (ts : Trees) × ReadsAs bytes ts × (read ts ≡ fine x)

-- its text is wrong first at an offset
abbrev pub IsTextRefusal : List ℕ → Refusal → Type 0
IsTextRefusal bytes refusal = (offset : ℕ) × (refusal ≡ R.Text offset) × IsFirstFault bytes offset

-- its trees are refused so
abbrev pub IsTreeRefusal : {X : Type 0} → (Trees → Reading X) → List ℕ → Refusal → Type 0
IsTreeRefusal read bytes refusal = (ts : Trees) × (f : Flaw) × ReadsAs bytes ts × (read ts ≡ flawed f) × (refusal ≡ refusal_of f)

-- the first refusal of a file: its first text fault; else the flaw of its trees
abbrev pub IsFirstRefusal : {X : Type 0} → (Trees → Reading X) → List ℕ → Refusal → Type 0
IsFirstRefusal read bytes refusal = IsTextRefusal bytes refusal ⊎ IsTreeRefusal read bytes refusal

-- The answer to a file: what it says, seen by this view; else its first refusal, or `OutOfMemory`
abbrev pub IsAnswerTo : {T X : Type 0} → (T → X) → (Trees → Reading X) → List ℕ → Result T Fault → Type 0
IsAnswerTo view read bytes (Ok value) = Says read bytes (view value)
IsAnswerTo view read bytes (Err (Refused refusal)) = IsFirstRefusal read bytes refusal
IsAnswerTo view read bytes (Err OutOfMemory) = Unit {0}
