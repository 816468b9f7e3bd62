-- What reading may answer.
use Rattle.std.specs.Prelude.{◌≡◌, ℕ, List, length, take, Result, Ok, Err, Vec}
use Rattle.std.specs.declared.alloc.Global.{Global}
use Rattle.lc_base.specs.declared.refusal.Refusal.TheVariants.{Text}
use Rattle.lc_base.specs.declared.refusal.Fault.{Fault}
use Rattle.lc_base.specs.declared.refusal.Fault.TheVariants.{Refused, OutOfMemory}
use Rattle.lc_sexp.specs.Trees.{Tree, Trees, row}
use Rattle.lc_sexp.specs.Reads.{ReadsAs, IsFirstFault}
use Rattle.lc_sexp.specs.Takes.{parts_of, without}
use Rattle.lc_sexp.specs.declared.part.Part.{Part}

-- out of memory, or a fault of the text at an offset for which this holds
abbrev pub IsTextFault : Fault → (ℕ → Type 0) → Type 0
IsTextFault OutOfMemory P = Unit {0}
IsTextFault (Refused (Text offset)) P = P offset
IsTextFault (Refused _) P = ⊥

-- The answer to a file: the trees that it reads as, else its first fault, or out of memory.
abbrev pub IsAnswerTo : List ℕ → Result Trees Fault → Type 0
IsAnswerTo bytes (Ok forms) = ReadsAs bytes forms
IsAnswerTo bytes (Err fault) = IsTextFault fault (IsFirstFault bytes)

-- The answer to a file from which these parts were taken: they are its first parts, and the trees are the rest.
abbrev pub IsAnswerWithout : List ℕ → List Part → Result Trees Fault → Type 0
IsAnswerWithout bytes taken (Ok forms) = (trees : Trees) × ReadsAs bytes trees × (taken ≡ take (length taken) (parts_of trees)) × (forms ≡ without (length taken) trees)
IsAnswerWithout bytes taken (Err fault) = IsTextFault fault (IsFirstFault bytes)

-- The same, with each tree by itself.
abbrev pub IsAnswerInParts : List ℕ → Result (Vec Tree Global) Fault → Type 0
IsAnswerInParts bytes (Ok forms) = IsAnswerTo bytes (Ok (row forms.items))
IsAnswerInParts bytes (Err fault) = IsAnswerTo bytes (Err fault)
