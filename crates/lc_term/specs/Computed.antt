-- What is returned when numbers are computed that have to fit 64 bits.
use Rattle.std.specs.Prelude.{◌≡◌, Result, Ok, Err}
use Rattle.lc_term.specs.declared.state.EvalFault.{EvalFault}

-- what is computed, if each number that is reached fits; or a fault, and what it says of whether they fit
abbrev pub IsComputed : {X Y E : Type 0} → (E → Type 0 → Type 0) → (X → Y) → Type 0 → Y → Result X E → Type 0
IsComputed says view fits wanted (Ok x) = fits × (view x ≡ wanted)
IsComputed says view fits wanted (Err fault) = says fault fits

-- an overflow says that one does not fit
abbrev pub overflow_says : EvalFault → Type 0 → Type 0
overflow_says fault fits = fits → ⊥
