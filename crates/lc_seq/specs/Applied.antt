-- What the calls of a sequential object answer.
use Rattle.std.specs.Prelude.{◌≡◌, List, ℤ, Option, Some, None, Result, Ok, Err}
use Rattle.lc_seq.specs.declared.fault.SeqFault.{SeqFault}
use Rattle.lc_seq.specs.declared.fault.SeqFault.TheVariants.{Overflow, OutOfMemory}

-- what is returned for a call whose step is given, and whose numbers fit or not, and the state after it
abbrev pub IsApplied : {A R : Type 0} → (R → List ℤ) → Option (A × List ℤ) → Type 0 → A → A → Result (Option R) SeqFault → Type 0
IsApplied numbers given fits old new (Ok (Some reply)) = fits × (given ≡ Some (new, numbers reply))
IsApplied numbers given fits old new (Ok None) = fits × (given ≡ None) × (new ≡ old)
IsApplied numbers given fits old new (Err Overflow) = (fits → ⊥) × (new ≡ old)
IsApplied numbers given fits old new (Err OutOfMemory) = new ≡ old
