-- Which condition a fault names.
use Rattle.std.specs.Prelude.{ℕ, ◌<◌, Result, Ok, Err}
use Rattle.lc_find.specs.declared.fault.FindFault.{FindFault}
use Rattle.lc_find.specs.declared.fault.FindFault.TheVariants.{NotFound, Budget, Large, OutOfMemory}

-- one of the first n
abbrev pub IsInRange : ℕ → FindFault → Type 0
IsInRange n (NotFound k) = k < n
IsInRange n (Budget k) = k < n
IsInRange n (Large k) = k < n
IsInRange n OutOfMemory = Unit {0}

-- no fault but `OutOfMemory`
abbrev pub IsOkOrNoMemory : {A : Type 0} → Result A FindFault → Type 0
IsOkOrNoMemory (Ok x) = Unit {0}
IsOkOrNoMemory (Err OutOfMemory) = Unit {0}
IsOkOrNoMemory (Err (NotFound k)) = ⊥
IsOkOrNoMemory (Err (Budget k)) = ⊥
IsOkOrNoMemory (Err (Large k)) = ⊥
