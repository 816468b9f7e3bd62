-- What it is of a condition that it fails where a call begins.
use Rattle.std.specs.Prelude.{◌≡◌, ℕ, ℤ, List, Some, ◌++◌, length, slice_get}
use Rattle.lc_cond.specs.Conditions.{Condition}
use Rattle.lc_object.specs.Syntax.{Operation}
use Rattle.lc_machine.specs.World.{World}
use Rattle.lc_outline.specs.Development.{Development}
use Rattle.lc_sound.specs.Claims.{own}
use Rattle.lc_blame.specs.Blame.{FailsWith}

-- a condition fails where client c begins a call of this operation with these numbers, and its first point is this one
abbrev pub FailsAtEntry : Development → World → ℕ → List ℤ → ℕ → ℕ → List ℤ → Condition → Type 0
FailsAtEntry D w c tried p o ns k =
    (x : Operation) × (slice_get D.object.operations o ≡ Some x) × (x.entry ≡ p) × FailsWith tried w.columns (own (length w.clients) c ++ ns) k
