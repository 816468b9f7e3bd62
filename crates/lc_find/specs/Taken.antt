-- One proof more on a walk over the conditions.
use Rattle.std.specs.Prelude.{◌≡◌, ℕ, List, Option, Some, None, Result, Ok, Err}
use Rattle.lc_outline.specs.Development.{Development}
use Rattle.lc_cert.specs.Certificates.{Entry as Proved}
use Rattle.lc_cert.specs.EntryView.{entry_of}
use Rattle.lc_cert.specs.declared.entry.Entry.{Entry}
use Rattle.lc_check.specs.Walking.{HasNext, IsAtDue, IsOneOn}
use Rattle.lc_check.specs.declared.walk.Walk.{Walk}
use Rattle.lc_find.specs.Hinted.{IsHinted, IsFirstHint, IsFirstTaken}
use Rattle.lc_find.specs.declared.fault.FindFault.{FindFault}
use Rattle.lc_find.specs.declared.fault.FindFault.TheVariants.{NotFound, Budget, Large, OutOfMemory}

-- the first hint was taken; or it does not hold, and the same condition is next
abbrev pub IsHintTaken : Development → List Proved → Walk → Walk → Option Entry → Type 0
IsHintTaken D hs before after (Some e) = IsOneOn D (entry_of e) before after × IsFirstHint hs (entry_of e)
IsHintTaken D hs before after None = IsAtDue D before after × HasNext after × (IsHinted D hs before.next → ⊥)

-- a proof was found, by some budget; or the reason why none was found for the next condition
abbrev pub IsSought : Development → ℕ → Walk → Walk → Result Entry FindFault → Type 0
IsSought D budget before after (Ok e) = IsOneOn D (entry_of e) before after × (e.number ≡ before.next) × (budget ≡ 0 → ⊥)
IsSought D budget before after (Err (NotFound k)) = (k ≡ before.next) × (budget ≡ 0 → ⊥)
IsSought D budget before after (Err (Budget k)) = k ≡ before.next
IsSought D budget before after (Err (Large k)) = (k ≡ before.next) × (budget ≡ 0 → ⊥)
IsSought D budget before after (Err OutOfMemory) = Unit {0}

-- a proof was taken, the first hint if that holds, and without budget only that; or, for the next condition, whose first hint does not hold, the
-- reason why none was
abbrev pub IsTaken : Development → List Proved → ℕ → Walk → Walk → Result Entry FindFault → Type 0
IsTaken D hs budget before after (Ok e) = IsOneOn D (entry_of e) before after × IsFirstTaken D hs (entry_of e) × (budget ≡ 0 → IsFirstHint hs (entry_of e))
IsTaken D hs budget before after (Err (NotFound k)) = (k ≡ before.next) × (IsHinted D hs before.next → ⊥) × (budget ≡ 0 → ⊥)
IsTaken D hs budget before after (Err (Budget k)) = (k ≡ before.next) × (IsHinted D hs before.next → ⊥)
IsTaken D hs budget before after (Err (Large k)) = (k ≡ before.next) × (IsHinted D hs before.next → ⊥) × (budget ≡ 0 → ⊥)
IsTaken D hs budget before after (Err OutOfMemory) = Unit {0}
