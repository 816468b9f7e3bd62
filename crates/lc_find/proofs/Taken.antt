-- A proof of the next condition.
use Rattle.std.proofs.Common.{ℕ, List, ◌∙◌}
use Rattle.std.specs.Prelude.{Result, Ok, Err, None}
use Rattle.lc_outline.specs.Development.{Development}
use Rattle.lc_cert.specs.Certificates.{Entry as Proved}
use Rattle.lc_cert.specs.EntryView.{entry_of}
use Rattle.lc_cert.specs.declared.entry.Entry.{Entry}
use Rattle.lc_check.specs.declared.walk.Walk.{Walk}
use Rattle.lc_find.proofs.FirstHints.{other_taken}
use Rattle.lc_find.proofs.Passing.{one_on_after}
use Rattle.lc_find.specs.Taken.{IsHintTaken, IsSought, IsTaken}
use Rattle.lc_find.specs.declared.fault.FindFault.{FindFault}
use Rattle.lc_find.specs.declared.fault.FindFault.TheVariants.{NotFound, Budget, Large, OutOfMemory}

-- what was sought, if the first hint does not hold
pub sought_taken : (D : Development) (hs : List Proved) (budget : ℕ) (old mid new : Walk) (result : Result Entry FindFault) → IsHintTaken D hs old mid None → IsSought D budget mid new result → IsTaken D hs budget old new result
sought_taken D hs budget old mid new (Ok e) (at, stands, not) (one, number, some) =
    (one_on_after D (entry_of e) old mid new at one, other_taken D hs (entry_of e) old.next (number ∙ at.next) not, λ zero. absurd (some zero))
sought_taken D hs budget old mid new (Err (NotFound k)) (at, stands, not) (is, some) = (is ∙ at.next, not, some)
sought_taken D hs budget old mid new (Err (Budget k)) (at, stands, not) is = (is ∙ at.next, not)
sought_taken D hs budget old mid new (Err (Large k)) (at, stands, not) (is, some) = (is ∙ at.next, not, some)
sought_taken D hs budget old mid new (Err OutOfMemory) at sought = tt
