use Rattle.std.proofs.Common.{◌≡◌, []}
use Rattle.std.specs.Prelude.{All}
use Rattle.lc_run.specs.Locked.{labels_made}
use Rattle.lc_crew.specs.Members.{HasMadeAll}
use Rattle.lc_crew.proofs.plan.crew_of.Given as goal

-- these clients have made nothing, nor have the remaining seats
abbrev pub invariant-loop-seat : goal.invariant-loop-seat
invariant-loop-seat g l = record { made : All (HasMadeAll []) l.crew.items; left : All (λ s. labels_made s ≡ []) l.seat-iterator.rest.items }
