use Rattle.std.proofs.Common.{◌≡◌, [], arith}
use Rattle.std.proofs.lemmas.Option.{IfSome_then}
use Rattle.std.specs.Prelude.{slice_get}
use Rattle.lc_run.specs.Locked.{labels_made}
use Rattle.lc_crew.proofs.Ends.{all-of}
use Rattle.lc_crew.proofs.plan.started.Goals as goal

pub crew_of-requires : goal.crew_of-requires
crew_of-requires g c =
    let made = c.in_ok-runner in
    let seats = made.seats in
    all-of (λ s. labels_made s ≡ []) seats.items
    (λ k below. IfSome_then (slice_get seats.items k) (made.ensures.seats k (omega (arith, below, seats.ok.0, made.ensures.count))) (λ s is. is.1))
