-- Places of names that are listed.
use Rattle.std.proofs.Common.{◌≡◌, ℕ, ◌<◌, List, Option, Some, None, refl, IfSome}
use Rattle.std.specs.Prelude.{length}
use Rattle.lc_reading.proofs.Places.{place_below}
use Rattle.lc_reading.specs.Listed.{place_of}

-- a place is below the count
pub placed_below : (vs : List (List ℕ)) (w : List ℕ) → IfSome (place_of vs w) (λ k. k < length vs)
placed_below vs w = of_place (place_of vs w) (λ k e. place_below vs w k e) where
  of_place : (o : Option ℕ) → ((k : ℕ) → o ≡ Some k → k < length vs) → IfSome o (λ k. k < length vs)
  of_place None h = tt
  of_place (Some k) h = h k refl
