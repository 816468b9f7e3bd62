-- The examples that choose, or add.
use Rattle.std.proofs.Common.{◌≡◌, List, [], ◌∷◌, ℤ, pos, Option, Some, None, refl, ap}
use Rattle.lc_term.specs.Meaning.{State}
use Rattle.lc_sound.specs.ExamplesChosen.{AddingIsCounted, CoinIsPicked, CoinIsNoted}

pub adding_counted : AddingIsCounted
adding_counted = refl

abbrev replied : Option (State × List ℤ) → List ℤ
replied None = []
replied (Some r) = r.1

pub coin_picked : CoinIsPicked
coin_picked = (
  (_, refl, tt),
  (λ l. let e : pos 1 ∷ [] ≡ pos 7 ∷ [] = ap replied l.1 in absurd (cc e)),
  (λ l. let e : [] ≡ pos 7 ∷ [] = ap replied l.1 in absurd (cc e)),
  (λ l. let e : [] ≡ pos 7 ∷ [] = ap replied l.1 in absurd (cc e)),
  (λ l. let e : [] ≡ pos 7 ∷ [] = ap replied l.1 in absurd (cc e)),
)

pub coin_noted : CoinIsNoted
coin_noted = (refl, refl)
