-- What holds of small objects that choose, or add.
use Rattle.std.specs.Prelude.{◌≡◌, [], ◌∷◌, pos, negsuc, length}
use Rattle.lc_term.specs.Syntax.{Number, Variable, Or, And, formulas}
use Rattle.lc_seq.specs.Sequential.{InOrder, ByName}
use Rattle.lc_seq.specs.TextStep.{text_step, start_of}
use Rattle.lc_history.specs.History.{IsLegal}
use Rattle.lc_cond.specs.Conditions.{conditions}
use Rattle.lc_sound.specs.Chosen.{adding, coin, heads, pick, flipped, noting, observing_goals}

-- the counter by fetch-and-add has 51 conditions
abbrev pub AddingIsCounted : Type 0
AddingIsCounted = length (conditions adding) ≡ 51

-- a flip replies 7 if 7 is picked, though the first choice could be taken; and by no other choice
abbrev pub CoinIsPicked : Type 0
CoinIsPicked =
    IsLegal (text_step coin.operations) (start_of coin.columns) (flipped (ByName pick (pos 7 ∷ [])))
    × (IsLegal (text_step coin.operations) (start_of coin.columns) (flipped (ByName heads [])) → ⊥)
    × (IsLegal (text_step coin.operations) (start_of coin.columns) (flipped (ByName pick (negsuc 6 ∷ []))) → ⊥)
    × (IsLegal (text_step coin.operations) (start_of coin.columns) (flipped (ByName pick [])) → ⊥)
    × (IsLegal (text_step coin.operations) (start_of coin.columns) (flipped InOrder) → ⊥)

-- heads store, so they cannot be noted; a number that is picked can
abbrev pub CoinIsNoted : Type 0
CoinIsNoted =
    (observing_goals (conditions (noting (ByName heads []))) ≡ Or (formulas []) ∷ [])
    × (observing_goals (conditions (noting (ByName pick (Variable 2 ∷ [])))) ≡ And (formulas []) ∷ [])
