use Rattle.std.proofs.Common.{◌≡◌, ◌-◌, length}
use Rattle.json.specs.Json.{Json, Items, Members}
use Rattle.json.specs.Find.{BeginsWith, InItems, InMembers}
use Rattle.lc_hist.proofs.JsonFits.{fits_json, fits_items, fits_members}
use Rattle.lc_hist.proofs.document.+fits.Given as goal

abbrev pub decreases-fits : goal.decreases-fits
decreases-fits l = l.levels

-- the value fits if what is left of it does
abbrev pub invariant-items : goal.invariant-items
invariant-items l = (j : Json) → BeginsWith l.value j → (rest : Items) × InItems l.items rest × (fits_json j l.levels ≡ fits_items rest (l.levels - 1))

abbrev pub decreases-items : goal.decreases-items
decreases-items l = length l.items

abbrev pub invariant-members : goal.invariant-members
invariant-members l = (j : Json) → BeginsWith l.value j → (rest : Members) × InMembers l.members rest × (fits_json j l.levels ≡ fits_members rest (l.levels - 1))

abbrev pub decreases-members : goal.decreases-members
decreases-members l = length l.members
