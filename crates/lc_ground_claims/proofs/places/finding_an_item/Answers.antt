use Rattle.lc_ground_claims.proofs.places.finding_an_item.Goals as goal

pub returns-clause-item : goal.returns-clause-item
returns-clause-item c = c.item_place.ensures.item

pub returns-clause-none : goal.returns-clause-none
returns-clause-none c = c.item_place.ensures.none
