use Rattle.lc_ground_claims.proofs.places.finding_an_open_list.Goals as goal

pub returns : goal.returns
returns c = c.open_list_place.ensures
