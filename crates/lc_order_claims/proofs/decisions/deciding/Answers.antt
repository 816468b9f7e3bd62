use Rattle.lc_order_claims.proofs.decisions.deciding.Goals as goal

pub returns : goal.returns
returns g c = c.decide.ensures
