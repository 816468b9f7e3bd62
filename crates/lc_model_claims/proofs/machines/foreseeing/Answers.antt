use Rattle.lc_model_claims.proofs.machines.foreseeing.Goals as goal

pub returns : goal.returns
returns c = c.effect.ensures
