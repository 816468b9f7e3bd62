use Rattle.lc_model_claims.proofs.objects.making_an_object.Goals as goal

pub returns : goal.returns
returns c = c.new.ensures
