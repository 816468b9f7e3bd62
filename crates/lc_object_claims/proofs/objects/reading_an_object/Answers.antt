use Rattle.lc_object_claims.proofs.objects.reading_an_object.Goals as goal

pub returns : goal.returns
returns c = c.object_of.ensures
