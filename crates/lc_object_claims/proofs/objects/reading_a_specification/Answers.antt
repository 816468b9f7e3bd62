use Rattle.lc_object_claims.proofs.objects.reading_a_specification.Goals as goal

pub returns : goal.returns
returns c = c.spec_of.ensures
