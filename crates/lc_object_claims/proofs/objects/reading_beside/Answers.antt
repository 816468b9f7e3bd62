use Rattle.lc_object_claims.proofs.objects.reading_beside.Goals as goal

pub returns : goal.returns
returns c = c.read_specification.ensures
