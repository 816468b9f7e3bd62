use Rattle.lc_object_claims.proofs.objects.reading_names.Goals as goal

pub returns : goal.returns
returns c = c.read_names.ensures
