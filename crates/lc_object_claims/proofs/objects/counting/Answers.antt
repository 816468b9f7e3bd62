use Rattle.lc_object_claims.proofs.objects.counting.Goals as goal

pub returns : goal.returns
returns c = c.read_count.ensures
