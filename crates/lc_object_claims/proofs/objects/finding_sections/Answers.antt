use Rattle.lc_object_claims.proofs.objects.finding_sections.Goals as goal

pub returns : goal.returns
returns c = c.find_sections.ensures
