use Rattle.lc_model_claims.proofs.objects.listing_edges.Goals as goal

pub returns : goal.returns
returns c = c.edges.ensures
