use Rattle.lincheck_claims.proofs.Program.printing_an_object.Goals as goal

pub returns : goal.returns
returns g c = c.execute.ensures _
