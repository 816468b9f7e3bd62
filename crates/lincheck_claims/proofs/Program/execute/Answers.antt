use Rattle.lincheck_claims.proofs.Program.execute.Goals as goal

pub returns : goal.returns
returns g c = c.execute.ensures.answers
