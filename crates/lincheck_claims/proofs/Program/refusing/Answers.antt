use Rattle.lincheck_claims.proofs.Program.refusing.Goals as goal

pub returns : goal.returns
returns g c = c.execute.ensures.wrong
