use Rattle.lincheck_claims.proofs.Program.beginning.Goals as goal

pub returns : goal.returns
returns g c = λ name. c.execute.ensures _
