use Rattle.lc_linear.proofs.Atoms.{nonzero_place}
use Rattle.lc_linear.proofs.form.LinForm.atom_count.Goals as goal

pub returns-clause-all : goal.returns-clause-all
returns-clause-all c = nonzero_place c.args.self.now.coefficients.entries
