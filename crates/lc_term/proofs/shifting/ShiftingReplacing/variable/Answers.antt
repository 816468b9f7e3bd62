use Rattle.std.proofs.Common.{refl, sym}
use Rattle.lc_term.specs.Substitution.{shifting}
use Rattle.lc_term.proofs.Under.{under_many-variables}
use Rattle.lc_term.proofs.shifting.ShiftingReplacing.variable.Goals as goal

pub returns : goal.returns
returns c = λ n counted fits. sym (under_many-variables n (shifting c.args.self.now.added c.args.self.now.cutoff) c.args.number refl)
