use Rattle.std.proofs.Common.{rules}
use Rattle.lc_term.proofs.Under.{shifting_counted}
use Rattle.lc_term.proofs.shifting.ShiftingReplacing.bound.Goals as goal

pub returns : goal.returns
returns c = λ n counted fits.
    shifting_counted c.args.number c.args.self.now.added c.args.self.now.cutoff c.args.depth n c.saturating_add-cutoff.result c.shifted_number.result
    (search rules) (search rules) counted (search rules) (search rules) fits
