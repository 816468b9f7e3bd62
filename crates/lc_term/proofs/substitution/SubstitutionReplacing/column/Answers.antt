use Rattle.std.proofs.Common.{refl, sym}
use Rattle.lc_term.specs.Substitution.{putting}
use Rattle.lc_term.specs.View.{term_of}
use Rattle.lc_term.proofs.Under.{under_many-columns}
use Rattle.lc_term.proofs.substitution.SubstitutionReplacing.column.Goals as goal

pub returns : goal.returns
returns c = λ n counted fits. sym (under_many-columns n (putting c.args.self.now.variable (term_of c.args.self.now.term.now)) c.args.column.0 refl)
