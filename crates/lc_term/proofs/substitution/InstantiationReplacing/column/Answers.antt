use Rattle.std.proofs.Common.{refl, sym}
use Rattle.lc_term.specs.Substitution.{opening}
use Rattle.lc_term.specs.View.{term_of}
use Rattle.lc_term.proofs.Under.{under_many-columns}
use Rattle.lc_term.proofs.substitution.InstantiationReplacing.column.Goals as goal

pub returns : goal.returns
returns c = λ n counted fits. sym (under_many-columns n (opening (term_of c.args.self.now.term.now)) c.args.column.0 refl)
