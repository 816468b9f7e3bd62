use Rattle.std.proofs.Common.{refl, sym}
use Rattle.lc_term.specs.Substitution.{opening}
use Rattle.lc_term.specs.View.{term_of}
use Rattle.lc_term.proofs.Under.{under_many-variables}
use Rattle.lc_term.proofs.substitution.InstantiationReplacing.variable.Goals as goal

pub returns : goal.returns
returns c = λ n counted fits. sym (under_many-variables n (opening (term_of c.args.self.now.term.now)) c.args.number refl)
