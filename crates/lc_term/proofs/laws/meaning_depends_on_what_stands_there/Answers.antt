use Rattle.lc_term.proofs.Agree.{Holds-agree}
use Rattle.lc_term.proofs.Replacement.{both_ways}
use Rattle.lc_term.proofs.laws.meaning_depends_on_what_stands_there.Goals as goal

pub returns : goal.returns
returns c = λ p s s' e e' b f columns variables h. both_ways (Holds-agree p s s' e e' columns variables b 0 f h)
