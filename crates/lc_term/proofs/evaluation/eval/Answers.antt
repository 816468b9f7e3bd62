use Rattle.lc_term.specs.Meaning.{outside}
use Rattle.lc_term.specs.State.{state_of, env_of}
use Rattle.lc_term.specs.View.{formula_of}
use Rattle.lc_term.proofs.Evaluated.{answer_means}
use Rattle.lc_term.proofs.Truth.{Decides-truth}
use Rattle.lc_term.proofs.evaluation.eval.Goals as goal

pub returns-clause-meaning : goal.returns-clause-meaning
returns-clause-meaning c =
    answer_means c.is_true.result _ _ _ c.is_true.ensures
    (Decides-truth (state_of c.args.state.now) (env_of c.args.env.now) outside (formula_of c.args.formula.now) c.requires.ground)
