use Rattle.lc_term.specs.State.{state_of, env_of}
use Rattle.lc_term.specs.View.{formula_of}
use Rattle.lc_look.proofs.Seeing.{seen_answer_says, looking_is_right}
use Rattle.lc_look.proofs.looking.look.Goals as goal

pub returns-clause-right : goal.returns-clause-right
returns-clause-right c =
    seen_answer_says c.look_in.result _ _ c.look_in.ensures (looking_is_right c.args.numbers.now (state_of c.args.state.now) (env_of c.args.env.now) (formula_of c.args.formula.now))
