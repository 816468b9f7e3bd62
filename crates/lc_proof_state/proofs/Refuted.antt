-- What fails in a state does not follow.
use Rattle.std.proofs.Common.{ℤ, List, [], ◌∷◌}
use Rattle.lc_term.specs.Lists.{Every}
use Rattle.lc_term.specs.Meaning as M
use Rattle.lc_term.specs.Meaning.{EachHolds, Holds}
use Rattle.lc_term.specs.State.{state_of, env_of}
use Rattle.lc_term.specs.Syntax.{Formula, Number, Le, Eq, Not, And, Or, Implies, Forall, Exists}
use Rattle.lc_term.specs.declared.state.State.{State}
use Rattle.lc_term.specs.declared.state.Env.{Env}
use Rattle.lc_term.proofs.Substituted.{Holds-instantiated}
use Rattle.lc_proof_state.specs.Failing.{IsSeen, FailingIsNotValid}
use Rattle.lc_proof_state.specs.Instance.{at_number, instance_at}

each-holds : (state : State) (env : Env) (fs : List Formula) → Every (IsSeen state env) fs → EachHolds (state_of state) (env_of env) fs
each-holds state env [] seen = tt
each-holds state env (f ∷ fs) seen = (seen.0.holds, each-holds state env fs seen.1)

-- what holds, holds at each number
at_number-holds : (s : M.State) (e b : M.Env) (x : ℤ) (f : Formula) → Holds s e b f → Holds s e b (at_number x f)
at_number-holds s e b x (Forall f) h = rw (← Holds-instantiated s e b (Number x) f) at (h x)
at_number-holds s e b x (Implies f g) h = λ given. at_number-holds s e b x g (h given)
at_number-holds s e b x (Le t u) h = h
at_number-holds s e b x (Eq t u) h = h
at_number-holds s e b x (Not f) h = h
at_number-holds s e b x (And fs) h = h
at_number-holds s e b x (Or fs) h = h
at_number-holds s e b x (Exists f) h = h

instance_at-holds : (s : M.State) (e b : M.Env) (xs : List ℤ) (f : Formula) → Holds s e b f → Holds s e b (instance_at xs f)
instance_at-holds s e b [] f h = h
instance_at-holds s e b (x ∷ xs) f h = instance_at-holds s e b xs (at_number x f) (at_number-holds s e b x f h)

pub not-valid : FailingIsNotValid
not-valid state env hypotheses goal numbers fails valid =
    let s = state_of state in
    let e = env_of env in
    fails.refuted.fails (instance_at-holds s e M.outside numbers goal (valid.holds s e (each-holds state env hypotheses fails.given)))
