-- What a formula says is stable under double negation.
use Rattle.std.proofs.Common.{Bool, true, false, refl}
use Rattle.std.specs.Bool.{Decides}
use Rattle.std.specs.Prelude.{int_le}
use Rattle.std.specs.Ordering.{int_eq}
use Rattle.std.proofs.lemmas.Bool.{false≢true}
use Rattle.std.proofs.lemmas.Bool.Decides.{Decides-int_eq}
use Rattle.lc_term.specs.Syntax.{Formula, Le, Eq, Not, And, Or, Implies, Forall, Exists, Formulas, none, more}
use Rattle.lc_term.specs.Meaning.{State, Env, push, value, Holds, AllHold}
use Rattle.lc_term.proofs.Truth.{Decides-int_le}

-- what a test decides is stable
decided_stable : {P : Type 0} → (b : Bool) → Decides b P → ((P → ⊥) → ⊥) → P
decided_stable true d h = d.0 refl
decided_stable false d h = absurd (h (λ p. false≢true (d.1 p)))

mutual
  pub Holds-stable : (s : State) (e b : Env) (f : Formula) → ((Holds s e b f → ⊥) → ⊥) → Holds s e b f
  Holds-stable s e b (Le t u) h = decided_stable (int_le (value s e b t) (value s e b u)) (Decides-int_le (value s e b t) (value s e b u)) h
  Holds-stable s e b (Eq t u) h = decided_stable (int_eq (value s e b t) (value s e b u)) (Decides-int_eq (value s e b t) (value s e b u)) h
  Holds-stable s e b (Not f) h = λ x. h (λ n. n x)
  Holds-stable s e b (And fs) h = AllHold-stable s e b fs h
  Holds-stable s e b (Or fs) h = λ x. h (λ n. n x)
  Holds-stable s e b (Implies f g) h = λ x. Holds-stable s e b g (λ n. h (λ i. n (i x)))
  Holds-stable s e b (Forall f) h = λ x. Holds-stable s e (push x b) f (λ n. h (λ i. n (i x)))
  Holds-stable s e b (Exists f) h = λ x. h (λ n. n x)

  pub AllHold-stable : (s : State) (e b : Env) (fs : Formulas) → ((AllHold s e b fs → ⊥) → ⊥) → AllHold s e b fs
  AllHold-stable s e b none h = tt
  AllHold-stable s e b (more f fs) h = (Holds-stable s e b f (λ n. h (λ p. n p.0)), AllHold-stable s e b fs (λ n. h (λ p. n p.1)))
