-- What a step that holds adds in the branch at a place.
use Rattle.std.specs.Prelude.{ℕ, suc, ℤ, Bool, true, false, List, [], ◌∷◌, Option, Some, None, option_map, option_and_then, slice_get, if◌then◌else◌}
use Rattle.lc_array.specs.Axioms.{written, same_index, affine_cell}
use Rattle.lc_term.specs.Places.{is_closed}
use Rattle.lc_term.specs.Substitution.{instantiated}
use Rattle.lc_term.specs.Syntax.{Term, Variable, Formula, Not}
use Rattle.lc_term.specs.View.{formulas_of}
use Rattle.lc_kernel.specs.Proofs as S
use Rattle.lc_kernel.specs.Proofs.{Step}
use Rattle.lc_kernel.specs.Table.{alternatives, apart, conjuncts, for_all, for_some, hypothesis, less, pushed}
use Rattle.lc_proof_state.specs.declared.opened.Opened.{Opened}

-- of hypothesis h, in this form
abbrev pub taken : {A : Type 0} → List Formula → ℤ → (Formula → Option A) → Option A
taken H h form = option_and_then form (hypothesis H h)

-- a formula more, where v variables are in use
abbrev pub appended : ℕ → Option Formula → Option (ℕ × List Formula)
appended v f = option_map (λ g. (v, g ∷ [])) f

-- the orders of two terms: that the one is less, or the other
abbrev pub orders : Term × Term → List Formula
orders p = less p.0 p.1 ∷ less p.1 p.0 ∷ []

-- the body of a quantifier with a term, which no quantifier binds
abbrev pub put_in : Term → Formula → Option Formula
put_in t f = if is_closed t then Some (instantiated t f) else None

-- how many variables are in use in the branch at a place, and the formulas that it adds, if the step holds
abbrev pub opened_by : ℕ → List Formula → Step → ℕ → Option (ℕ × List Formula)
opened_by v H (S.Split h) i = option_map (λ fs. (v, fs)) (taken H h conjuncts)
opened_by v H (S.Cases h) i = appended v (option_and_then (λ fs. slice_get fs i) (taken H h alternatives))
opened_by v H (S.Push h) i = appended v (taken H h pushed)
opened_by v H (S.Instantiate h t) i = appended v (option_and_then (put_in t) (taken H h for_all))
opened_by v H (S.Fresh h) i = appended (suc v) (option_map (instantiated (Variable v)) (taken H h for_some))
opened_by v H (S.Cut f) i = appended v (slice_get (Not f ∷ f ∷ []) i)
opened_by v H (S.Written c j x k) i = appended v (Some (written c j x k))
opened_by v H (S.Same c j k) i = appended v (Some (same_index c j k))
opened_by v H (S.Affine m n j) i = appended v (Some (affine_cell m n j))
opened_by v H (S.Trichotomy h) i = appended v (option_and_then (λ p. slice_get (orders p) i) (taken H h apart))
opened_by v H (S.Divide h k f) i = appended v (Some f)
opened_by v H (S.Sum ms) i = None
opened_by v H (S.Opposite h g) i = None
opened_by v H S.Open i = None

-- what the code has found of it
abbrev pub opened_in : Opened → ℕ × List Formula
opened_in o = (o.variables, formulas_of o.formulas.items)
