-- Which action a client's step is, and what that is given.
use Rattle.std.specs.Prelude.{◌≡◌, ℕ, suc, ℤ, pos, List, [], ◌∷◌, Option, Some, None, IsTrue, length, map}
use Rattle.lc_term.specs.Lists.{Every}
use Rattle.lc_term.specs.Meaning.{State, outside, value}
use Rattle.lc_term.specs.Places.{known, term_passes}
use Rattle.lc_term.specs.Reached.{TermFits}
use Rattle.lc_term.specs.Syntax.{Term}
use Rattle.lc_term.specs.SystemColumns.{column_count}
use Rattle.lc_term.specs.Updates.{variable}
use Rattle.lc_object.specs.declared.instr.EdgeKind.TheVariants.{Next}
use Rattle.lc_machine.specs.Step.{Event, Invoked, Moved, Returned, IsClient}
use Rattle.lc_machine.specs.World.{World, In}
use Rattle.lc_rider.specs.Rider.{argument}
use Rattle.lc_outline.specs.Development.{Development, On, first_system, on_at}

-- the columns and the variables of a term are there, and each number that is reached for it fits 64 bits
abbrev pub IsEvaluated : ℕ → State → List ℤ → Term → Type 0
IsEvaluated columns m vs t = IsTrue (term_passes (known columns (length vs)) t) × TermFits m (variable vs) t

-- these are the numbers of these terms, which are evaluated
abbrev pub AreNumbers : ℕ → State → List ℤ → List Term → List ℤ → Type 0
AreNumbers columns m vs ts ns = Every (IsEvaluated columns m vs) ts × (ns ≡ map (value m (variable vs) outside) ts)

-- what is said at an edge is the action of this place, with these arguments
abbrev pub IsActionOn : ℕ → State → List ℤ → Option On → ℕ → List ℤ → Type 0
IsActionOn columns m vs None i args = ⊥
IsActionOn columns m vs (Some x) i args = (i ≡ x.action) × AreNumbers columns m vs x.arguments args

-- client c is to take a step from world w: this, if it is known
module _ (D : Development) (w : World) (c : ℕ) (what : Option Event) where
  -- an action on an edge of client c's point
  abbrev pub IsOnEdge : List ℤ → Option On → ℕ → List ℤ → Type 0
  IsOnEdge vs on i args = IsActionOn (column_count (first_system D)) w.columns vs on i args

  -- so it is at a return, where it is `leave` if nothing is said
  abbrev pub IsAtReturn : List ℤ → Option On → ℕ → List ℤ → Type 0
  IsAtReturn vs None i args = (i ≡ suc (length D.actions)) × (args ≡ [])
  IsAtReturn vs (Some x) i args = IsOnEdge vs (Some x) i args

  -- the step is the action of this place with these arguments; `enter` and `leave` come after the declared ones
  abbrev pub IsActing : Option Event → ℕ → List ℤ → Type 0
  IsActing None i args = ⊥
  IsActing (Some (Invoked o ns)) i args = (i ≡ length D.actions) × (args ≡ pos o ∷ argument ns 0 ∷ argument ns 1 ∷ argument ns 2 ∷ [])
  IsActing (Some (Moved p e)) i args = (vs : List ℤ) × IsClient w c (In p vs) × IsOnEdge vs (on_at D p e) i args
  IsActing (Some (Returned ns)) i args = (p : ℕ) × (vs : List ℤ) × IsClient w c (In p vs) × IsAtReturn vs (on_at D p Next) i args
