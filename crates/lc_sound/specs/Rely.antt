-- Rely and guarantee, as Jones has them (TOPLAS 5(4), 1983): what a client may do in a step, and what the others may do to it.
use Rattle.std.specs.Prelude.{◌≡◌, ℕ, ◌<◌, List, ◌∷◌, ℤ, pos, length}
use Rattle.lc_term.specs.Lists.{IsIn}
use Rattle.lc_term.specs.Updates.{variable}
use Rattle.lc_term.specs.Meaning.{State, Env, EachHolds}
use Rattle.lc_machine.specs.World.{Client, Idle, In}
use Rattle.lc_action.specs.Action.{Action, skip, Acts}
use Rattle.lc_outline.specs.Development.{Development, invariant_of, all_actions, asserts_at}
use Rattle.lc_sound.specs.Instrumented.{IsRun, Instrumented}
use Rattle.lc_machine.specs.Step.{Event}
use Rattle.lc_machine.specs.World.{World}
use Rattle.lc_rider.specs.Rider.{Mark}
use Rattle.lc_sound.specs.Instrumented.{Label}
use Rattle.lc_sound.specs.Claims.{IsClientGood, IsProven, own}

-- the guarantee of client u of n, a relation of two states: a declared action, `enter`, `leave` or `skip`, by u
pub record Guarantee (D : Development) (n u : ℕ) (m m' : State) : Type 0 where
  pub action : Action
  pub numbers : List ℤ
  pub among : IsIn action (skip ∷ all_actions D)
  pub fits : length numbers ≡ length action.parameters
  pub acts : Acts n action u numbers m m'

-- the rely of client t of n: the guarantee of some other client
abbrev pub Rely : Development → ℕ → ℕ → State → State → Type 0
Rely D n t m m' = (u : ℕ) × (u < n) × (t ≡ u → ⊥) × Guarantee D n u m m'

-- the invariant holds for n clients
abbrev pub IsInvariant : Development → ℕ → State → Type 0
IsInvariant D n m = (e : Env) → e 0 ≡ pos n → EachHolds m e (invariant_of D)

-- what the outline asserts of a client holds, between its calls or at its point
abbrev pub IsAsserted : Development → ℕ → State → ℕ → Client → Type 0
IsAsserted D n m t Idle = EachHolds m (variable (own n t)) D.idle
IsAsserted D n m t (In p variables) = EachHolds m (variable variables) (asserts_at D p)

-- each step of a client, in every world that an instrumented run reaches, is in its guarantee
abbrev pub StepsAreGuaranteed : Development → Type 0
StepsAreGuaranteed D =
    (n : ℕ) (labels : List Label) (w w' : World) → IsRun D n labels w →
    (c : ℕ) (what : Event) (marks : List Mark) → Instrumented D w c what marks w' → Guarantee D n c w.columns w'.columns

-- what is asserted of a client stays under its rely, if the invariant holds before and after
abbrev pub AssertionsAreStable : Development → Type 0
AssertionsAreStable D =
    (n t : ℕ) (client : Client) (m m' : State) → t < n → IsClientGood D n m t client → Rely D n t m m' →
    IsInvariant D n m → IsInvariant D n m' → IsAsserted D n m' t client

-- ---- for all developments

abbrev pub StepsAreInGuarantees : Type 0
StepsAreInGuarantees = (D : Development) → IsProven D → StepsAreGuaranteed D

abbrev pub RelyKeepsAssertions : Type 0
RelyKeepsAssertions = (D : Development) → IsProven D → AssertionsAreStable D
