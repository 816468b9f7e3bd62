-- The phases of a plan, as far as they have come.
use Rattle.std.specs.Prelude.{◌≡◌, ℕ, ◌==◌, Bool, List, take}
use Rattle.std.specs.List.{list_any}
use Rattle.std.specs.declared.thread.PromisedHandle.{PromisedHandle}
use Rattle.lc_plan.specs.Plans.{Script}
use Rattle.lc_plan.specs.View.{plan_of}
use Rattle.lc_plan.specs.declared.plan.Plan.{Plan}
use Rattle.lc_crew.specs.declared.phase.MakesTo.{MakesTo}

-- a client makes a call in this phase
abbrev pub has_script : ℕ → List Script → Bool
has_script c phase = list_any (λ s. s.client == c) phase

-- the first n phases of a plan
abbrev pub phases_to : Plan → ℕ → List (List Script)
phases_to plan n = take n (plan_of plan).phases

-- a thread promises what its client makes of the first n phases of the plan
abbrev pub IsToMake : {T : Type 0} → Plan → ℕ → PromisedHandle T MakesTo → Type 0
IsToMake plan n thread = (thread.promise.plan.value ≡ plan) × (thread.promise.phases ≡ n)
