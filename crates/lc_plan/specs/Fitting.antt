-- Which plans are for a development.
use Rattle.std.specs.Prelude.{◌≡◌, ℕ, ◌+◌, Bool, true, ◌&&◌, List}
use Rattle.std.specs.List.{list_all}
use Rattle.lc_base.specs.Limits.{seat_limit}
use Rattle.lc_seq.specs.Specification.{Operation, has_call}
use Rattle.lc_outline.specs.Development.{Development}
use Rattle.lc_reading.specs.Files.{Says}
use Rattle.lc_plan.specs.Limits.{most_turns}
use Rattle.lc_plan.specs.Numbers.{is_from}
use Rattle.lc_plan.specs.Plans.{Calls, Script, Plan}
use Rattle.lc_plan.specs.Readings.{plan_reading}

-- a call of one of these operations, with as many numbers as it takes, with counts and turns within their limits
abbrev pub calls_fit : List Operation → Calls → Bool
calls_fit os c = has_call os c.call && (is_from 0 (most_turns + 1) c.count && is_from 0 (most_turns + 1) c.turns)

-- a script of one of `clients` clients, with such calls
abbrev pub script_fits : List Operation → ℕ → Script → Bool
script_fits os clients s = is_from 0 clients s.client && list_all (calls_fit os) s.calls

-- as many clients as there may be, and such scripts alone
abbrev pub plan_fits : Development → Plan → Bool
plan_fits D p = is_from 1 (seat_limit + 1) p.clients && list_all (list_all (script_fits D.specification.operations p.clients)) p.phases

-- each plan that is said for a development is for it
abbrev pub PlansFit : Type 0
PlansFit = (D : Development) (bytes : List ℕ) (p : Plan) → Says (plan_reading D) bytes p → plan_fits D p ≡ true
