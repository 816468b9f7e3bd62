-- What clauses see of a plan.
use Rattle.std.specs.Prelude.{ℕ, ◌==◌, List, [], ◌∷◌, if◌then◌else◌}
use Rattle.lc_sexp.specs.Trees.{Trees, none}
use Rattle.lc_fill.specs.Plan as S
use Rattle.lc_fill.specs.declared.plan.Plan.{Plan}
use Rattle.lc_fill.specs.declared.plan.Planned.{Planned}

-- what is planned before the item n, by the first of these that says so
abbrev pub found : List Planned → ℕ → Trees
found [] n = none
found (p ∷ ps) n = if p.place == n then p.items else found ps n

abbrev pub plan_view : Plan → S.Plan
plan_view p = record { actions = p.actions; calls = found p.calls.items; asserts = found p.asserts.items; idle = p.idle }
