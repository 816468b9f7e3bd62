use Rattle.std.proofs.Common.{◌≡◌, List, ◌++◌, length}
use Rattle.lc_term.specs.Lists.{Every}
use Rattle.lc_cond.specs.Conditions.{Condition, conditions}
use Rattle.lc_cond.specs.Stream.{conditions_left, parts_left, next_number}
use Rattle.lc_acting.specs.Attempts.{development_of, world_of, event_of}
use Rattle.lc_blame.specs.Blame.{FailsThere}
use Rattle.lc_blame.proofs.blaming.first_of_all.Given as goal

-- none of the conditions that were given fails, and the others are left
abbrev pub invariant-parts : goal.invariant-parts
invariant-parts l =
    (passed : List Condition) × (passed ++ conditions_left (development_of l.attempt) l.stream ≡ conditions (development_of l.attempt)) × (next_number l.stream ≡ length passed)
    × Every (λ k. FailsThere (development_of l.attempt) (world_of l.attempt) l.attempt.client (event_of l.attempt) l.attempt.tried.now k → ⊥) passed

abbrev pub decreases-parts : goal.decreases-parts
decreases-parts l = parts_left (development_of l.attempt) l.stream
