use Rattle.std.proofs.Common.{map, take}
use Rattle.lc_term.specs.Lists.{Every}
use Rattle.lc_cond.specs.ConditionView.{condition_in}
use Rattle.lc_acting.specs.Attempts.{development_of, world_of, event_of}
use Rattle.lc_blame.specs.Blame.{FailsThere}
use Rattle.lc_blame.proofs.blaming.first_failing.Given as goal

-- none so far fails
abbrev pub invariant-loop-i : goal.invariant-loop-i
invariant-loop-i l =
    Every (λ k. FailsThere (development_of l.attempt) (world_of l.attempt) l.attempt.client (event_of l.attempt) l.attempt.tried.now k → ⊥) (map (condition_in l.terms) (take l.i l.conditions))
