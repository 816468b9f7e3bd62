use Rattle.std.proofs.Common.{ℕ, ◌<◌, length}
use Rattle.lc_cond.specs.ConditionView.{condition_in}
use Rattle.lc_sound.specs.Claims.{own}
use Rattle.lc_acting.specs.Attempts.{world_of}
use Rattle.lc_blame.specs.Blame.{FailsWith}
use Rattle.lc_blame.proofs.failing.fails_at_start.Given as goal

-- with the numbers of no client so far
abbrev pub invariant-loop-client : goal.invariant-loop-client
invariant-loop-client l =
    (let w = world_of l.attempt in (u : ℕ) → u < l.client → FailsWith l.attempt.tried.now w.columns (own (length w.clients) u) (condition_in l.asked.terms.now l.asked.condition.now) → ⊥)
