use Rattle.std.proofs.Common.{◌≡◌, ℕ, ◌<◌, ◌++◌, ◌∷◌, pos}
use Rattle.std.specs.Prelude.{option_map}
use Rattle.lc_machine.specs.Step.{IsClient}
use Rattle.lc_machine.specs.World.{Client}
use Rattle.lc_cond.specs.ConditionView.{condition_in}
use Rattle.lc_stages.specs.Stages.{numbers_at}
use Rattle.lc_acting.specs.Attempts.{development_of, world_of}
use Rattle.lc_blame.specs.Blame.{FailsWith, point_of}
use Rattle.lc_blame.proofs.failing.fails_beside.Given as goal

-- with the numbers of no client so far
abbrev pub invariant-loop-i : goal.invariant-loop-i
invariant-loop-i l =
    (let D = development_of l.attempt in
    let w = world_of l.attempt in
    (u : ℕ) (client : Client) → u < l.i → (u ≡ l.attempt.client → ⊥) → IsClient w u client → point_of client ≡ option_map (λ p. p.0) l.point →
    FailsWith l.attempt.tried.now w.columns (numbers_at D w u client ++ pos l.attempt.client ∷ l.given) (condition_in l.asked.terms.now l.asked.condition.now) → ⊥)
