use Rattle.std.proofs.Common.{◌≡◌, ◌∷◌, drop}
use Rattle.std.specs.Prelude.{ℤ}
use Rattle.lc_term.specs.Meaning.{push}
use Rattle.lc_term.specs.State.{state_of, env_of}
use Rattle.lc_term.specs.View.{formula_of}
use Rattle.lc_term.proofs.Evaluated.{parts_from}
use Rattle.lc_look.specs.Computing.{bounds_of}
use Rattle.lc_look.specs.Looking.{opposite, both, look_each, look_in, look_all, look_none}
use Rattle.lc_look.proofs.looking.+look_in.Given as goal

abbrev pub invariant-look_all-loop-part : goal.invariant-look_all-loop-part
invariant-look_all-loop-part l =
    look_all l.numbers (state_of l.state) (env_of l.env) (bounds_of l.bounds) (parts_from l.parts 0) ≡
    both l.seen (look_all l.numbers (state_of l.state) (env_of l.env) (bounds_of l.bounds) (parts_from l.parts l.part-index))

abbrev pub invariant-look_none-loop-part : goal.invariant-look_none-loop-part
invariant-look_none-loop-part l =
    look_none l.numbers (state_of l.state) (env_of l.env) (bounds_of l.bounds) (parts_from l.parts 0) ≡
    both l.seen (look_none l.numbers (state_of l.state) (env_of l.env) (bounds_of l.bounds) (parts_from l.parts l.part-index))

abbrev pub invariant-look_each-loop-number : goal.invariant-look_each-loop-number
invariant-look_each-loop-number l =
    ((x : ℤ) × (l.below.items ≡ x ∷ l.bounds)) ×
    (look_each (λ x. look_in l.numbers (state_of l.state) (env_of l.env) (push x (bounds_of l.bounds)) (formula_of l.body)) l.these ≡
    both l.seen (look_each (λ x. look_in l.numbers (state_of l.state) (env_of l.env) (push x (bounds_of l.bounds)) (formula_of l.body)) (drop l.number-index l.these)))

abbrev pub invariant-look_each_not-loop-number : goal.invariant-look_each_not-loop-number
invariant-look_each_not-loop-number l =
    ((x : ℤ) × (l.below.items ≡ x ∷ l.bounds)) ×
    (look_each (λ x. opposite (look_in l.numbers (state_of l.state) (env_of l.env) (push x (bounds_of l.bounds)) (formula_of l.body))) l.these ≡
    both l.seen (look_each (λ x. opposite (look_in l.numbers (state_of l.state) (env_of l.env) (push x (bounds_of l.bounds)) (formula_of l.body))) (drop l.number-index l.these)))
