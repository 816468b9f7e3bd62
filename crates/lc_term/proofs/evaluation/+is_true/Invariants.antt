use Rattle.lc_term.specs.Meaning.{outside}
use Rattle.lc_term.specs.Reached.{AndFits, OrFits}
use Rattle.lc_term.specs.State.{state_of, env_of, column_count, variable_count}
use Rattle.lc_term.specs.Truth.{all_true, some_true}
use Rattle.lc_term.proofs.Evaluated.{MayCompute, DecideFor, parts_from}
use Rattle.lc_term.proofs.evaluation.+is_true.Given as goal

abbrev pub invariant-are_all_true-loop-part : goal.invariant-are_all_true-loop-part
invariant-are_all_true-loop-part l =
    MayCompute (column_count l.state) (variable_count l.env) (parts_from l.parts l.part-index) ×
    DecideFor (all_true (state_of l.state) (env_of l.env) outside) (AndFits (state_of l.state) (env_of l.env)) (parts_from l.parts 0) (parts_from l.parts l.part-index)

abbrev pub invariant-is_some_true-loop-part : goal.invariant-is_some_true-loop-part
invariant-is_some_true-loop-part l =
    MayCompute (column_count l.state) (variable_count l.env) (parts_from l.parts l.part-index) ×
    DecideFor (some_true (state_of l.state) (env_of l.env) outside) (OrFits (state_of l.state) (env_of l.env)) (parts_from l.parts 0) (parts_from l.parts l.part-index)
