use Rattle.std.proofs.Common.{drop}
use Rattle.lc_term.specs.State.{state_of, env_of, column_count, variable_count}
use Rattle.lc_seq.specs.Specification.{chosen}
use Rattle.lc_seq.specs.SpecView.{branches_of, choice_of}
use Rattle.lc_seq.proofs.Runs.{AreRun}
use Rattle.lc_seq.proofs.running.run.Given as goal

abbrev pub invariant-loop-branch : goal.invariant-loop-branch
invariant-loop-branch l =
    AreRun (state_of l.state) (env_of l.env) (column_count l.state) (variable_count l.env) (chosen (choice_of l.pick) (branches_of l.branches)) (chosen (choice_of l.pick) (branches_of (drop l.branch-index l.branches)))
