use Rattle.std.proofs.Common.{map, drop}
use Rattle.lc_term.specs.State.{state_of, env_of, column_count, variable_count}
use Rattle.lc_term.specs.View.{term_of}
use Rattle.lc_seq.proofs.Runs.{AreValued}
use Rattle.lc_seq.proofs.running.values_of.Given as goal

abbrev pub invariant-loop-term : goal.invariant-loop-term
invariant-loop-term l =
    AreValued (state_of l.state) (env_of l.env) (column_count l.state) (variable_count l.env) (map term_of l.terms) (map term_of (drop l.term-index l.terms)) l.values.items
