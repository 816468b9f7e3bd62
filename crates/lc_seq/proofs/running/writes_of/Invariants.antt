use Rattle.std.proofs.Common.{◌≡◌, ◌++◌, true, drop}
use Rattle.std.specs.List.{list_all}
use Rattle.lc_term.specs.State.{state_of, env_of, column_count, variable_count}
use Rattle.lc_seq.specs.Specification.{update_is_resolved}
use Rattle.lc_term.specs.UpdateView.{updates_of, writes_view}
use Rattle.lc_seq.specs.TextStep.{UpdatesFit, writes_of}
use Rattle.lc_seq.proofs.running.writes_of.Given as goal

abbrev pub invariant-loop-update : goal.invariant-loop-update
invariant-loop-update l =
    let s = state_of l.state in
    let e = env_of l.env in
    let rest = updates_of (drop l.update-index l.updates) in
    record {
      resolved : list_all (update_is_resolved (column_count l.state) (variable_count l.env)) rest ≡ true;
      rest_fits : UpdatesFit s e (updates_of l.updates) → UpdatesFit s e rest;
      whole_fits : UpdatesFit s e rest → UpdatesFit s e (updates_of l.updates);
      writes : writes_view l.writes.items ++ writes_of s e rest ≡ writes_of s e (updates_of l.updates);
    }
