use Rattle.std.proofs.Common.{◌≡◌, drop}
use Rattle.std.specs.List.{list_all}
use Rattle.lc_seq.specs.Specification.{update_is_resolved}
use Rattle.lc_seq.specs.SpecView.{updates_of}
use Rattle.lc_seq.proofs.resolving.updates_are_resolved.Given as goal

-- what is left decides the answer
abbrev pub invariant-loop-update : goal.invariant-loop-update
invariant-loop-update l = list_all (update_is_resolved l.columns l.variables) (updates_of l.updates) ≡ list_all (update_is_resolved l.columns l.variables) (updates_of (drop l.update-index l.updates))
