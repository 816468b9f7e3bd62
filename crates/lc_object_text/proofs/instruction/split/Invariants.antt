use Rattle.std.proofs.Common.{◌≡◌, map}
use Rattle.lc_object.specs.View.{locals_of, terms_of}
use Rattle.lc_object_text.specs.Own.{assigned_view}
use Rattle.lc_object_text.proofs.instruction.split.Given as goal

-- the locals and the values of the cells so far
abbrev pub invariant-loop-target : goal.invariant-loop-target
invariant-loop-target l = record {
  targets : locals_of l.targets.items ≡ map (λ cell. cell.0) (map assigned_view l.yielded);
  values : terms_of l.values.items ≡ map (λ cell. cell.1) (map assigned_view l.yielded);
}
