use Rattle.std.proofs.Common.{◌≡◌, ◌<◌, ◌≤◌, ℕ, Some, length, drop, slice_get}
use Rattle.lc_history.specs.Spans.{earliest_return, is_preceded}
use Rattle.lc_history.proofs.spans.preceded_places.Given as goal

abbrev pub invariant-loop-place : goal.invariant-loop-place
invariant-loop-place l = record {
  size : length l.preceded.items ≡ length l.spans;
  each : (p : ℕ) → l.place ≤ p → p < length l.spans → slice_get l.preceded.items p ≡ Some (is_preceded l.spans p);
  earliest : l.earliest ≡ earliest_return (drop l.place l.spans);
}
