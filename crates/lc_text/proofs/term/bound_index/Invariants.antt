use Rattle.std.proofs.Common.{◌≡◌, ◌+◌, ◌-◌, length, take}
use Rattle.std.specs.Prelude.{option_map}
use Rattle.lc_reading.specs.Words.{names_in}
use Rattle.lc_text.specs.Terms.{bound_index}
use Rattle.lc_text.proofs.term.bound_index.Given as goal

abbrev pub invariant-loop-inside : goal.invariant-loop-inside
invariant-loop-inside l = bound_index (names_in l.bound) l.text ≡ option_map (λ k. k + l.inside) (bound_index (names_in (take (length l.bound - l.inside) l.bound)) l.text)
