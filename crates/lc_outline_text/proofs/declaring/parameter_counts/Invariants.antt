use Rattle.std.proofs.Common.{◌≡◌, map, take}
use Rattle.lc_outline_text.specs.Declarations.{parameter_count}
use Rattle.lc_outline_text.specs.Rests.{rests_of}
use Rattle.lc_outline_text.proofs.declaring.parameter_counts.Given as goal

-- the counts so far
abbrev pub invariant-loop-form : goal.invariant-loop-form
invariant-loop-form l = l.counts.items ≡ map parameter_count (rests_of (take l.form-index l.forms))
