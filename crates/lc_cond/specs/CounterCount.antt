-- How many conditions the counter has.
use Rattle.std.specs.Prelude.{◌≡◌, length}
use Rattle.lc_cond.specs.Conditions.{conditions}
use Rattle.lc_cond.specs.Counter.{counter}
use Rattle.lc_outline.specs.Sizes.{count, sizes_of}

-- in its list, and by its sizes
abbrev pub CounterIsCounted : Type 0
CounterIsCounted = (length (conditions counter) ≡ 59) × (count (sizes_of counter) ≡ 59)
