-- A development has as many conditions as are counted by its sizes.
use Rattle.std.specs.Prelude.{◌≡◌, length}
use Rattle.lc_outline.specs.Development.{Development}
use Rattle.lc_outline.specs.Sizes.{count, sizes_of}
use Rattle.lc_cond.specs.Conditions.{conditions}

-- this is their number
abbrev pub AreCounted : Development → Type 0
AreCounted D = length (conditions D) ≡ count (sizes_of D)
