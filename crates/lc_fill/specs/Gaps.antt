-- Which item of a file is meant by an item of what it is filled up to.
use Rattle.std.specs.Prelude.{ℕ, ◌-◌, nat_lt, List, [], ◌∷◌, if◌then◌else◌}
use Rattle.lc_fill.specs.declared.gap.Gap.{Gap}

-- The item n, if nothing is put in before these gaps: itself; of what was put in, the item before which it is
abbrev pub meant : List Gap → ℕ → ℕ
meant [] n = n
meant (g ∷ gs) n = if nat_lt n g.place then n else (if nat_lt (n - g.place) g.size then g.place else meant gs (n - g.size))
