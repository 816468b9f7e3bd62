-- How many paths riders make, by their texts.
use Rattle.std.specs.Prelude.{ℕ, ◌+◌, ◌*◌, codes, if◌then◌else◌, Option, Some, None, option_map}
use Rattle.lc_sexp.specs.Trees.{Tree, Trees, atom, list, none, ◌▸◌}
use Rattle.lc_reading.specs.Listed.{place_of}
use Rattle.lc_reading.specs.Words.{is}
use Rattle.lc_rider_text.specs.Known.{Known, Ways, entry_at}
use Rattle.lc_rider_text.specs.Heads.{head_of}
use Rattle.lc_rider_text.specs.declared.words.Head.{Head}
use Rattle.lc_rider_text.specs.declared.words.Head.TheVariants as H

-- this many, or one if nothing is known
abbrev pub or_one : Option ℕ → ℕ
or_one (Some k) = k
or_one None = 1

-- as many as the operation has branches
abbrev pub mark_ways : Option Ways → ℕ
mark_ways ways = or_one (option_map (λ ways. ways.count) ways)

-- T OP: as many as this one has
abbrev pub other_ways : Known → Trees → ℕ
other_ways known (t ▸ atom w ▸ ts) = mark_ways (entry_at known.ways (place_of known.operations w))
other_ways known _ = 1

-- in how many ways what begins so is done, in the body of an operation that goes so, if it is known
abbrev pub ways_with : Known → Option Ways → Trees → Option Head → ℕ
ways_with known own ts None = 1
ways_with known own ts (Some H.Set) = 1
ways_with known own ts (Some H.Lin) = mark_ways own
ways_with known own ts (Some H.LinOther) = other_ways known ts
ways_with known own ts (Some H.Note) = mark_ways own
ways_with known own ts (Some H.LinBy) = 1
ways_with known own ts (Some H.LinOtherBy) = 1
ways_with known own ts (Some H.NoteBy) = 1

abbrev pub deed_ways : Known → Option Ways → Tree → ℕ
deed_ways known own (list (atom w ▸ ts)) = ways_with known own ts (head_of w)
deed_ways known own _ = 1

-- F RIDER: one way more, if the condition does not hold
abbrev pub when_ways : Known → Option Ways → Trees → ℕ
when_ways known own (t ▸ u ▸ ts) = 1 + deed_ways known own u
when_ways known own _ = 1

-- in how many ways a rider is passed
abbrev pub rider_ways : Known → Option Ways → Tree → ℕ
rider_ways known own (list (atom w ▸ ts)) = if is w (codes "when") then when_ways known own ts else ways_with known own ts (head_of w)
rider_ways known own _ = 1

-- the paths of an edge that has these riders
abbrev pub path_count : Known → Option Ways → Trees → ℕ
path_count known own none = 1
path_count known own (t ▸ ts) = rider_ways known own t * path_count known own ts
