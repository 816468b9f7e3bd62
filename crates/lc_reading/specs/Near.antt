-- Hashes that lie near one another for names that differ in their last letter.
use Rattle.std.specs.Prelude.{ℕ, ◌-◌, nat_le, List, length, take, if◌then◌else◌, slice_index, bit_xor}
use Rattle.std.specs.Hash.FoldHasher as folding
use Rattle.lc_reading.specs.declared.near.NearHasher.{NearHasher}

abbrev pub initial : NearHasher
initial = record { folded = folding.initial; last = 0 }

-- all but the last of several bytes is hashed; one byte is hashed as it is
abbrev pub write : NearHasher → List ℕ → NearHasher
write h bs =
    if nat_le (length bs) 1 then record { folded = folding.write h.folded bs; last = h.last }
    else record { folded = folding.write h.folded (take (length bs - 1) bs); last = slice_index bs (length bs - 1) }

abbrev pub finish : NearHasher → ℕ
finish h = bit_xor (folding.finish h.folded) h.last
