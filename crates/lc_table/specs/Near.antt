-- Hashes that lie near one another for numbers that do.
use Rattle.std.specs.Prelude.{ℕ, ◌-◌, ◌/◌, ◌%◌, ◌^◌, ◌==◌, nat_lt, List, length, Option, Some, None, if◌then◌else◌, bit_xor}
use Rattle.std.specs.Hash.{u64}
use Rattle.std.specs.Hash.FoldHasher as folding
use Rattle.std.specs.Int.{from_le_bytes, w32, w64}
use Rattle.std.specs.List.{fold}
use Rattle.lc_table.specs.declared.near.NearHasher.{NearHasher}

abbrev pub initial : NearHasher
initial = record { folded = folding.initial; largest = 0 }

-- the number that is written in four or eight bytes, the lowest first
abbrev pub number_in : List ℕ → Option ℕ
number_in bs = if length bs == 4 then Some (from_le_bytes w32 bs) else (if length bs == 8 then Some (from_le_bytes w64 bs) else None)

-- a number is hashed if it is not the largest; the largest is hashed without its last six bits
abbrev pub hashed : NearHasher → ℕ → ℕ → NearHasher
hashed h n largest = record { folded = fold folding.write h.folded (u64 n); largest = largest }

abbrev pub with_number : NearHasher → ℕ → NearHasher
with_number h n = if nat_lt n h.largest then hashed h n h.largest else hashed h (2 ^ 64 - 1 - h.largest) n

-- other bytes are hashed as they are
abbrev pub with_bytes : NearHasher → List ℕ → Option ℕ → NearHasher
with_bytes h bs (Some n) = with_number h n
with_bytes h bs None = record { folded = folding.write h.folded bs; largest = h.largest }

abbrev pub write : NearHasher → List ℕ → NearHasher
write h bs = with_bytes h bs (number_in bs)

abbrev pub finish : NearHasher → ℕ
finish h = bit_xor (folding.finish (fold folding.write h.folded (u64 (h.largest / 64)))) (h.largest % 64)
