-- How much is read of a file, and into what.
use Rattle.std.specs.Prelude.{◌≡◌, ℕ, ◌+◌, ◌≤◌, ◌<◌, List, ◌++◌, length, take, Option, IfSome}
use Rattle.std.specs.Io.KnownBytes.{Consumes, IsAtEnd}
use Rattle.lc_base.specs.Limits.{file_limit}

-- how many bytes of a file are read: one more than a file may have
abbrev pub most_bytes : ℕ
most_bytes = 1 + file_limit

-- a file, or its beginning if it is beyond the file limit
abbrev pub within_limit : List ℕ → List ℕ
within_limit file = take most_bytes file

-- this holds of the bytes of a file: of those that are known, if they are; else of some bytes, which stand for what was read
abbrev pub OfFile : Option (List ℕ) → (List ℕ → Type 0) → Type 0
OfFile known Holds = (file : List ℕ) × IfSome known (λ bytes. file ≡ bytes) × Holds file

-- these bytes were read of what was left to read: all of it, or as many as are read of a file
abbrev pub ReadsToLimit : Option (List ℕ) → Option (List ℕ) → List ℕ → Type 0
ReadsToLimit before after bytes = Consumes before after bytes × (length bytes ≤ most_bytes) × (length bytes < most_bytes → IsAtEnd after)

-- whatever it was fed before, and about what, after that it was fed these bytes
abbrev pub IsFedOn : {S X : Type 0} → (S → X → List ℕ → Type 0) → S → S → List ℕ → Type 0
IsFedOn {S} {X} WasFed before after bytes = (about : X) → (fed : List ℕ) → WasFed before about fed → WasFed after about (fed ++ bytes)
