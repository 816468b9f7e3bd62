-- How long a run may be.
use Rattle.std.specs.Prelude.{ℕ}

-- the most labels of a run: one for each call, each instruction and each return
abbrev pub label_limit : ℕ
label_limit = 1000000
