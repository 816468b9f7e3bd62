-- The number of clients that was read.
use Rattle.std.specs.Prelude.{ℕ, Result, Ok, Err}
use Rattle.lc_reading.specs.declared.flaw.ReadFault.{ReadFault}

-- 0 if none was read
abbrev pub count_told : Result ℕ ReadFault → ℕ
count_told (Ok clients) = clients
count_told (Err fault) = 0
