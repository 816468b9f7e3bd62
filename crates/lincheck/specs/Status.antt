-- The exit statuses of failures.
use Rattle.std.specs.Prelude.{ℕ}
use Rattle.lincheck.specs.declared.answer.Failure.{Failure}
use Rattle.lincheck.specs.declared.answer.Failure.TheVariants.{CannotRead, CannotWrite, OutOfMemory}

-- 3 for a fault of reading or writing, 4 when out of memory
abbrev pub status_of : Failure → ℕ
status_of (CannotRead path reason) = 3
status_of CannotWrite = 3
status_of OutOfMemory = 4
