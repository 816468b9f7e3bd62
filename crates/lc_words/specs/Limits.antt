-- How many workers, clients and calls may be asked for.
use Rattle.std.specs.Prelude.{ℕ}

-- the most workers that check a certificate side by side
abbrev pub worker_limit : ℕ
worker_limit = 64

-- the most clients that make any calls, and the most calls that each makes
abbrev pub size_limit : ℕ
size_limit = 64
