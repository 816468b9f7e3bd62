-- Which numbers the clients of a history may have.
use Rattle.std.specs.Prelude.{ℕ}

-- the greatest number of a client in a history
abbrev pub client_limit : ℕ
client_limit = 1000000
