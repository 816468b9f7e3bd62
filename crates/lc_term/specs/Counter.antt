-- A count of quantifiers that stops before it overflows.
use Rattle.std.specs.Prelude.{◌≡◌, ℕ, ◌^◌, min}

-- the counter has counted n: it is n, or both are beyond each number of a bound variable
abbrev pub HasCounted : ℕ → ℕ → Type 0
HasCounted counter n = min counter (2 ^ 32) ≡ min n (2 ^ 32)
