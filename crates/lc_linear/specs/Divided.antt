-- A form divided by a number, the constant being rounded up.
use Rattle.std.specs.Prelude.{◌≡◌, Option, Some, None, ℤ, pos, ◌+ℤ◌, ◌*ℤ◌, ◌≤ℤ◌, ◌<ℤ◌}

-- n is the quotient of d by k, rounded up: the least whole number that is k times at least d
pub record IsRoundedUp (d k n : ℤ) : Type 0 where
  pub reaches : d ≤ℤ (k *ℤ n)
  pub least : (k *ℤ n) <ℤ (d +ℤ k)

-- of forms over any atoms: k is at least 1, and each coefficient is a multiple of it
pub record Divides {Atom : Type 0} (k : ℤ) (f : Option Atom → ℤ) : Type 0 where
  pub positive : pos 1 ≤ℤ k
  pub multiples : (a : Atom) → (c : ℤ) × (f (Some a) ≡ k *ℤ c)

-- g is f with each coefficient divided by k, and the constant divided and rounded up
pub record IsDivided {Atom : Type 0} (f : Option Atom → ℤ) (k : ℤ) (g : Option Atom → ℤ) : Type 0 where
  pub coefficients : (a : Atom) → f (Some a) ≡ k *ℤ g (Some a)
  pub constant : IsRoundedUp (f None) k (g None)
