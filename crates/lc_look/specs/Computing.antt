-- The numbers of terms, where each number that is reached fits 64 bits. Here bound variables have numbers, too.
use Rattle.std.specs.Prelude.{ℕ, ℤ, pos, negsuc, ◌+ℤ◌, ◌-ℤ◌, ◌*ℤ◌, ◌^◌, Bool, nat_lt, Option, Some, None, option_and_then, if◌then◌else◌, List, slice_index_or}
use Rattle.std.specs.Ordering.{int_eq}
use Rattle.lc_term.specs.Meaning.{State, Env}
use Rattle.lc_term.specs.Syntax.{Term, Number, Variable, Bound, Add, Subtract, Multiply, Read, Column, Base, Store, Affine}

-- whether a number fits 64 bits
abbrev pub fits_64 : ℤ → Bool
fits_64 (pos n) = nat_lt n (2 ^ 63)
fits_64 (negsuc n) = nat_lt n (2 ^ 63)

-- a number, where it fits 64 bits
abbrev pub in_64 : ℤ → Option ℤ
in_64 n = if fits_64 n then Some n else None

-- what is made of two numbers, where both are there and it fits
abbrev pub both_in_64 : (ℤ → ℤ → ℤ) → Option ℤ → Option ℤ → Option ℤ
both_in_64 f m n = option_and_then (λ x. option_and_then (λ y. in_64 (f x y)) n) m

-- the numbers of the bound variables, the innermost first; 0 where there is no such variable
abbrev pub bounds_of : List ℤ → Env
bounds_of numbers k = slice_index_or numbers k (pos 0)

abbrev mutual
  -- the number of a term
  pub number : State → Env → Env → Term → Option ℤ
  number s e b (Number n) = Some n
  number s e b (Variable k) = Some (e k)
  number s e b (Bound k) = Some (b k)
  number s e b (Add t u) = both_in_64 ◌+ℤ◌ (number s e b t) (number s e b u)
  number s e b (Subtract t u) = both_in_64 ◌-ℤ◌ (number s e b t) (number s e b u)
  number s e b (Multiply n t) = both_in_64 ◌*ℤ◌ (Some n) (number s e b t)
  number s e b (Read c i) = option_and_then (cell s e b c) (number s e b i)

  -- the number in a cell of a column expression: the stored index first, and the stored value only where the index is this one
  pub cell : State → Env → Env → Column → ℤ → Option ℤ
  cell s e b (Base c) j = in_64 (s c j)
  cell s e b (Store c i v) j = option_and_then (λ k. if int_eq k j then number s e b v else cell s e b c j) (number s e b i)
  cell s e b (Affine m n) j = both_in_64 ◌+ℤ◌ (both_in_64 ◌*ℤ◌ (Some m) (Some j)) (Some n)
