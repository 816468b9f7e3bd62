-- The numbers between which a formula leaves the innermost bound variable: comparisons bound it from both sides, by terms without bound
-- variables.
use Rattle.std.specs.Prelude.{◌==◌, ℕ, zero, suc, ℤ, pos, negsuc, ◌+ℤ◌, ◌-ℤ◌, nat_le, Bool, false, Option, Some, None, option_and_then, option_map, if◌then◌else◌, List, [], ◌∷◌, Vec}
use Rattle.std.specs.declared.alloc.Global.{Global}
use Rattle.lc_term.specs.Meaning.{State, Env, outside}
use Rattle.lc_term.specs.Places.{is_closed}
use Rattle.lc_term.specs.Syntax.{Term, Number, Variable, Bound, Add, Subtract, Multiply, Read}
use Rattle.lc_term.specs.Syntax.{Formula, Le, Eq, Not, And, Or, Implies, Forall, Exists, Formulas, none, more}
use Rattle.lc_look.specs.Computing.{number, both_in_64}
use Rattle.lc_look.specs.declared.range.Range.{Range}

-- the variable itself
abbrev pub is_own : Term → Bool
is_own (Number n) = false
is_own (Variable k) = false
is_own (Bound k) = k == 0
is_own (Add t u) = false
is_own (Subtract t u) = false
is_own (Multiply n t) = false
is_own (Read c i) = false

abbrev pub numeral : Term → Option ℤ
numeral (Number n) = Some n
numeral (Variable k) = None
numeral (Bound k) = None
numeral (Add t u) = None
numeral (Subtract t u) = None
numeral (Multiply n t) = None
numeral (Read c i) = None

-- how much a term is more than the variable: the variable itself, or the variable and a numeral
abbrev pub beyond : Term → Option ℤ
beyond (Number n) = None
beyond (Variable k) = None
beyond (Bound k) = if is_own (Bound k) then Some (pos 0) else None
beyond (Add t u) = if is_own t then numeral u else None
beyond (Subtract t u) = None
beyond (Multiply n t) = None
beyond (Read c i) = None

-- the number of a term without bound variables
abbrev pub closed : State → Env → Term → Option ℤ
closed s e t = if is_closed t then number s e outside t else None

-- no bound
abbrev pub no_range : Range
no_range = record { low = None; high = None }

-- the first of two, if it is there
abbrev pub first_of : Option ℤ → Option ℤ → Option ℤ
first_of None n = n
first_of (Some m) n = Some m

-- what two leave: of two bounds of one side the first
abbrev pub joined : Range → Range → Range
joined r q = record { low = first_of r.low q.low; high = first_of r.high q.high }

abbrev mutual
  -- where a formula holds, the variable is between these
  pub range_of : State → Env → Formula → Range
  range_of s e (Le t u) = record { low = both_in_64 ◌-ℤ◌ (closed s e t) (beyond u); high = both_in_64 ◌-ℤ◌ (closed s e u) (beyond t) }
  range_of s e (Eq t u) = no_range
  range_of s e (Not f) = no_range
  range_of s e (And fs) = ranges_of s e fs
  range_of s e (Or fs) = no_range
  range_of s e (Implies f g) = no_range
  range_of s e (Forall f) = no_range
  range_of s e (Exists f) = no_range

  -- where each part holds
  pub ranges_of : State → Env → Formulas → Range
  ranges_of s e none = no_range
  ranges_of s e (more f fs) = joined (range_of s e f) (ranges_of s e fs)

-- where the variable is not between these, a formula holds, since a premise does not
abbrev pub premise_range : State → Env → Formula → Range
premise_range s e (Le t u) = no_range
premise_range s e (Eq t u) = no_range
premise_range s e (Not f) = no_range
premise_range s e (And fs) = no_range
premise_range s e (Or fs) = no_range
premise_range s e (Implies f g) = joined (range_of s e f) (premise_range s e g)
premise_range s e (Forall f) = no_range
premise_range s e (Exists f) = no_range

-- so many numbers from this one on
abbrev pub from : ℤ → ℕ → List ℤ
from n zero = []
from n (suc k) = n ∷ from (n +ℤ pos 1) k

-- how many numbers there are, if not below 0
abbrev pub count : ℤ → ℕ
count (pos n) = n
count (negsuc n) = 0

-- how many numbers there are from one to another, if at most 1,024
abbrev pub count_between : ℤ → ℤ → Option ℕ
count_between low high = if nat_le (count (high -ℤ low +ℤ pos 1)) 1024 then Some (count (high -ℤ low +ℤ pos 1)) else None

-- these numbers
abbrev pub between : ℤ → ℤ → Option (List ℤ)
between low high = option_map (from low) (count_between low high)

-- all numbers of a range, if it has both bounds and they are few
abbrev pub numbers_in : Range → Option (List ℤ)
numbers_in r = option_and_then (λ low. option_and_then (λ high. between low high) r.high) r.low

-- the numbers of a list of the code, if there is one
abbrev pub numbers_of : Option (Vec ℤ Global) → Option (List ℤ)
numbers_of numbers = option_map (λ (found : Vec ℤ Global). found.items) numbers

-- the numbers at which a quantifier is tried: all of its range, if there is one, else these
abbrev pub tried : List ℤ → Option (List ℤ) → List ℤ
tried numbers None = numbers
tried numbers (Some range) = range
