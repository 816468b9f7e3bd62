-- What is seen of a formula where quantifiers are tried at some numbers alone: that it holds, that it does not, or neither.
use Rattle.std.specs.Prelude.{Bool, true, false, Option, Some, None, List, [], ◌∷◌, ℤ, int_le}
use Rattle.std.specs.Ordering.{int_eq}
use Rattle.lc_term.specs.Meaning.{State, Env, outside, push, Holds}
use Rattle.lc_term.specs.Syntax.{Formula, Le, Eq, Not, And, Or, Implies, Forall, Exists, Formulas, none, more}
use Rattle.lc_look.specs.Computing.{number}
use Rattle.lc_look.specs.Ranges.{range_of, premise_range, numbers_in, tried}
use Rattle.lc_look.specs.declared.seen.Seen.{Seen}
use Rattle.lc_look.specs.declared.seen.Seen.TheVariants.{Yes, No, Open}

abbrev pub seen_if : Bool → Seen
seen_if true = Yes
seen_if false = No

-- what is seen of a comparison: neither, where a number leaves 64 bits
abbrev pub compared : (ℤ → ℤ → Bool) → Option ℤ → Option ℤ → Seen
compared test None n = Open
compared test (Some m) None = Open
compared test (Some m) (Some n) = seen_if (test m n)

abbrev pub opposite : Seen → Seen
opposite Yes = No
opposite No = Yes
opposite Open = Open

-- both are seen to hold; or one is seen not to
abbrev pub both : Seen → Seen → Seen
both Yes b = b
both No b = No
both Open Yes = Open
both Open No = No
both Open Open = Open

-- where some numbers are not enough: what holds at all of them is open
abbrev pub at_most_open : Seen → Seen
at_most_open Yes = Open
at_most_open No = No
at_most_open Open = Open

-- what is seen at each of some numbers
abbrev pub look_each : (ℤ → Seen) → List ℤ → Seen
look_each p [] = Yes
look_each p (x ∷ xs) = both (p x) (look_each p xs)

-- what is seen at the numbers that are tried says of all numbers: as much as at them, if they are all of a range outside of which nothing can fail
abbrev pub among : Seen → Option (List ℤ) → Seen
among seen None = at_most_open seen
among seen (Some range) = seen

-- what is seen of all numbers, where some are tried if there is no range
abbrev pub look_tried : (ℤ → Seen) → List ℤ → Option (List ℤ) → Seen
look_tried p ns range = among (look_each p (tried ns range)) range

abbrev mutual
  -- what is seen of a formula in a state, where the free variables are e, the bound ones b, and quantifiers are tried at ns
  pub look_in : List ℤ → State → Env → Env → Formula → Seen
  look_in ns s e b (Le t u) = compared int_le (number s e b t) (number s e b u)
  look_in ns s e b (Eq t u) = compared int_eq (number s e b t) (number s e b u)
  look_in ns s e b (Not f) = opposite (look_in ns s e b f)
  look_in ns s e b (And fs) = look_all ns s e b fs
  look_in ns s e b (Or fs) = opposite (look_none ns s e b fs)
  look_in ns s e b (Implies f g) = opposite (both (look_in ns s e b f) (opposite (look_in ns s e b g)))
  look_in ns s e b (Forall f) = look_tried (λ x. look_in ns s e (push x b) f) ns (numbers_in (premise_range s e f))
  look_in ns s e b (Exists f) = opposite (look_tried (λ x. opposite (look_in ns s e (push x b) f)) ns (numbers_in (range_of s e f)))

  -- that each part holds
  pub look_all : List ℤ → State → Env → Env → Formulas → Seen
  look_all ns s e b none = Yes
  look_all ns s e b (more f fs) = both (look_in ns s e b f) (look_all ns s e b fs)

  -- that no part holds
  pub look_none : List ℤ → State → Env → Env → Formulas → Seen
  look_none ns s e b none = Yes
  look_none ns s e b (more f fs) = both (opposite (look_in ns s e b f)) (look_none ns s e b fs)

-- the same of a formula outside every quantifier
abbrev pub look : List ℤ → State → Env → Formula → Seen
look ns s e f = look_in ns s e outside f

-- what was seen says of a fact: Yes that it holds, No that it does not, Open nothing
abbrev pub Says : Seen → Type 0 → Type 0
Says Yes P = P
Says No P = P → ⊥
Says Open P = Unit {0}

-- what is seen of a formula is so, whatever the numbers are
abbrev pub LooksAreRight : Type 0
LooksAreRight = (ns : List ℤ) (s : State) (e : Env) (f : Formula) → Says (look ns s e f) (Holds s e outside f)
