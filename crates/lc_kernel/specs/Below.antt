-- The free variables that are in use are those whose numbers are below a count.
use Rattle.std.specs.Prelude.{ℕ, Bool, true, nat_lt, List}
use Rattle.std.specs.List.{list_all}
use Rattle.lc_term.specs.Syntax.{Term, Column, Formula}
use Rattle.lc_term.specs.Places.{Test, term_passes, column_passes, passes}

-- a free variable's number is below the count
abbrev pub below : ℕ → Test
below count = record { columns = λ c. true; variables = λ k. nat_lt k count; bounds = λ k. true }

-- each free variable of a term is in use
abbrev pub term_below : ℕ → Term → Bool
term_below count t = term_passes (below count) t

-- the same for a column expression
abbrev pub column_below : ℕ → Column → Bool
column_below count c = column_passes (below count) c

-- the same for a formula
abbrev pub formula_below : ℕ → Formula → Bool
formula_below count f = passes (λ n. below count) 0 f

-- the same for each formula of a list
abbrev pub all_below : ℕ → List Formula → Bool
all_below count fs = list_all (λ f. formula_below count f) fs
