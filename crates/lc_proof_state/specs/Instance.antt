-- A goal at numbers for the variables of its `forall`s.
use Rattle.std.specs.Prelude.{ℤ, List, [], ◌∷◌}
use Rattle.lc_term.specs.Substitution.{instantiated}
use Rattle.lc_term.specs.Syntax.{Formula, Number, Implies, Forall}

-- the formula with x for the variable of the `forall` that it is, or that it is under premises; itself if it is none
abbrev pub at_number : ℤ → Formula → Formula
at_number x (Forall f) = instantiated (Number x) f
at_number x (Implies f g) = Implies f (at_number x g)
at_number x f = f

-- the same with numbers for as many `forall`s, the outermost first
abbrev pub instance_at : List ℤ → Formula → Formula
instance_at [] f = f
instance_at (x ∷ xs) f = instance_at xs (at_number x f)
