-- What the values of the code stand for.
use Rattle.std.specs.Prelude.{List, ℤ, map}
use Rattle.lc_base.specs.Name.{bytes_of}
use Rattle.lc_term.specs.View.{formula_of}
use Rattle.lc_tie.specs.Tie as S
use Rattle.lc_tie.specs.declared.tie.Conjunct.{Conjunct}
use Rattle.lc_tie.specs.declared.tie.Tie.{Tie}

abbrev pub conjunct_of : Conjunct → S.Conjunct
conjunct_of c = record { name = bytes_of c.name; formula = formula_of c.formula }

-- the conjuncts of a tie, and the two numbers of each column
abbrev pub conjuncts_in : Tie → List S.Conjunct
conjuncts_in tie = map conjunct_of tie.conjuncts.items

abbrev pub numbers_in : Tie → List (ℤ × ℤ)
numbers_in tie = tie.initial.items
