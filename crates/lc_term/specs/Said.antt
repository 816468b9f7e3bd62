-- What holds after stores, said of the state before: columns, terms and formulas with what was stored put in.
use Rattle.std.specs.Prelude.{ℕ, zero, suc, ◌==◌, if◌then◌else◌, List, [], ◌∷◌, pos, map, slice_index_or}
use Rattle.lc_term.specs.Syntax.{Term, Number, Variable, Read, Column, Store, Formula}
use Rattle.lc_term.specs.Replacement.{replacing, replace_term, replace}
use Rattle.lc_term.specs.Updates.{Update}

-- the columns after one more store
abbrev pub put : (ℕ → Column) → Update → ℕ → Column
put σ u c = if u.column == c then Store (σ c) u.index u.value else σ c

abbrev pub puts : (ℕ → Column) → List Update → ℕ → Column
puts σ [] = σ
puts σ (u ∷ us) = puts (put σ u) us

-- terms in order, as variables; 0 if there is none
abbrev pub term_at : List Term → ℕ → Term
term_at ts k = slice_index_or ts k (Number (pos 0))

-- an update's terms, said of the state before
abbrev pub said : (ℕ → Column) → List Term → Update → Update
said σ τ u = record { column = u.column; index = replace_term (replacing σ (term_at τ)) u.index; value = replace_term (replacing σ (term_at τ)) u.value }

-- the columns after updates that take their values together
abbrev pub after : (ℕ → Column) → List Term → List Update → ℕ → Column
after σ τ us = puts σ (map (said σ τ) us)

-- a formula of the state σ and the variables τ, said of the state before
abbrev pub told : (ℕ → Column) → List Term → Formula → Formula
told σ τ f = replace (replacing σ (term_at τ)) f

-- the variables from n on
abbrev pub variables_from : ℕ → ℕ → List Term
variables_from n zero = []
variables_from n (suc k) = Variable n ∷ variables_from (suc n) k

-- what a cell of these columns holds
abbrev pub reads : (ℕ → Column) → List ℕ → Term → List Term
reads σ cs t = map (λ c. Read (σ c) t) cs

-- these terms are stored at variable 1, one in each column
abbrev pub at_client : List ℕ → List Term → List Update
at_client [] ts = []
at_client (c ∷ cs) [] = []
at_client (c ∷ cs) (t ∷ ts) = record { column = c; index = Variable 1; value = t } ∷ at_client cs ts
