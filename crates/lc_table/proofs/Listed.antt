-- Lists of numbers of formulas, one after another.
use Rattle.std.proofs.Common.{◌≡◌, ℕ, zero, suc, ◌+◌, ◌<◌, ◌≤◌, max, List, [], ◌∷◌, ◌++◌, length, take, get_or, arith}
use Rattle.std.proofs.lemmas.List.{map_more}
use Rattle.lc_table.specs.declared.node.FormulaId.{FormulaId}
use Rattle.lc_table.specs.Nodes.{AllBelow}
use Rattle.lc_table.specs.NodeTables.{Table}
use Rattle.lc_table.specs.Tables.{formula_in, formulas_in, IsFormula, AreFormulas}

-- one more than the greatest number
abbrev pub beyond : List FormulaId → ℕ
beyond [] = 0
beyond (k ∷ ks) = max (k.0 + 1) (beyond ks)

pub beyond-le : (n : ℕ) (ks : List FormulaId) → AllBelow n ks → beyond ks ≤ n
beyond-le n [] h = omega arith
beyond-le n (k ∷ ks) h = let lt = h.0 in let rest = beyond-le n ks h.1 in omega arith

pub get-beyond : (ks : List FormulaId) (i : ℕ) (d : FormulaId) → i < length ks → (get_or ks i d).0 < beyond ks
get-beyond [] i d lt = absurd (omega arith)
get-beyond (k ∷ ks) zero d lt = omega arith
get-beyond (k ∷ ks) (suc i) d lt = let rest = get-beyond ks i d (omega arith) in omega arith

pub are_formulas-get : (ts : Table) (ks : List FormulaId) (i : ℕ) (d : FormulaId) → AreFormulas ts ks → i < length ks → IsFormula ts (get_or ks i d)
are_formulas-get ts [] i d h lt = absurd (omega arith)
are_formulas-get ts (k ∷ ks) zero d h lt = h.0
are_formulas-get ts (k ∷ ks) (suc i) d h lt = are_formulas-get ts ks i d h.1 (omega arith)

-- one formula more
pub formulas_in-more : (ts : Table) (ks : List FormulaId) (i : ℕ) (d : FormulaId) → i < length ks
    → formulas_in ts (take (i + 1) ks) ≡ formulas_in ts (take i ks) ++ formula_in ts (get_or ks i d) ∷ []
formulas_in-more ts ks i d lt = map_more (formula_in ts) ks i d lt
