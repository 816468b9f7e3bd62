-- Hypotheses with others in place of one.
use Rattle.std.proofs.Common.{ℕ, zero, suc, List, [], ◌∷◌, ◌++◌, take, drop}
use Rattle.lc_table.specs.NodeTables.{Table}
use Rattle.lc_table.specs.Tables.{AreFormulas}
use Rattle.lc_table.specs.declared.node.FormulaId.{FormulaId}

pub first_are : (ts : Table) (ks : List FormulaId) (n : ℕ) → AreFormulas ts ks → AreFormulas ts (take n ks)
first_are ts ks zero are = tt
first_are ts [] (suc n) are = tt
first_are ts (k ∷ ks) (suc n) are = (are.0, first_are ts ks n are.1)

rest_are : (ts : Table) (ks : List FormulaId) (n : ℕ) → AreFormulas ts ks → AreFormulas ts (drop n ks)
rest_are ts ks zero are = are
rest_are ts [] (suc n) are = tt
rest_are ts (k ∷ ks) (suc n) are = rest_are ts ks n are.1

pub both_are : (ts : Table) (ks ls : List FormulaId) → AreFormulas ts ks → AreFormulas ts ls → AreFormulas ts (ks ++ ls)
both_are ts [] ls are too = too
both_are ts (k ∷ ks) ls are too = (are.0, both_are ts ks ls are.1 too)

pub within_are : (ts : Table) (ks : List FormulaId) (m n : ℕ) → AreFormulas ts ks → AreFormulas ts (take n (drop m ks))
within_are ts ks m n are = first_are ts (drop m ks) n (rest_are ts ks m are)
