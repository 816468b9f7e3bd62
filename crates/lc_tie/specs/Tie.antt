-- The invariant, and what the columns hold at first.
use Rattle.std.specs.Prelude.{ℕ, zero, suc, List, [], ◌∷◌, ℤ, pos, map}
use Rattle.lc_term.specs.Syntax.{Column, Affine, Formula}

-- a named part of the invariant
pub record Conjunct : Type 0 where
  pub name : List ℕ
  pub formula : Formula

abbrev pub formulas_of : List Conjunct → List Formula
formulas_of cs = map (λ (c : Conjunct). c.formula) cs

abbrev pub affine_of : ℤ × ℤ → Column
affine_of p = Affine p.0 p.1

-- the column with this number, by the two numbers of each; 0 in each cell after the last
abbrev pub start_column : List (ℤ × ℤ) → ℕ → Column
start_column [] c = Affine (pos 0) (pos 0)
start_column (p ∷ ps) zero = affine_of p
start_column (p ∷ ps) (suc c) = start_column ps c
