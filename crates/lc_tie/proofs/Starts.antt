-- A column's place in the list of the columns at first.
use Rattle.std.proofs.Common.{◌≡◌, ℕ, zero, suc, List, [], ◌∷◌, ℤ, pos, map, refl}
use Rattle.std.specs.Prelude.{slice_index_or}
use Rattle.lc_term.specs.Syntax.{Affine}
use Rattle.lc_tie.specs.Tie.{affine_of, start_column}

pub listed_start : (ps : List (ℤ × ℤ)) (c : ℕ) → slice_index_or (map affine_of ps) c (Affine (pos 0) (pos 0)) ≡ start_column ps c
listed_start [] c = refl
listed_start (p ∷ ps) zero = refl
listed_start (p ∷ ps) (suc c) = listed_start ps c
