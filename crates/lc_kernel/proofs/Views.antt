-- What is seen of formulas of each kind.
use Rattle.std.specs.Prelude.{◌≡◌, ℕ, ◌&&◌, List, [], ◌∷◌}
use Rattle.std.proofs.Common.{refl, ap}
use Rattle.lc_term.specs.Places.{all_pass}
use Rattle.lc_term.specs.Syntax as S
use Rattle.lc_term.specs.Syntax.{formulas, parts}
use Rattle.lc_term.proofs.Depths.{passes_anywhere}
use Rattle.lc_kernel.specs.Below.{below, formula_below, all_below}

pub parts_formulas : (fs : List S.Formula) → parts (formulas fs) ≡ fs
parts_formulas [] = refl
parts_formulas (f ∷ fs) = ap (λ gs. f ∷ gs) (parts_formulas fs)

-- the parts of a conjunction or a disjunction, as a list
pub parts_below : (count : ℕ) (fs : List S.Formula) → all_below count fs ≡ all_pass (λ n. below count) 0 (formulas fs)
parts_below count [] = refl
parts_below count (f ∷ fs) = ap (λ b. formula_below count f && b) (parts_below count fs)

-- what a quantifier binds
pub body_below : (count : ℕ) (f : S.Formula) → formula_below count f ≡ formula_below count (S.Forall f)
body_below count f = passes_anywhere (below count) 0 1 f
