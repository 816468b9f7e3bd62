-- One number more.
use Rattle.std.proofs.Common.{◌≡◌, ℤ, List, [], ◌∷◌, ◌++◌, refl}
use Rattle.lc_term.specs.Syntax.{Formula}
use Rattle.lc_proof_state.specs.Instance.{at_number, instance_at}

pub instance_at-more : (xs : List ℤ) (x : ℤ) (f : Formula) → instance_at (xs ++ x ∷ []) f ≡ at_number x (instance_at xs f)
instance_at-more [] x f = refl
instance_at-more (y ∷ xs) x f = instance_at-more xs x (at_number y f)
