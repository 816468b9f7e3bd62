-- How many there are.
use Rattle.std.proofs.Common.{◌≡◌, ℕ, ℤ, ◌≤◌, List, [], ◌∷◌, length, set, refl, ◌∙◌, arith}
use Rattle.std.proofs.lemmas.List.{length-set}
use Rattle.lc_machine.specs.Step.{assigned}
use Rattle.lc_machine.specs.Below.{AreBelow}

pub below_more : (n m : ℕ) (ns : List ℕ) → AreBelow n ns → n ≤ m → AreBelow m ns
below_more n m [] h k = tt
below_more n m (x ∷ xs) h k = (omega (arith, h.0), below_more n m xs h.1 k)

-- an assignment makes no variable
pub assigned_length : (vs : List ℤ) (rs : List ℕ) (ns : List ℤ) → length (assigned vs rs ns) ≡ length vs
assigned_length vs [] ns = refl
assigned_length vs (r ∷ rs) [] = refl
assigned_length vs (r ∷ rs) (n ∷ ns) = assigned_length (set vs r n) rs ns ∙ length-set vs r n
