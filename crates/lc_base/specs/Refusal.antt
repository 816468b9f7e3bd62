-- The codes and the numbers of refusals.
use Rattle.std.specs.Prelude.{ℕ, List, [], ◌∷◌}
use Rattle.lc_base.specs.declared.refusal.Refusal.{Refusal}
use Rattle.lc_base.specs.declared.refusal.Refusal.TheVariants.{Text, Shape, Unknown, Repeated, Auxiliary, Bound, CertText, CertShape, Missing, Extra, Proof, Large, HistoryShape, Order}

-- the code that is printed for a refusal
abbrev pub code_of : Refusal → ℕ
code_of (Text offset) = 1
code_of (Shape item) = 2
code_of (Unknown item) = 3
code_of (Repeated item) = 4
code_of (Auxiliary item) = 5
code_of (Bound item) = 6
code_of (CertText offset) = 7
code_of (CertShape item) = 8
code_of (Missing condition) = 9
code_of (Extra condition) = 10
code_of (Proof condition step reason) = 11
code_of (Large condition step) = 12
code_of (HistoryShape item) = 13
code_of (Order place reason) = 14

-- the numbers that are printed after its code
abbrev pub numbers_of : Refusal → List ℕ
numbers_of (Text offset) = offset ∷ []
numbers_of (Shape item) = item ∷ []
numbers_of (Unknown item) = item ∷ []
numbers_of (Repeated item) = item ∷ []
numbers_of (Auxiliary item) = item ∷ []
numbers_of (Bound item) = item ∷ []
numbers_of (CertText offset) = offset ∷ []
numbers_of (CertShape item) = item ∷ []
numbers_of (Missing condition) = condition ∷ []
numbers_of (Extra condition) = condition ∷ []
numbers_of (Proof condition step reason) = condition ∷ step ∷ reason ∷ []
numbers_of (Large condition step) = condition ∷ step ∷ []
numbers_of (HistoryShape item) = item ∷ []
numbers_of (Order place reason) = place ∷ reason ∷ []
