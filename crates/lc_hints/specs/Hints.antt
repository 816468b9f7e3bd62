-- Hints for the finder of proofs, by numbers, and what they offer for a condition.
use Rattle.std.specs.Prelude.{ℕ, ℤ, pos, negsuc, Bool, false, ◌==◌, if◌then◌else◌, List, [], ◌∷◌}
use Rattle.lc_term.specs.Lists.{concat_map}
use Rattle.lc_term.specs.Syntax.{Term, Formula}
use Rattle.lc_kernel.specs.Proofs.{Proof}
use Rattle.lc_cert.specs.Certificates.{Entry}

-- what is offered for a proof: terms for `inst`, a formula for `cut`, or a whole proof
pub data Advice : Type 0 where
  Use : List Term → Advice
  Cut : Formula → Advice
  By : Proof → Advice

-- a hint, for the condition of this number, if there is one
pub record Hint : Type 0 where
  pub number : ℤ
  pub advice : Advice

-- for the condition k
abbrev pub is_for : ℕ → ℤ → Bool
is_for k (pos n) = n == k
is_for k (negsuc n) = false

-- the proof that is offered, by its number; none for no condition
abbrev pub proof_offered : Advice → ℤ → List Entry
proof_offered (By p) (pos n) = record { number = n; proof = p } ∷ []
proof_offered a n = []

-- the terms that are offered
abbrev pub terms_offered : Advice → List Term
terms_offered (Use ts) = ts
terms_offered a = []

-- the formula that is offered
abbrev pub formula_offered : Advice → List Formula
formula_offered (Cut f) = f ∷ []
formula_offered a = []

-- all proofs that are offered, in their order
abbrev pub proofs_of : List Hint → List Entry
proofs_of hs = concat_map (λ (h : Hint). proof_offered h.advice h.number) hs

-- all terms that are offered for the condition k, in their order
abbrev pub terms_for : ℕ → List Hint → List Term
terms_for k hs = concat_map (λ (h : Hint). if is_for k h.number then terms_offered h.advice else []) hs

-- all formulas that are offered for the condition k, in their order
abbrev pub formulas_for : ℕ → List Hint → List Formula
formulas_for k hs = concat_map (λ (h : Hint). if is_for k h.number then formula_offered h.advice else []) hs
