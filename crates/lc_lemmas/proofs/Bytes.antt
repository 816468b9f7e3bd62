-- Bytes of a text.
use Rattle.std.proofs.Common.{◌≡◌, ℕ, Bool, true, false, cond, List, ◌∷◌, refl, sym, ap, arith}
use Rattle.std.specs.Prelude.{◌==◌}
use Rattle.std.proofs.lemmas.Bool.Decides.{nat_tests}

pub plain_byte : (b : ℕ) (t : Bool) (s r : List ℕ) → (b == 10) ≡ t → (b == 59) ≡ false → cond t (10 ∷ s) (cond (b == 59) (32 ∷ r) (b ∷ s)) ≡ b ∷ s
plain_byte b true s r e h = let k : b ≡ 10 = grind (arith, nat_tests) in ap (λ x. x ∷ s) (sym k)
plain_byte b false s r e h = rw h refl
