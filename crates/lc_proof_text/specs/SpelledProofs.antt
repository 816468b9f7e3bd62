-- The text that is printed of a proof.
use Rattle.std.specs.Prelude.{ℕ, ℤ, codes, List, [], ◌∷◌, ◌++◌}
use Rattle.std.specs.Fmt.{signed_decimal}
use Rattle.lc_text.specs.Spelling.{Spelled}
use Rattle.lc_text.specs.Spelled.{spaced, spelled_term, spelled_column, spelled_formula}
use Rattle.lc_kernel.specs.Proofs.{Step, Split, Cases, Push, Instantiate, Fresh, Cut, Written, Same, Affine, Trichotomy, Divide, Sum, Opposite, Open}
use Rattle.lc_kernel.specs.Proofs.{Proof, Proofs, proof, none, more}

-- a number after a space
abbrev pub spaced_number : ℤ → List ℕ
spaced_number n = spaced (signed_decimal n)

abbrev pub spelled_multiple : ℤ × ℤ → List ℕ
spelled_multiple m = codes "(" ++ signed_decimal m.0 ++ spaced_number m.1 ++ codes ")"

-- multiples, each after a space
abbrev pub spelled_multiples : List (ℤ × ℤ) → List ℕ
spelled_multiples [] = []
spelled_multiples (m ∷ ms) = spaced (spelled_multiple m) ++ spelled_multiples ms

-- a step's word, and the parts that come before its proofs
abbrev pub spelled_step : Spelled → Step → List ℕ
spelled_step by (Split h) = codes "split" ++ spaced_number h
spelled_step by (Cases h) = codes "cases" ++ spaced_number h
spelled_step by (Push h) = codes "push" ++ spaced_number h
spelled_step by (Instantiate h t) = codes "inst" ++ spaced_number h ++ spaced (spelled_term by 0 t)
spelled_step by (Fresh h) = codes "fresh" ++ spaced_number h
spelled_step by (Cut f) = codes "cut" ++ spaced (spelled_formula by 0 f)
spelled_step by (Written c i v j) =
    codes "written" ++ spaced (spelled_column by 0 c) ++ spaced (spelled_term by 0 i) ++ spaced (spelled_term by 0 v) ++ spaced (spelled_term by 0 j)
spelled_step by (Same c i j) = codes "same" ++ spaced (spelled_column by 0 c) ++ spaced (spelled_term by 0 i) ++ spaced (spelled_term by 0 j)
spelled_step by (Affine a b i) = codes "affine" ++ spaced_number a ++ spaced_number b ++ spaced (spelled_term by 0 i)
spelled_step by (Trichotomy h) = codes "trich" ++ spaced_number h
spelled_step by (Divide h k f) = codes "divide" ++ spaced_number h ++ spaced_number k ++ spaced (spelled_formula by 0 f)
spelled_step by (Sum ms) = codes "sum" ++ spelled_multiples ms
spelled_step by (Opposite h g) = codes "opposite" ++ spaced_number h ++ spaced_number g
spelled_step by Open = codes "open"

abbrev mutual
  pub spelled_proof : Spelled → Proof → List ℕ
  spelled_proof by (proof s ps) = codes "(" ++ spelled_step by s ++ spelled_proofs by ps ++ codes ")"

  -- proofs, each after a space
  pub spelled_proofs : Spelled → Proofs → List ℕ
  spelled_proofs by none = []
  spelled_proofs by (more p ps) = spaced (spelled_proof by p) ++ spelled_proofs by ps
