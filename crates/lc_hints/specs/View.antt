-- What a hint of the code stands for.
use Rattle.std.specs.Prelude.{ℤ, map}
use Rattle.lc_term.specs.Syntax as T
use Rattle.lc_term.specs.declared.formula.Formula.{Formula}
use Rattle.lc_kernel.specs.Proofs as K
use Rattle.lc_kernel.specs.declared.proof.Proof.{Proof}
use Rattle.lc_term.specs.View.{term_of, formula_of}
use Rattle.lc_kernel.specs.View.{proof_of}
use Rattle.lc_hints.specs.Hints as S
use Rattle.lc_hints.specs.declared.hint.Advice.{Advice}
use Rattle.lc_hints.specs.declared.hint.Advice.TheVariants.{Use, Cut, By}
use Rattle.lc_hints.specs.declared.hint.Hint.{Hint}

abbrev pub advice_of : Advice → S.Advice
advice_of (Use ts) = S.Use (map term_of ts.items)
advice_of (Cut f) = S.Cut (formula_of f)
advice_of (By p) = S.By (proof_of p)

abbrev pub hint_of : Hint → S.Hint
hint_of h = record { number = h.number; advice = advice_of h.advice }

-- a number with a formula, and with a proof
abbrev pub cut_parts : ℤ × Formula → ℤ × T.Formula
cut_parts p = (p.0, formula_of p.1)

abbrev pub by_parts : ℤ × Proof → ℤ × K.Proof
by_parts p = (p.0, proof_of p.1)
