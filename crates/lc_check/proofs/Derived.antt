-- Conditions that are proved are derived.
use Rattle.std.proofs.Common.{ℕ, suc, List, [], ◌∷◌, Option, Some, None}
use Rattle.lc_term.specs.Lists.{Every}
use Rattle.lc_kernel.specs.Proofs.{Proof}
use Rattle.lc_cert.specs.Certificates.{Entry, proof_at}
use Rattle.lc_cond.specs.Conditions.{Condition}
use Rattle.lc_cond.specs.Uses.{UsesItsVariables}
use Rattle.lc_sound.specs.Derived.{IsDerived}
use Rattle.lc_check.specs.Verdicts.{IsProved, AreProved}

one_derived : (c : Condition) (o : Option Proof) → UsesItsVariables c → IsProved c o → IsDerived c
one_derived c None uses h = absurd h
one_derived c (Some p) uses h = record { hypotheses = uses.0; goal = uses.1; proof = p; derives = h }

pub all_derived : (es : List Entry) (k : ℕ) (cs : List Condition) → Every UsesItsVariables cs → AreProved es k cs → Every IsDerived cs
all_derived es k [] uses h = tt
all_derived es k (c ∷ cs) uses h = (one_derived c (proof_at es k) uses.0 h.0, all_derived es (suc k) cs uses.1 h.1)
