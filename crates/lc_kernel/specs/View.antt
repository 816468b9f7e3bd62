-- The plain trees that the proofs of the code stand for.
use Rattle.std.specs.Prelude.{ℤ, List, map}
use Rattle.lc_term.specs.View.{term_of, column_of, formula_of}
use Rattle.lc_kernel.specs.Proofs as S
use Rattle.lc_kernel.specs.declared.proof.Multiple.{Multiple}
use Rattle.lc_kernel.specs.declared.proof.Step.{Step}
use Rattle.lc_kernel.specs.declared.proof.Step.TheVariants.{Split, Cases, Push, Instantiate, Fresh, Cut, Written, Same, Affine, Trichotomy, Divide, Sum, Opposite, Open}
use Rattle.lc_kernel.specs.declared.proof.Proof.{Proof, fold-Proof}
use Rattle.lc_kernel.specs.declared.proof.Proof.TheOpen.{Proof-F}

-- the number of a hypothesis, and its multiplier
abbrev pub multiple_of : Multiple → ℤ × ℤ
multiple_of m = (m.hypothesis, m.multiplier)

-- the step
abbrev pub step_of : Step → S.Step
step_of (Split h) = S.Split h
step_of (Cases h) = S.Cases h
step_of (Push h) = S.Push h
step_of (Instantiate h t) = S.Instantiate h (term_of t.value)
step_of (Fresh h) = S.Fresh h
step_of (Cut f) = S.Cut (formula_of f.value)
step_of (Written a) = S.Written (column_of a.value.column) (term_of a.value.index) (term_of a.value.value) (term_of a.value.other)
step_of (Same a) = S.Same (column_of a.value.column) (term_of a.value.index) (term_of a.value.other)
step_of (Affine m n i) = S.Affine m n (term_of i.value)
step_of (Trichotomy h) = S.Trichotomy h
step_of (Divide h k f) = S.Divide h k (formula_of f.value)
step_of (Sum es) = S.Sum (map multiple_of es.items)
step_of (Opposite h g) = S.Opposite h g
step_of Open = S.Open

-- one level of a proof, the proofs below it being seen as their trees already
abbrev pub proof_step : Proof-F S.Proof → S.Proof
proof_step p = S.proof (step_of p.step) (S.proofs p.branches.items)

-- the tree of a proof
abbrev pub proof_of : Proof → S.Proof
proof_of = fold-Proof S.Proof proof_step

-- the trees of a list of proofs
abbrev pub proofs_of : List Proof → List S.Proof
proofs_of ps = map proof_of ps
