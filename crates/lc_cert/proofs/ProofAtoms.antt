-- The same for proofs.
use Rattle.std.proofs.Common.{◌≡◌, ℤ, true, List, [], ◌∷◌, refl, arith}
use Rattle.lc_sexp.specs.Parts.{fits_i64}
use Rattle.lc_sexp.specs.Printed.{HasAtoms, HaveAtoms}
use Rattle.lc_sexp.specs.Text.{class_of}
use Rattle.lc_sexp.specs.Trees.{Trees}
use Rattle.lc_kernel.specs.Proofs as S
use Rattle.lc_kernel.specs.Proofs.{Step, Split, Cases, Push, Instantiate, Fresh, Cut, Written, Same, Affine, Trichotomy, Divide, Sum, Opposite, Open}
use Rattle.lc_kernel.specs.Proofs.{Proof, Proofs, proof, more}
use Rattle.lc_term.specs.Lists.{Every}
use Rattle.lc_term.specs.Syntax.{Term, Column, Formula}
use Rattle.lc_text.specs.Names.{Names}
use Rattle.lc_text.specs.Spelling.{Spelled}
use Rattle.lc_text.specs.SpelledTree.{term_tree, column_tree, formula_tree, TermReadsBack, ColumnReadsBack, FormulaReadsBack}
use Rattle.lc_proof_text.specs.ProofTrees.{multiple_trees, step_trees, proof_tree, proof_trees, StepReadsBack, ProofReadsBack, ProofsReadBack}
use Rattle.lc_cert.proofs.Atoms.{number_atom, term_atoms, column_atoms, formula_atoms}

multiples_atoms : (ms : List (ℤ × ℤ)) (ts : Trees) → Every (λ (m : ℤ × ℤ). (fits_i64 m.0 ≡ true) × (fits_i64 m.1 ≡ true)) ms → HaveAtoms ts → HaveAtoms (multiple_trees ms ts)
multiples_atoms [] ts h k = k
multiples_atoms (m ∷ ms) ts h k = ((number_atom m.0 h.0.0, (number_atom m.1 h.0.1, tt)), multiples_atoms ms ts h.1 k)

module _ (names : Names) (by : Spelled) where
  term : (t : Term) → TermReadsBack names by 0 t → HasAtoms (term_tree by 0 t)
  term t r = term_atoms names by 0 t (omega arith) r

  column : (c : Column) → ColumnReadsBack names by 0 c → HasAtoms (column_tree by 0 c)
  column c r = column_atoms names by 0 c (omega arith) r

  formula : (f : Formula) → FormulaReadsBack names by 0 f → HasAtoms (formula_tree by 0 f)
  formula f r = formula_atoms names by 0 f (omega arith) r

  step_atoms : (s : Step) (ts : Trees) → StepReadsBack names by s → HaveAtoms ts → HaveAtoms (step_trees by s ts)
  unfolding class_of
  step_atoms (Split h) ts r k = (refl, (number_atom h r, k))
  step_atoms (Cases h) ts r k = (refl, (number_atom h r, k))
  step_atoms (Push h) ts r k = (refl, (number_atom h r, k))
  step_atoms (Instantiate h t) ts r k = (refl, (number_atom h r.0, (term t r.1, k)))
  step_atoms (Fresh h) ts r k = (refl, (number_atom h r, k))
  step_atoms (Cut f) ts r k = (refl, (formula f r, k))
  step_atoms (Written c i v j) ts r k = (refl, (column c r.0, (term i r.1, (term v r.2, (term j r.3, k)))))
  step_atoms (Same c i j) ts r k = (refl, (column c r.0, (term i r.1, (term j r.2, k))))
  step_atoms (Affine a b i) ts r k = (refl, (number_atom a r.0, (number_atom b r.1, (term i r.2, k))))
  step_atoms (Trichotomy h) ts r k = (refl, (number_atom h r, k))
  step_atoms (Divide h d f) ts r k = (refl, (number_atom h r.0, (number_atom d r.1, (formula f r.2, k))))
  step_atoms (Sum ms) ts r k = (refl, multiples_atoms ms ts r k)
  step_atoms (Opposite h g) ts r k = (refl, (number_atom h r.0, (number_atom g r.1, k)))
  step_atoms Open ts r k = (refl, k)

  mutual
    pub proof_atoms : (p : Proof) → ProofReadsBack names by p → HasAtoms (proof_tree by p)
    proof_atoms (proof s ps) r = step_atoms s (proof_trees by ps) r.0 (proofs_atoms ps r.2)

    proofs_atoms : (ps : Proofs) → ProofsReadBack names by ps → HaveAtoms (proof_trees by ps)
    proofs_atoms S.none r = tt
    proofs_atoms (more p ps) r = (proof_atoms p r.0, proofs_atoms ps r.1)
