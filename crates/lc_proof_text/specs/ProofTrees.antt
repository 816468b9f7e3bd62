-- The s-expression that is printed of a proof, and which proofs read back.
use Rattle.std.specs.Prelude.{◌≡◌, ℤ, true, false, codes, List, [], ◌∷◌}
use Rattle.std.specs.Fmt.{signed_decimal}
use Rattle.lc_sexp.specs.Trees.{Tree, Trees, atom, list, none, ◌▸◌}
use Rattle.lc_sexp.specs.Parts.{fits_i64}
use Rattle.lc_term.specs.Lists.{Every}
use Rattle.lc_text.specs.Names.{Names}
use Rattle.lc_text.specs.Spelling.{Spelled}
use Rattle.lc_text.specs.SpelledTree.{term_tree, column_tree, formula_tree, TermReadsBack, ColumnReadsBack, FormulaReadsBack}
use Rattle.lc_kernel.specs.Proofs as S
use Rattle.lc_kernel.specs.Proofs.{Step, Split, Cases, Push, Instantiate, Fresh, Cut, Written, Same, Affine, Trichotomy, Divide, Sum, Opposite, Open}
use Rattle.lc_kernel.specs.Proofs.{Proof, Proofs, proof, more}
use Rattle.lc_proof_text.specs.Heads.{later, is_met, is_full}
use Rattle.lc_proof_text.specs.declared.head.Due.{Due}
use Rattle.lc_proof_text.specs.declared.head.Due.TheVariants.{Nothing, One, Two, Any}

abbrev pub number_tree : ℤ → Tree
number_tree n = atom (signed_decimal n)

-- what is printed of multiples, followed by these
abbrev pub multiple_trees : List (ℤ × ℤ) → Trees → Trees
multiple_trees [] ts = ts
multiple_trees (m ∷ ms) ts = list (number_tree m.0 ▸ number_tree m.1 ▸ none) ▸ multiple_trees ms ts

-- what is printed of a step's word and of its own parts, followed by these
abbrev pub step_trees : Spelled → Step → Trees → Trees
step_trees by (Split h) ts = atom (codes "split") ▸ number_tree h ▸ ts
step_trees by (Cases h) ts = atom (codes "cases") ▸ number_tree h ▸ ts
step_trees by (Push h) ts = atom (codes "push") ▸ number_tree h ▸ ts
step_trees by (Instantiate h t) ts = atom (codes "inst") ▸ number_tree h ▸ term_tree by 0 t ▸ ts
step_trees by (Fresh h) ts = atom (codes "fresh") ▸ number_tree h ▸ ts
step_trees by (Cut f) ts = atom (codes "cut") ▸ formula_tree by 0 f ▸ ts
step_trees by (Written c i v j) ts = atom (codes "written") ▸ column_tree by 0 c ▸ term_tree by 0 i ▸ term_tree by 0 v ▸ term_tree by 0 j ▸ ts
step_trees by (Same c i j) ts = atom (codes "same") ▸ column_tree by 0 c ▸ term_tree by 0 i ▸ term_tree by 0 j ▸ ts
step_trees by (Affine a b i) ts = atom (codes "affine") ▸ number_tree a ▸ number_tree b ▸ term_tree by 0 i ▸ ts
step_trees by (Trichotomy h) ts = atom (codes "trich") ▸ number_tree h ▸ ts
step_trees by (Divide h k f) ts = atom (codes "divide") ▸ number_tree h ▸ number_tree k ▸ formula_tree by 0 f ▸ ts
step_trees by (Sum ms) ts = atom (codes "sum") ▸ multiple_trees ms ts
step_trees by (Opposite h g) ts = atom (codes "opposite") ▸ number_tree h ▸ number_tree g ▸ ts
step_trees by Open ts = atom (codes "open") ▸ ts

abbrev mutual
  -- what is printed of a proof
  pub proof_tree : Spelled → Proof → Tree
  proof_tree by (proof s ps) = list (step_trees by s (proof_trees by ps))

  pub proof_trees : Spelled → Proofs → Trees
  proof_trees by S.none = none
  proof_trees by (more p ps) = proof_tree by p ▸ proof_trees by ps

-- how many proofs come after a step
abbrev pub due_behind : Step → Due
due_behind (Split h) = One
due_behind (Cases h) = Any
due_behind (Push h) = One
due_behind (Instantiate h t) = One
due_behind (Fresh h) = One
due_behind (Cut f) = Two
due_behind (Written c i v j) = One
due_behind (Same c i j) = One
due_behind (Affine a b i) = One
due_behind (Trichotomy h) = Two
due_behind (Divide h k f) = One
due_behind (Sum ms) = Nothing
due_behind (Opposite h g) = Nothing
due_behind Open = Nothing

-- there are as many
abbrev pub AreDue : Due → Proofs → Type 0
AreDue due S.none = is_met due ≡ true
AreDue due (more p ps) = (is_full due ≡ false) × AreDue (later due) ps

-- the parts of a step read back: its numbers have 64 bits, and its terms, columns and formulas read back
abbrev pub StepReadsBack : Names → Spelled → Step → Type 0
StepReadsBack names by (Split h) = fits_i64 h ≡ true
StepReadsBack names by (Cases h) = fits_i64 h ≡ true
StepReadsBack names by (Push h) = fits_i64 h ≡ true
StepReadsBack names by (Instantiate h t) = (fits_i64 h ≡ true) × TermReadsBack names by 0 t
StepReadsBack names by (Fresh h) = fits_i64 h ≡ true
StepReadsBack names by (Cut f) = FormulaReadsBack names by 0 f
StepReadsBack names by (Written c i v j) = ColumnReadsBack names by 0 c × TermReadsBack names by 0 i × TermReadsBack names by 0 v × TermReadsBack names by 0 j
StepReadsBack names by (Same c i j) = ColumnReadsBack names by 0 c × TermReadsBack names by 0 i × TermReadsBack names by 0 j
StepReadsBack names by (Affine a b i) = (fits_i64 a ≡ true) × (fits_i64 b ≡ true) × TermReadsBack names by 0 i
StepReadsBack names by (Trichotomy h) = fits_i64 h ≡ true
StepReadsBack names by (Divide h k f) = (fits_i64 h ≡ true) × (fits_i64 k ≡ true) × FormulaReadsBack names by 0 f
StepReadsBack names by (Sum ms) = Every (λ (m : ℤ × ℤ). (fits_i64 m.0 ≡ true) × (fits_i64 m.1 ≡ true)) ms
StepReadsBack names by (Opposite h g) = (fits_i64 h ≡ true) × (fits_i64 g ≡ true)
StepReadsBack names by Open = Unit {0}

abbrev mutual
  -- a proof reads back: the parts of each step do, and after each come as many proofs as are expected
  pub ProofReadsBack : Names → Spelled → Proof → Type 0
  ProofReadsBack names by (proof s ps) = StepReadsBack names by s × AreDue (due_behind s) ps × ProofsReadBack names by ps

  pub ProofsReadBack : Names → Spelled → Proofs → Type 0
  ProofsReadBack names by S.none = Unit {0}
  ProofsReadBack names by (more p ps) = ProofReadsBack names by p × ProofsReadBack names by ps
