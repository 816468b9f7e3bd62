-- What a formula file reads as.
use Rattle.std.specs.Prelude.{ℕ, ◌+◌, List, [], length, codes, Option, Some, None, Vec}
use Rattle.std.specs.declared.alloc.Global.{Global}
use Rattle.lc_base.specs.Limits.{column_limit}
use Rattle.lc_sexp.specs.Trees.{Tree, Trees, none, ◌▸◌, item_count, item_count_of_all}
use Rattle.lc_term.specs.Syntax.{Formula, Formulas, formulas}
use Rattle.lc_table.specs.Tables.{formula_in, formulas_in, IsFormula, AreFormulas}
use Rattle.lc_term.specs.View.{formula_of, formulas_of}
use Rattle.lc_term.specs.declared.formula.Formula.{Formula as SeenFormula}
use Rattle.lc_kernel.specs.Proofs as S
use Rattle.lc_kernel.specs.View.{proof_of}
use Rattle.lc_reading.specs.Naming.{names_reading}
use Rattle.lc_reading.specs.Readings.{Reading, wrong, both, ended, behind_reading}
use Rattle.lc_reading.specs.declared.pass.Pass.TheVariants.{Shape}
use Rattle.lc_text.specs.Formulas.{formula_reading, formulas_reading}
use Rattle.lc_text.specs.Seen.{row_of}
use Rattle.lc_text.specs.Terms.{pair}
use Rattle.lc_proof_text.specs.FileNames.{Declared, declared_by, claim_names, proof_names}
use Rattle.lc_proof_text.specs.Proofs.{proof_reading}
use Rattle.lc_proof_text.specs.declared.claim.ClaimTrees.{ClaimTrees}
use Rattle.lc_proof_text.specs.declared.claim.FormulaFile.{FormulaFile}

-- How many variables there are, the hypotheses, the goal, and its proof
pub record Claim : Type 0 where
  pub variables : ℕ
  pub hypotheses : Formulas
  pub goal : Formula
  pub proof : S.Proof

-- a claim in trees, as it is seen
abbrev pub seen_claim : ClaimTrees → Claim
seen_claim c = record { variables = c.variables; hypotheses = formulas (formulas_of c.hypotheses.items); goal = formula_of c.goal; proof = proof_of c.proof }

-- a goal and a proof, as they are seen: its formulas are those that their numbers have in the table
abbrev pub claim_in : FormulaFile → Claim
claim_in file =
    record {
      variables = file.goal.vars;
      hypotheses = formulas (formulas_in file.terms file.goal.hypotheses);
      goal = formula_in file.terms file.goal.goal;
      proof = proof_of file.proof;
    }

-- the table has a formula for each number in the goal
abbrev pub AreEntered : FormulaFile → Type 0
AreEntered file = AreFormulas file.terms file.goal.hypotheses × IsFormula file.terms file.goal.goal

-- hypotheses and a goal, as they are seen
abbrev pub seen_statement : Vec SeenFormula Global × SeenFormula → Formulas × Formula
seen_statement s = (row_of s.0, formula_of s.1)

-- (WORD NAME*), with a limit on all names: the item n
abbrev pub section_reading : List ℕ → Option ℕ → ℕ → Tree → Reading (Unit {0})
section_reading word limit n t = behind_reading word (λ n m ts. names_reading limit [] m ts) n t

-- (vars NAME*) (cols NAME*): the items i and j
abbrev pub declarations_reading : ℕ → Tree → ℕ → Tree → Reading (Unit {0})
declarations_reading i v j c = both (λ x y. y) (section_reading (codes "vars") None i v) (section_reading (codes "cols") (Some column_limit) j c)

-- one part from m on of the list n, and no other
abbrev pub only : {X : Type 0} → (ℕ → Tree → Reading X) → ℕ → ℕ → Trees → Reading X
only read n m none = wrong Shape n
only read n m (t ▸ ts) = ended (m + item_count t) ts (read m t)

-- (hyps F*), where these names are declared
abbrev pub hypotheses_reading : Declared → ℕ → Tree → Reading Formulas
hypotheses_reading d n t = behind_reading (codes "hyps") (λ n m ts. formulas_reading (claim_names d) [] m ts) n t

-- (goal F)
abbrev pub goal_reading : Declared → ℕ → Tree → Reading Formula
goal_reading d n t = behind_reading (codes "goal") (only (formula_reading (claim_names d) [])) n t

-- (proof P)
abbrev pub shown_reading : Declared → ℕ → Tree → Reading S.Proof
shown_reading d n t = behind_reading (codes "proof") (only (proof_reading (proof_names d))) n t

-- the hypotheses and the goal
abbrev pub statement_reading : Declared → ℕ → Tree → ℕ → Tree → Reading (Formulas × Formula)
statement_reading d i h j g = both pair (hypotheses_reading d i h) (goal_reading d j g)

abbrev pub claim_of : ℕ → Formulas × Formula → S.Proof → Claim
claim_of n s p = record { variables = n; hypotheses = s.0; goal = s.1; proof = p }

-- these with the proof
abbrev pub claim_reading : Declared → ℕ → Tree → ℕ → Tree → ℕ → Tree → Reading Claim
claim_reading d i h j g k p = both (claim_of (length d.variables)) (statement_reading d i h j g) (shown_reading d k p)

-- VARS COLS HYPS GOAL PROOF: the parts of the list n, numbered from m on
abbrev pub sections_reading : ℕ → ℕ → Trees → Reading Claim
sections_reading n m (v ▸ c ▸ h ▸ g ▸ p ▸ ts) =
    let at_c = m + item_count v in
    let at_h = at_c + item_count c in
    let at_g = at_h + item_count h in
    let at_p = at_g + item_count g in
    ended (at_p + item_count p) ts (both (λ x y. y) (declarations_reading m v at_c c) (claim_reading (declared_by v c) at_h h at_g g at_p p))
sections_reading n m _ = wrong Shape n

-- (formula VARS COLS HYPS GOAL PROOF): the item n
abbrev pub form_reading : ℕ → Tree → Reading Claim
form_reading n t = behind_reading (codes "formula") sections_reading n t

-- The form of the file, and no other. A missing one is reported at the number of items
abbrev pub file_reading : Trees → Reading Claim
file_reading ts = only form_reading (item_count_of_all ts) 0 ts
