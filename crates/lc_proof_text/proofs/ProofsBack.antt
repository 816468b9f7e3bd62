-- What is printed of a proof reads back.
use Rattle.std.proofs.Common.{◌≡◌, ℕ, ℤ, true, true≢false, List, [], ◌∷◌, refl, ap, ◌∙◌, arith}
use Rattle.std.proofs.lemmas.Bool.{cond-true, cond-false}
use Rattle.lc_sexp.specs.Parts.{fits_i64}
use Rattle.lc_sexp.specs.Trees.{none}
use Rattle.lc_reading.specs.Readings.{fine, mapped}
use Rattle.lc_term.specs.Lists.{Every}
use Rattle.lc_term.specs.Syntax.{Term, Column, Formula}
use Rattle.lc_text.specs.Names.{Names}
use Rattle.lc_text.specs.Spelling.{Spelled}
use Rattle.lc_text.specs.SpelledTree.{term_tree, column_tree, formula_tree, TermReadsBack, ColumnReadsBack, FormulaReadsBack}
use Rattle.lc_text.specs.Terms.{pair, fit_reading, number_reading, term_reading, column_reading}
use Rattle.lc_text.specs.Formulas.{formula_reading}
use Rattle.lc_text.proofs.Numerals.{integer_fit-signed}
use Rattle.lc_text.proofs.ReadBack.{term_back, column_back, formula_back, two_back}
use Rattle.lc_kernel.specs.Proofs as S
use Rattle.lc_kernel.specs.Proofs.{Split, Cases, Push, Instantiate, Fresh, Cut, Written, Same, Affine, Trichotomy, Divide, Sum, Opposite, Open}
use Rattle.lc_kernel.specs.Proofs.{Proof, Proofs, proof, more}
use Rattle.lc_proof_text.specs.Heads.{later, is_met, is_full}
use Rattle.lc_proof_text.specs.ProofTrees.{number_tree, multiple_trees, proof_tree, proof_trees, AreDue, ProofReadsBack, ProofsReadBack}
use Rattle.lc_proof_text.specs.Proofs.{proof_reading, proofs_reading}
use Rattle.lc_proof_text.specs.Steps as R
use Rattle.lc_proof_text.specs.Steps.{multiples_reading}
use Rattle.lc_proof_text.specs.declared.head.Due.{Due}
use Rattle.lc_proof_text.specs.declared.head.Head.TheVariants as H

number_back : (n : ℕ) (z : ℤ) → fits_i64 z ≡ true → number_reading n (number_tree z) ≡ fine z
number_back n z h = ap (fit_reading n) (integer_fit-signed z h)

multiples_back : (ms : List (ℤ × ℤ)) (m : ℕ) → Every (λ (e : ℤ × ℤ). (fits_i64 e.0 ≡ true) × (fits_i64 e.1 ≡ true)) ms → multiples_reading m (multiple_trees ms none) ≡ fine ms
multiples_back [] m h = refl
multiples_back (e ∷ ms) m h =
    two_back (λ x xs. x ∷ xs) _ _ e ms (two_back pair _ _ e.0 e.1 (number_back _ e.0 h.0.0) (number_back _ e.1 h.0.1)) (multiples_back ms _ h.1)

module _ (names : Names) (by : Spelled) where
  term : (n : ℕ) (t : Term) → TermReadsBack names by 0 t → term_reading names [] n (term_tree by 0 t) ≡ fine t
  term n t r = term_back names by 0 n t (omega arith) r

  column : (reader n : ℕ) (c : Column) → ColumnReadsBack names by 0 c → column_reading names [] reader n (column_tree by 0 c) ≡ fine c
  column reader n c r = column_back names by 0 reader n c (omega arith) r

  formula : (n : ℕ) (f : Formula) → FormulaReadsBack names by 0 f → formula_reading names [] n (formula_tree by 0 f) ≡ fine f
  formula n f r = formula_back names by 0 n f (omega arith) r

  -- the column and the index, the two terms, and the two numbers of a step
  cell : (n i j : ℕ) (c : Column) (t : Term) → ColumnReadsBack names by 0 c → TermReadsBack names by 0 t → R.cell_reading names n i (column_tree by 0 c) j (term_tree by 0 t) ≡ fine (c, t)
  cell n i j c t r q = two_back pair _ _ c t (column n i c r) (term j t q)

  terms : (i j : ℕ) (t u : Term) → TermReadsBack names by 0 t → TermReadsBack names by 0 u → R.two_terms names i (term_tree by 0 t) j (term_tree by 0 u) ≡ fine (t, u)
  terms i j t u r q = two_back pair _ _ t u (term i t r) (term j u q)

  numbers : (i j : ℕ) (a b : ℤ) → fits_i64 a ≡ true → fits_i64 b ≡ true → R.two_numbers i (number_tree a) j (number_tree b) ≡ fine (a, b)
  numbers i j a b h g = two_back pair _ _ a b (number_back i a h) (number_back j b g)

  mutual
    proof_at : (p : Proof) (n : ℕ) → ProofReadsBack names by p → proof_reading names n (proof_tree by p) ≡ fine p
    proof_at (proof (Split h) ps) n r =
        two_back proof _ _ (Split h) ps (ap (mapped (R.hypothesis_step H.Split)) (number_back _ h r.0)) (proofs_at ps n _ _ r.1 r.2)
    proof_at (proof (Cases h) ps) n r =
        two_back proof _ _ (Cases h) ps (ap (mapped (R.hypothesis_step H.Cases)) (number_back _ h r.0)) (proofs_at ps n _ _ r.1 r.2)
    proof_at (proof (Push h) ps) n r =
        two_back proof _ _ (Push h) ps (ap (mapped (R.hypothesis_step H.Push)) (number_back _ h r.0)) (proofs_at ps n _ _ r.1 r.2)
    proof_at (proof (Instantiate h t) ps) n r =
        two_back proof _ _ (Instantiate h t) ps (two_back Instantiate _ _ h t (number_back _ h r.0.0) (term _ t r.0.1)) (proofs_at ps n _ _ r.1 r.2)
    proof_at (proof (Fresh h) ps) n r =
        two_back proof _ _ (Fresh h) ps (ap (mapped (R.hypothesis_step H.Fresh)) (number_back _ h r.0)) (proofs_at ps n _ _ r.1 r.2)
    proof_at (proof (Cut f) ps) n r = two_back proof _ _ (Cut f) ps (ap (mapped Cut) (formula _ f r.0)) (proofs_at ps n _ _ r.1 r.2)
    proof_at (proof (Written c i v j) ps) n r =
        two_back proof _ _ (Written c i v j) ps
        (two_back (λ (p : Column × Term) (q : Term × Term). Written p.0 p.1 q.0 q.1) _ _ (c, i) (v, j) (cell n _ _ c i r.0.0 r.0.1) (terms _ _ v j r.0.2 r.0.3))
        (proofs_at ps n _ _ r.1 r.2)
    proof_at (proof (Same c i j) ps) n r =
        two_back proof _ _ (Same c i j) ps (two_back (λ (p : Column × Term) (k : Term). Same p.0 p.1 k) _ _ (c, i) j (cell n _ _ c i r.0.0 r.0.1) (term _ j r.0.2)) (proofs_at ps n _ _ r.1 r.2)
    proof_at (proof (Affine a b i) ps) n r =
        two_back proof _ _ (Affine a b i) ps (two_back (λ (p : ℤ × ℤ) (k : Term). Affine p.0 p.1 k) _ _ (a, b) i (numbers _ _ a b r.0.0 r.0.1) (term _ i r.0.2)) (proofs_at ps n _ _ r.1 r.2)
    proof_at (proof (Trichotomy h) ps) n r =
        two_back proof _ _ (Trichotomy h) ps (ap (mapped (R.hypothesis_step H.Trichotomy)) (number_back _ h r.0)) (proofs_at ps n _ _ r.1 r.2)
    proof_at (proof (Divide h k f) ps) n r =
        two_back proof _ _ (Divide h k f) ps (two_back (λ (p : ℤ × ℤ) (g : Formula). Divide p.0 p.1 g) _ _ (h, k) f (numbers _ _ h k r.0.0 r.0.1) (formula _ f r.0.2)) (proofs_at ps n _ _ r.1 r.2)
    proof_at (proof (Sum ms) S.none) n r = ap (mapped (λ (xs : List (ℤ × ℤ)). proof (Sum xs) S.none)) (multiples_back ms _ r.0)
    proof_at (proof (Sum ms) (more p ps)) n r = absurd (true≢false r.1.0)
    proof_at (proof (Opposite h g) ps) n r =
        two_back proof _ _ (Opposite h g) ps (two_back Opposite _ _ h g (number_back _ h r.0.0) (number_back _ g r.0.1)) (proofs_at ps n _ _ r.1 r.2)
    proof_at (proof Open ps) n r = two_back proof _ _ Open ps refl (proofs_at ps n _ _ r.1 r.2)

    proofs_at : (ps : Proofs) (n : ℕ) (due : Due) (m : ℕ) → AreDue due ps → ProofsReadBack names by ps → proofs_reading names n 0 due m (proof_trees by ps) ≡ fine ps
    proofs_at S.none n due m h r = cond-true (is_met due) _ _ h
    proofs_at (more p ps) n due m h r =
        cond-false (is_full due) _ _ h.0 ∙ two_back more _ _ p ps (proof_at p m r.0) (proofs_at ps n (later due) _ h.1 r.1)

pub proof_back : (names : Names) (by : Spelled) (n : ℕ) (p : Proof) → ProofReadsBack names by p → proof_reading names n (proof_tree by p) ≡ fine p
proof_back names by n p r = proof_at names by p n r
