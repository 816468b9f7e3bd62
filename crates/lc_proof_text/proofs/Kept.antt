-- Proofs that are read read back, if names are spelled as they are read.
use Rattle.std.proofs.Common.{◌≡◌, ℕ, ℤ, zero, suc, ◌+◌, ◌≤◌, ◌⊎◌, inl, inr, Bool, true, false, cond, [], ◌∷◌, Option, Some, None, refl, sym, subst, arith}
use Rattle.std.specs.Prelude.{codes}
use Rattle.lc_sexp.specs.Parts.{fits_i64}
use Rattle.lc_sexp.specs.Trees.{Tree, Trees, atom, list, none, ◌▸◌, item_count, item_count_of_all}
use Rattle.lc_reading.proofs.Fine.{IfFine, cond_fine, mapped_fine, both_fine}
use Rattle.lc_reading.specs.Readings.{Reading, fine, flawed, wrong, both}
use Rattle.lc_reading.specs.Words.{is}
use Rattle.lc_reading.specs.declared.flaw.Flaw.{Flaw}
use Rattle.lc_reading.specs.declared.pass.Pass.TheVariants.{Shape}
use Rattle.lc_term.specs.Lists.{Every}
use Rattle.lc_term.specs.Syntax.{Term, Column}
use Rattle.lc_text.specs.Terms.{pair, number_reading, term_reading}
use Rattle.lc_text.specs.Formulas.{formula_reading}
use Rattle.lc_kernel.specs.Proofs as S
use Rattle.lc_kernel.specs.Proofs.{Step, Proof, Proofs, proof, more}
use Rattle.lc_proof_text.specs.Heads.{head_of, own_parts, proofs_due, later, is_met, is_full}
use Rattle.lc_proof_text.specs.ProofTrees.{due_behind, AreDue, StepReadsBack, ProofReadsBack, ProofsReadBack}
use Rattle.lc_proof_text.specs.Proofs.{sum_reading, headed_reading, proof_reading, proofs_reading}
use Rattle.lc_proof_text.specs.Steps.{multiple_reading, multiples_reading, two_numbers, two_terms, cell_reading, hypothesis_step, step_reading}
use Rattle.lc_proof_text.specs.declared.head.Due.{Due}
use Rattle.lc_proof_text.specs.declared.head.Head.{Head}
use Rattle.lc_proof_text.specs.declared.head.Head.TheVariants.{Split, Cases, Push, Instantiate, Fresh, Cut, Written, Same, Affine, Trichotomy, Divide, Opposite, Open}
use Rattle.lc_text.proofs.Kept.{AreSpelled, IsTerm, IsColumn, IsFormula, number_kept, numbers_kept, term_kept, column_kept, formula_kept}
use Rattle.lc_text.specs.Names.{Names}
use Rattle.lc_text.specs.Spelling.{Spelled}

-- there are at least this many parts
abbrev HasParts : ℕ → Trees → Type 0
HasParts zero ts = Unit {0}
HasParts (suc k) none = ⊥
HasParts (suc k) (t ▸ ts) = HasParts k ts

abbrev IsPair : ℤ × ℤ → Type 0
IsPair p = (fits_i64 p.0 ≡ true) × (fits_i64 p.1 ≡ true)

multiple_kept : (n : ℕ) (t : Tree) → IfFine (multiple_reading n t) IsPair
multiple_kept n (list ts) = numbers_kept n (n + 1) ts
multiple_kept n (atom w) = tt

multiples_kept : (m : ℕ) (ts : Trees) → IfFine (multiples_reading m ts) (Every IsPair)
multiples_kept m none = tt
multiples_kept m (t ▸ ts) =
    both_fine IsPair (Every IsPair) (Every IsPair) (λ x xs. x ∷ xs) (multiple_reading m t) (multiples_reading (m + item_count t) ts)
    (multiple_kept m t) (multiples_kept (m + item_count t) ts) (λ x xs a b. (a, b))

module _ (names : Names) (by : Spelled) (all : AreSpelled names by) where
  -- a step whose parts read back, with as many proofs after it as are expected after this word
  abbrev IsStep : Head → Step → Type 0
  IsStep h s = StepReadsBack names by s × (proofs_due h ≡ due_behind s)

  term : (n : ℕ) (t : Tree) → IfFine (term_reading names [] n t) (IsTerm names by all 0)
  term n t = term_kept names by all [] 0 n t refl

  formula : (n : ℕ) (t : Tree) → item_count t ≤ 4294967296 → IfFine (formula_reading names [] n t) (IsFormula names by all 0)
  formula n t small = formula_kept names by all [] 0 n t refl (omega arith)

  numbers : (i j : ℕ) (t u : Tree) → IfFine (two_numbers i t j u) IsPair
  numbers i j t u = both_fine (λ z. fits_i64 z ≡ true) (λ z. fits_i64 z ≡ true) IsPair pair (number_reading i t) (number_reading j u) (number_kept i t) (number_kept j u) (λ x y a b. (a, b))

  cell : (n i j : ℕ) (t u : Tree) → IfFine (cell_reading names n i t j u) (λ p. IsColumn names by all 0 p.0 × IsTerm names by all 0 p.1)
  cell n i j t u =
      both_fine (IsColumn names by all 0) (IsTerm names by all 0) (λ p. IsColumn names by all 0 p.0 × IsTerm names by all 0 p.1) pair _ _ (column_kept names by all [] 0 n i t refl) (term j u) (λ x y a b. (a, b))

  terms : (i j : ℕ) (t u : Tree) → IfFine (two_terms names i t j u) (λ p. IsTerm names by all 0 p.0 × IsTerm names by all 0 p.1)
  terms i j t u = both_fine (IsTerm names by all 0) (IsTerm names by all 0) (λ p. IsTerm names by all 0 p.0 × IsTerm names by all 0 p.1) pair _ _ (term i t) (term j u) (λ x y a b. (a, b))

  -- the step of a list that has its parts; or the list is misshapen
  step_kept : (h : Head) (n m : ℕ) (ts : Trees) → item_count_of_all ts ≤ 4294967296
      → (HasParts (own_parts h) ts × IfFine (step_reading names h n m ts) (IsStep h)) ⊎ (step_reading names h n m ts ≡ wrong Shape n)
  step_kept Split n m none small = inr refl
  step_kept Split n m (t ▸ ts) small = inl (tt, mapped_fine (λ z. fits_i64 z ≡ true) (IsStep Split) (hypothesis_step Split) _ (number_kept m t) (λ z a. (a, refl)))
  step_kept Cases n m none small = inr refl
  step_kept Cases n m (t ▸ ts) small = inl (tt, mapped_fine (λ z. fits_i64 z ≡ true) (IsStep Cases) (hypothesis_step Cases) _ (number_kept m t) (λ z a. (a, refl)))
  step_kept Push n m none small = inr refl
  step_kept Push n m (t ▸ ts) small = inl (tt, mapped_fine (λ z. fits_i64 z ≡ true) (IsStep Push) (hypothesis_step Push) _ (number_kept m t) (λ z a. (a, refl)))
  step_kept Fresh n m none small = inr refl
  step_kept Fresh n m (t ▸ ts) small = inl (tt, mapped_fine (λ z. fits_i64 z ≡ true) (IsStep Fresh) (hypothesis_step Fresh) _ (number_kept m t) (λ z a. (a, refl)))
  step_kept Trichotomy n m none small = inr refl
  step_kept Trichotomy n m (t ▸ ts) small = inl (tt, mapped_fine (λ z. fits_i64 z ≡ true) (IsStep Trichotomy) (hypothesis_step Trichotomy) _ (number_kept m t) (λ z a. (a, refl)))
  step_kept Instantiate n m none small = inr refl
  step_kept Instantiate n m (t ▸ none) small = inr refl
  step_kept Instantiate n m (t ▸ u ▸ ts) small =
      inl (tt, both_fine (λ z. fits_i64 z ≡ true) (IsTerm names by all 0) (IsStep Instantiate) S.Instantiate _ _ (number_kept m t) (term (m + item_count t) u) (λ x y a b. ((a, b), refl)))
  step_kept Cut n m none small = inr refl
  step_kept Cut n m (t ▸ ts) small = inl (tt, mapped_fine (IsFormula names by all 0) (IsStep Cut) S.Cut _ (formula m t (omega arith)) (λ f a. (a, refl)))
  step_kept Written n m none small = inr refl
  step_kept Written n m (t ▸ none) small = inr refl
  step_kept Written n m (t ▸ u ▸ none) small = inr refl
  step_kept Written n m (t ▸ u ▸ v ▸ none) small = inr refl
  step_kept Written n m (t ▸ u ▸ v ▸ w ▸ ts) small =
      inl (
        tt,
        both_fine (λ p. IsColumn names by all 0 p.0 × IsTerm names by all 0 p.1) (λ p. IsTerm names by all 0 p.0 × IsTerm names by all 0 p.1) (IsStep Written) (λ (p : Column × Term) (q : Term × Term). S.Written p.0 p.1 q.0 q.1) _ _
            (cell n m (m + item_count t) t u) (terms (m + item_count t + item_count u) (m + item_count t + item_count u + item_count v) v w) (λ x y a b. ((a.0, a.1, b.0, b.1), refl)),
      )
  step_kept Same n m none small = inr refl
  step_kept Same n m (t ▸ none) small = inr refl
  step_kept Same n m (t ▸ u ▸ none) small = inr refl
  step_kept Same n m (t ▸ u ▸ v ▸ ts) small =
      inl (
        tt,
        both_fine (λ p. IsColumn names by all 0 p.0 × IsTerm names by all 0 p.1) (IsTerm names by all 0) (IsStep Same) (λ (p : Column × Term) j. S.Same p.0 p.1 j) _ _
            (cell n m (m + item_count t) t u) (term (m + item_count t + item_count u) v) (λ x y a b. ((a.0, a.1, b), refl)),
      )
  step_kept Affine n m none small = inr refl
  step_kept Affine n m (t ▸ none) small = inr refl
  step_kept Affine n m (t ▸ u ▸ none) small = inr refl
  step_kept Affine n m (t ▸ u ▸ v ▸ ts) small =
      inl (
        tt,
        both_fine IsPair (IsTerm names by all 0) (IsStep Affine) (λ (p : ℤ × ℤ) i. S.Affine p.0 p.1 i) _ _
            (numbers m (m + item_count t) t u) (term (m + item_count t + item_count u) v) (λ x y a b. ((a.0, a.1, b), refl)),
      )
  step_kept Divide n m none small = inr refl
  step_kept Divide n m (t ▸ none) small = inr refl
  step_kept Divide n m (t ▸ u ▸ none) small = inr refl
  step_kept Divide n m (t ▸ u ▸ v ▸ ts) small =
      inl (
        tt,
        both_fine IsPair (IsFormula names by all 0) (IsStep Divide) (λ (p : ℤ × ℤ) f. S.Divide p.0 p.1 f) _ _
            (numbers m (m + item_count t) t u) (formula (m + item_count t + item_count u) v (omega arith)) (λ x y a b. ((a.0, a.1, b), refl)),
      )
  step_kept Opposite n m none small = inr refl
  step_kept Opposite n m (t ▸ none) small = inr refl
  step_kept Opposite n m (t ▸ u ▸ ts) small =
      inl (tt, both_fine (λ z. fits_i64 z ≡ true) (λ z. fits_i64 z ≡ true) (IsStep Opposite) S.Opposite _ _ (number_kept m t) (number_kept (m + item_count t) u) (λ x y a b. ((a, b), refl)))
  step_kept Open n m ts small = inl (tt, (tt, refl))

  -- as many proofs as are expected, and each reads back
  abbrev AreProofs : Due → Proofs → Type 0
  AreProofs due ps = AreDue due ps × ProofsReadBack names by ps

  abbrev IsProof : Proof → Type 0
  IsProof p = ProofReadsBack names by p

  joined : (h : Head) (s : Step) (ps : Proofs) → IsStep h s → AreProofs (proofs_due h) ps → IsProof (proof s ps)
  joined h s ps (own, due) (are, back) = (own, subst (λ d. AreDue d ps) due are, back)

  flawed_step : (f : Flaw) (r : Reading Proofs) → IfFine (both proof (flawed f) r) IsProof
  flawed_step f (fine ps) = tt
  flawed_step f (flawed g) = tt

  headed_at : (h : Head) (n m : ℕ) (ts : Trees) (proofs : Reading Proofs) → (HasParts (own_parts h) ts → IfFine proofs (AreProofs (proofs_due h)))
      → (HasParts (own_parts h) ts × IfFine (step_reading names h n m ts) (IsStep h)) ⊎ (step_reading names h n m ts ≡ wrong Shape n)
      → IfFine (both proof (step_reading names h n m ts) proofs) IsProof
  headed_at h n m ts proofs k (inl (parts, own)) = both_fine (IsStep h) (AreProofs (proofs_due h)) IsProof proof (step_reading names h n m ts) proofs own (k parts) (joined h)
  headed_at h n m ts proofs k (inr short) = subst (λ r. IfFine (both proof r proofs) IsProof) (sym short) (flawed_step _ proofs)

  headed_kept : (n m : ℕ) (ts : Trees) (o : Option Head) (proofs : Head → Reading Proofs) → item_count_of_all ts ≤ 4294967296
      → ((h : Head) → HasParts (own_parts h) ts → IfFine (proofs h) (AreProofs (proofs_due h))) → IfFine (headed_reading names n m ts o proofs) IsProof
  headed_kept n m ts None proofs small k = tt
  headed_kept n m ts (Some h) proofs small k = headed_at h n m ts (proofs h) (k h) (step_kept h n m ts small)

  ended_kept : (n : ℕ) (due : Due) (b : Bool) → is_met due ≡ b → IfFine (cond b (fine S.none) (wrong Shape n)) (AreProofs due)
  ended_kept n due true met = (met, tt)
  ended_kept n due false met = tt

  more_kept : (m : ℕ) (due : Due) (b : Bool) (p : Reading Proof) (ps : Reading Proofs) → is_full due ≡ b → IfFine p IsProof → IfFine ps (AreProofs (later due)) → IfFine (cond b (wrong Shape m) (both more p ps)) (AreProofs due)
  more_kept m due true p ps full h g = tt
  more_kept m due false p ps full h g = both_fine IsProof (AreProofs (later due)) (AreProofs due) more p ps h g (λ q qs a b. ((full, b.0), (a, b.1)))

  mutual
    pub proof_kept : (n : ℕ) (t : Tree) → item_count t ≤ 4294967296 → IfFine (proof_reading names n t) IsProof
    proof_kept n (atom w) small = tt
    proof_kept n (list none) small = tt
    proof_kept n (list (list us ▸ ts)) small = tt
    proof_kept n (list (atom w ▸ ts)) small =
        cond_fine IsProof (is w (codes "sum")) (sum_reading (n + 2) ts) (headed_reading names n (n + 2) ts (head_of w) (λ h. proofs_reading names n (own_parts h) (proofs_due h) (n + 2) ts))
        (mapped_fine (Every IsPair) IsProof (λ ms. proof (S.Sum ms) S.none) (multiples_reading (n + 2) ts) (multiples_kept (n + 2) ts) (λ ms a. (a, refl, tt)))
        (headed_kept n (n + 2) ts (head_of w) (λ h. proofs_reading names n (own_parts h) (proofs_due h) (n + 2) ts) (omega arith)
        (λ h parts. proofs_kept n (own_parts h) (proofs_due h) (n + 2) ts parts (omega arith)))

    proofs_kept : (n k : ℕ) (due : Due) (m : ℕ) (ts : Trees) → HasParts k ts → item_count_of_all ts ≤ 4294967296 → IfFine (proofs_reading names n k due m ts) (AreProofs due)
    proofs_kept n (suc k) due m none parts small = absurd parts
    proofs_kept n (suc k) due m (t ▸ ts) parts small = proofs_kept n k due (m + item_count t) ts parts (omega arith)
    proofs_kept n zero due m none parts small = ended_kept n due (is_met due) refl
    proofs_kept n zero due m (t ▸ ts) parts small =
        more_kept m due (is_full due) (proof_reading names m t) (proofs_reading names n zero (later due) (m + item_count t) ts) refl
        (proof_kept m t (omega arith)) (proofs_kept n zero (later due) (m + item_count t) ts tt (omega arith))
