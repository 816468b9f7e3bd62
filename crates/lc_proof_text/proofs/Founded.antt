-- What a formula file says is of the variables that it declares, and it has no more of them, with the steps of its proof, than items.
use Rattle.std.proofs.Common.{◌≡◌, ℕ, zero, suc, ◌+◌, ◌≤◌, Bool, true, false, cond, List, [], ◌∷◌, length, Option, Some, None, refl, sym, ap, subst, arith, IfSome}
use Rattle.std.proofs.lemmas.Bool.Decides.{nat_tests}
use Rattle.std.specs.Prelude.{option_map, codes, nat_lt}
use Rattle.lc_sexp.specs.Trees.{Tree, Trees, atom, list, none, ◌▸◌, item_count, item_count_of_all}
use Rattle.lc_kernel.specs.Below.{all_below}
use Rattle.lc_kernel.specs.Proofs as S
use Rattle.lc_kernel.specs.Proofs.{size, size_of_all, proof, more}
use Rattle.lc_reading.specs.Listed.{place_of}
use Rattle.lc_reading.specs.Readings.{Reading, fine, wrong, both}
use Rattle.lc_reading.specs.Words.{is}
use Rattle.lc_reading.specs.declared.pass.Pass.TheVariants.{Shape}
use Rattle.lc_text.specs.Names.{Names}
use Rattle.lc_term.specs.Syntax.{Formula, Formulas, formulas, parts, none as no_formulas, more as more_formulas}
use Rattle.lc_text.specs.Formulas.{formula_reading, formulas_reading}
use Rattle.lc_text.specs.Terms.{pair}
use Rattle.lc_reading.proofs.Fine.{IfFine, if_fine_unit, if_fine_weaker, cond_fine, mapped_fine, both_fine, ended_fine, behind_fine, of_fine}
use Rattle.lc_text.proofs.Variables.{NamesIn, FormulaIn, FormulasIn, formula_in, formulas_in, each_in}
use Rattle.lc_proof_text.specs.FileNames.{Declared, names_behind, declared_by, claim_names, proof_names}
use Rattle.lc_proof_text.specs.Files.{Claim, claim_of, only, declarations_reading, hypotheses_reading, goal_reading, shown_reading, statement_reading, claim_reading, sections_reading, form_reading, file_reading}
use Rattle.lc_proof_text.specs.Heads.{head_of, own_parts, proofs_due, later, is_met, is_full}
use Rattle.lc_proof_text.specs.Proofs.{headed_reading, proof_reading, proofs_reading}
use Rattle.lc_proof_text.specs.Steps.{multiples_reading, step_reading}
use Rattle.lc_proof_text.specs.declared.head.Due.{Due}
use Rattle.lc_proof_text.specs.declared.head.Head.{Head}
use Rattle.lc_proof_text.proofs.Counted.{behind_counted}

-- listed names have places below their count
placed_below : (vs : List (List ℕ)) (w : List ℕ) → IfSome (place_of vs w) (λ k. nat_lt k (length vs) ≡ true)
placed_below [] w = tt
placed_below (v ∷ vs) w = at_first (is w v) (place_of vs w) (placed_below vs w) where
  at_first : (b : Bool) (o : Option ℕ) → IfSome o (λ k. nat_lt k (length vs) ≡ true) → IfSome (cond b (Some 0) (option_map suc o)) (λ k. nat_lt k (length (v ∷ vs)) ≡ true)
  at_first true o h = grind (arith, nat_tests)
  at_first false None h = tt
  at_first false (Some k) h = grind (arith, nat_tests)

-- the number is that of one of `count` variables
abbrev pub below : ℕ → ℕ → Bool
below count k = nat_lt k count

claim_below : (d : Declared) → NamesIn (below (length d.variables)) (claim_names d)
claim_below d = record { variables = λ w. placed_below d.variables w; numbered = refl }

-- a step with its proofs has one more than they
headed_sized : (names : Names) (n m k : ℕ) (ts : Trees) (o : Option Head) (proofs : Head → Reading S.Proofs) → ((h : Head) → IfFine (proofs h) (λ ps. size_of_all ps ≤ k))
    → IfFine (headed_reading names n m ts o proofs) (λ p. size p ≤ k + 1)
headed_sized names n m k ts None proofs h = tt
headed_sized names n m k ts (Some head) proofs h =
    both_fine (λ s. Unit {0}) (λ ps. size_of_all ps ≤ k) (λ p. size p ≤ k + 1) proof (step_reading names head n m ts) (proofs head) (if_fine_unit (step_reading names head n m ts)) (h head)
    (λ s ps a b. omega (arith, b))

ended_sized : (n k : ℕ) (b : Bool) → IfFine (cond b (fine S.none) (wrong Shape n)) (λ ps. size_of_all ps ≤ k)
ended_sized n k true = omega arith
ended_sized n k false = tt

-- one proof more, if one is allowed
more_sized : (b : Bool) (m i j : ℕ) (p : Reading S.Proof) (ps : Reading S.Proofs) → IfFine p (λ q. size q ≤ i) → IfFine ps (λ qs. size_of_all qs ≤ j)
    → IfFine (cond b (wrong Shape m) (both more p ps)) (λ qs. size_of_all qs ≤ i + j)
more_sized true m i j p ps h g = tt
more_sized false m i j p ps h g = both_fine (λ q. size q ≤ i) (λ qs. size_of_all qs ≤ j) (λ qs. size_of_all qs ≤ i + j) more p ps h g (λ q qs a b. omega (arith, a, b))

mutual
  -- a proof has no more steps than its text has items
  pub proof_sized : (names : Names) (n : ℕ) (t : Tree) → IfFine (proof_reading names n t) (λ p. size p ≤ item_count t)
  proof_sized names n (atom w) = tt
  proof_sized names n (list none) = tt
  proof_sized names n (list (list us ▸ ts)) = tt
  proof_sized names n (list (atom w ▸ ts)) =
      cond_fine (λ p. size p ≤ item_count (list (atom w ▸ ts))) (is w (codes "sum")) _ _
      (mapped_fine (λ ms. Unit {0}) (λ p. size p ≤ item_count (list (atom w ▸ ts))) (λ ms. proof (S.Sum ms) S.none) (multiples_reading (n + 2) ts) (if_fine_unit (multiples_reading (n + 2) ts)) (λ ms a. omega arith))
      (if_fine_weaker (λ p. size p ≤ item_count_of_all ts + 1) (λ p. size p ≤ item_count (list (atom w ▸ ts)))
      (headed_reading names n (n + 2) ts (head_of w) (λ h. proofs_reading names n (own_parts h) (proofs_due h) (n + 2) ts)) (λ p a. omega (arith, a))
      (headed_sized names n (n + 2) (item_count_of_all ts) ts (head_of w) (λ h. proofs_reading names n (own_parts h) (proofs_due h) (n + 2) ts)
      (λ h. proofs_sized names n (own_parts h) (proofs_due h) (n + 2) ts)))

  proofs_sized : (names : Names) (n k : ℕ) (due : Due) (m : ℕ) (ts : Trees) → IfFine (proofs_reading names n k due m ts) (λ ps. size_of_all ps ≤ item_count_of_all ts)
  proofs_sized names n (suc k) due m none = omega arith
  proofs_sized names n (suc k) due m (t ▸ ts) =
      if_fine_weaker (λ ps. size_of_all ps ≤ item_count_of_all ts) (λ ps. size_of_all ps ≤ item_count_of_all (t ▸ ts)) (proofs_reading names n k due (m + item_count t) ts) (λ ps a. omega (arith, a))
      (proofs_sized names n k due (m + item_count t) ts)
  proofs_sized names n zero due m none = ended_sized n 0 (is_met due)
  proofs_sized names n zero due m (t ▸ ts) =
      more_sized (is_full due) m (item_count t) (item_count_of_all ts) (proof_reading names m t) (proofs_reading names n zero (later due) (m + item_count t) ts)
      (proof_sized names m t) (proofs_sized names n zero (later due) (m + item_count t) ts)

only_fine : {X : Type 0} (P : X → Type 0) (read : ℕ → Tree → Reading X) (n m : ℕ) (ts : Trees) → ((m : ℕ) (t : Tree) → item_count t ≤ item_count_of_all ts → IfFine (read m t) P) → IfFine (only read n m ts) P
only_fine P read n m none h = tt
only_fine P read n m (t ▸ ts) h = ended_fine P (m + item_count t) ts (read m t) (h m t (omega arith))

hypotheses_founded : (d : Declared) (n : ℕ) (t : Tree) → IfFine (hypotheses_reading d n t) (FormulasIn (below (length d.variables)))
hypotheses_founded d n t =
    behind_fine (FormulasIn (below (length d.variables))) (codes "hyps") (λ n m ts. formulas_reading (claim_names d) [] m ts) n t
    (λ m ts few. formulas_in (below (length d.variables)) (claim_names d) (claim_below d) [] m ts)

goal_founded : (d : Declared) (n : ℕ) (t : Tree) → IfFine (goal_reading d n t) (FormulaIn (below (length d.variables)))
goal_founded d n t =
    let read = formula_reading (claim_names d) [] in
    behind_fine (FormulaIn (below (length d.variables))) (codes "goal") (only read) n t
    (λ m ts few. only_fine (FormulaIn (below (length d.variables))) read n m ts (λ m t few. formula_in (below (length d.variables)) (claim_names d) (claim_below d) [] m t))

shown_sized : (d : Declared) (n : ℕ) (t : Tree) → IfFine (shown_reading d n t) (λ p. size p ≤ item_count t)
shown_sized d n t =
    let read = proof_reading (proof_names d) in
    behind_fine (λ p. size p ≤ item_count t) (codes "proof") (only read) n t
    (λ m ts few. only_fine (λ p. size p ≤ item_count t) read n m ts
    (λ m u fewer. if_fine_weaker (λ p. size p ≤ item_count u) (λ p. size p ≤ item_count t) (read m u) (λ p a. omega (arith, a, few, fewer)) (proof_sized (proof_names d) m u)))

-- what holds of a claim that is read
pub record IsFounded (claim : Claim) (items : ℕ) : Type 0 where
  pub hypotheses : FormulasIn (below claim.variables) claim.hypotheses
  pub goal : FormulaIn (below claim.variables) claim.goal
  pub room : claim.variables + size claim.proof ≤ items

abbrev StatementIn : ℕ → Formulas × Formula → Type 0
StatementIn n s = FormulasIn (below n) s.0 × FormulaIn (below n) s.1

claim_founded : (d : Declared) (i : ℕ) (h : Tree) (j : ℕ) (g : Tree) (k : ℕ) (p : Tree) (items : ℕ) → length d.variables + item_count p ≤ items → IfFine (claim_reading d i h j g k p) (λ c. IsFounded c items)
claim_founded d i h j g k p items room =
    let n = length d.variables in
    both_fine (StatementIn n) (λ q. size q ≤ item_count p) (λ c. IsFounded c items) (claim_of n) (statement_reading d i h j g) (shown_reading d k p)
    (both_fine (FormulasIn (below n)) (FormulaIn (below n)) (StatementIn n) pair (hypotheses_reading d i h) (goal_reading d j g) (hypotheses_founded d i h) (goal_founded d j g) (λ hs f a b. (a, b)))
    (shown_sized d k p) (λ s q a b. record { hypotheses = a.0; goal = a.1; room = omega (arith, b, room) })

sections_founded : (n m : ℕ) (ts : Trees) → IfFine (sections_reading n m ts) (λ c. IsFounded c (item_count_of_all ts))
sections_founded n m none = tt
sections_founded n m (v ▸ none) = tt
sections_founded n m (v ▸ c ▸ none) = tt
sections_founded n m (v ▸ c ▸ h ▸ none) = tt
sections_founded n m (v ▸ c ▸ h ▸ g ▸ none) = tt
sections_founded n m (v ▸ c ▸ h ▸ g ▸ p ▸ ts) =
    let items = item_count_of_all (v ▸ c ▸ h ▸ g ▸ p ▸ ts) in
    let at_c = m + item_count v in
    let at_h = at_c + item_count c in
    let at_g = at_h + item_count h in
    let at_p = at_g + item_count g in
    let few : length (names_behind (codes "vars") v) + item_count p ≤ items = omega (arith, behind_counted (codes "vars") v) in
    ended_fine (λ c. IsFounded c items) (at_p + item_count p) ts _
    (both_fine (λ u. Unit {0}) (λ c. IsFounded c items) (λ c. IsFounded c items) (λ x y. y) (declarations_reading m v at_c c) (claim_reading (declared_by v c) at_h h at_g g at_p p)
    (if_fine_unit (declarations_reading m v at_c c)) (claim_founded (declared_by v c) at_h h at_g g at_p p items few) (λ x y a b. b))

more_items : (c : Claim) (i j : ℕ) → i ≤ j → IsFounded c i → IsFounded c j
more_items c i j few h = record { hypotheses = h.hypotheses; goal = h.goal; room = omega (arith, h.room, few) }

form_founded : (n : ℕ) (t : Tree) → IfFine (form_reading n t) (λ c. IsFounded c (item_count t))
form_founded n t =
    behind_fine (λ c. IsFounded c (item_count t)) (codes "formula") sections_reading n t
    (λ m ts few. if_fine_weaker (λ c. IsFounded c (item_count_of_all ts)) (λ c. IsFounded c (item_count t)) (sections_reading n m ts)
    (λ c a. more_items c (item_count_of_all ts) (item_count t) (omega (arith, few)) a) (sections_founded n m ts))

file_founded : (ts : Trees) → IfFine (file_reading ts) (λ c. IsFounded c (item_count_of_all ts))
file_founded ts =
    only_fine (λ c. IsFounded c (item_count_of_all ts)) form_reading (item_count_of_all ts) 0 ts
    (λ m t few. if_fine_weaker (λ c. IsFounded c (item_count t)) (λ c. IsFounded c (item_count_of_all ts)) (form_reading m t) (λ c a. more_items c (item_count t) (item_count_of_all ts) few a) (form_founded m t))

pub fine_claim_founded : (ts : Trees) (claim : Claim) → file_reading ts ≡ fine claim → IsFounded claim (item_count_of_all ts)
fine_claim_founded ts claim e = of_fine (λ c. IsFounded c (item_count_of_all ts)) (file_reading ts) claim (file_founded ts) e

formulas_parts : (fs : Formulas) → formulas (parts fs) ≡ fs
formulas_parts no_formulas = refl
formulas_parts (more_formulas f fs) = ap (more_formulas f) (formulas_parts fs)

-- the hypotheses use only existing variables
pub founded_hypotheses : (claim : Claim) (items : ℕ) → IsFounded claim items → all_below claim.variables (parts claim.hypotheses) ≡ true
founded_hypotheses claim items h =
    each_in (below claim.variables) (parts claim.hypotheses) (subst (FormulasIn (below claim.variables)) (sym (formulas_parts claim.hypotheses)) h.hypotheses)
