-- The proofs of branches, checked one after the other.
use Rattle.std.specs.Prelude.{◌≡◌, ℕ, zero, suc, ◌+◌, ◌<◌, ◌≤◌, List, [], ◌∷◌, ◌++◌, length, slice_get, Err}
use Rattle.std.proofs.Common.{refl, sym, ap, subst, ◌∙◌, append_assoc, arith, drop, get_or}
use Rattle.std.proofs.lemmas.List.{map-append, length-map}
use Rattle.lc_table.specs.NodeTables.{Table}
use Rattle.lc_term.specs.Syntax as S
use Rattle.lc_table.specs.Tables.{formula_in, formulas_in, AreFormulas, Keeps}
use Rattle.lc_table.specs.declared.node.FormulaId.{FormulaId}
use Rattle.lc_table.proofs.Later.{are_formulas_still, formulas_still}
use Rattle.lc_kernel.specs.Answers.{Checks, ChecksEach}
use Rattle.lc_kernel.specs.Branches.{branches_in, AreBranches, branch_count, branch_at, alone}
use Rattle.lc_kernel.specs.Table.{each}
use Rattle.lc_kernel.specs.declared.opened.Branches.{Branches}
use Rattle.lc_kernel.specs.declared.opened.Branches.TheVariants.{Nothing, One, Each}
use Rattle.lc_kernel.specs.Derivation.{Derives, EachDerives, all_closed, one_closed, SomeFails, first_fails, later_fails}
use Rattle.lc_kernel.specs.Proofs as P
use Rattle.lc_kernel.specs.Proofs.{Proofs, none, more, proofs, size, size_of_all}
use Rattle.lc_kernel.specs.View.{proof_of, proofs_of}
use Rattle.lc_kernel.specs.declared.proof.Proof.{Proof}
use Rattle.lc_kernel.specs.declared.fault.ProofFault.{ProofFault}
use Rattle.lc_kernel.specs.declared.fault.ProofFault.TheVariants.{Bad as NotHolding, Large as TooLarge, OutOfMemory}
use Rattle.lc_kernel.specs.declared.reason.Flaw.{Flaw}

-- Of all branches the first ones are closed by their proofs, whose steps are counted from the first to the next;
-- what is left decides of all
pub record Left (v : ℕ) (H : List S.Formula) (bs : List (List S.Formula)) (ps : Proofs) (first next : ℕ) (bs' : List (List S.Formula)) (ps' : Proofs) : Type 0 where
  pub done : ℕ
  pub counted : next ≡ first + done
  pub sizes : size_of_all ps ≡ done + size_of_all ps'
  pub derived : EachDerives v H bs' ps' → EachDerives v H bs ps
  pub failed : (n : ℕ) (why : Flaw) → SomeFails v H bs' ps' n why → SomeFails v H bs ps (done + n) why

pub all_left : (v : ℕ) (H : List S.Formula) (bs : List (List S.Formula)) (ps : Proofs) (first : ℕ) → Left v H bs ps first first bs ps
all_left v H bs ps first = record { done = 0; counted = omega arith; sizes = omega arith; derived = λ d. d; failed = λ n why f. let e : n ≡ 0 + n = omega arith in subst (λ m. SomeFails v H bs ps m why) e f }

pub one_less : (v : ℕ) (H : List S.Formula) (bs : List (List S.Formula)) (ps : Proofs) (first next next' : ℕ) (b : List S.Formula) (bs' : List (List S.Formula)) (p : P.Proof) (ps' : Proofs) →
    Left v H bs ps first next (b ∷ bs') (more p ps') → next' ≡ next + size p → Derives v (H ++ b) p → Left v H bs ps first next' bs' ps'
one_less v H bs ps first next next' b bs' p ps' left counted holds = record {
  done = left.done + size p;
  counted = let e = left.counted in omega arith;
  sizes = let e = left.sizes in omega arith;
  derived = λ d. left.derived (one_closed holds d);
  failed = λ n why f.
      let e : left.done + (size p + n) ≡ left.done + size p + n = omega arith in
      subst (λ m. SomeFails v H bs ps m why) e (left.failed (size p + n) why (later_fails holds f));
}

pub none_left : (v : ℕ) (H : List S.Formula) (bs : List (List S.Formula)) (ps : Proofs) (first next : ℕ) → Left v H bs ps first next [] none →
    (next ≡ first + size_of_all ps) × EachDerives v H bs ps
none_left v H bs ps first next left = (let e = left.sizes in let g = left.counted in omega arith, left.derived all_closed)

pub one_fails : (v : ℕ) (H : List S.Formula) (bs : List (List S.Formula)) (ps : Proofs) (first next : ℕ) (b : List S.Formula) (bs' : List (List S.Formula)) (p : P.Proof) (ps' : Proofs) (fault : ProofFault) →
    Left v H bs ps first next (b ∷ bs') (more p ps') → Checks v (H ++ b) p next (Err fault) → ChecksEach v H bs ps first (Err fault)
one_fails v H bs ps first next b bs' p ps' (NotHolding step reason) left h =
    (left.done + h.0, let e = left.counted in let g = h.1 in omega arith, left.failed h.0 _ (first_fails h.2))
one_fails v H bs ps first next b bs' p ps' (TooLarge step) left h =
    (left.done + h.0, let e = left.counted in let g = h.1 in omega arith, left.failed h.0 _ (first_fails h.2))
one_fails v H bs ps first next b bs' p ps' OutOfMemory left h = tt

-- what is left of a list begins with the item at its index

pub proofs_drop : (ps : List Proof) (i : ℕ) (d : Proof) → i < length ps → proofs (proofs_of (drop i ps)) ≡ more (proof_of (get_or ps i d)) (proofs (proofs_of (drop (suc i) ps)))
proofs_drop [] i d h = absurd (omega arith)
proofs_drop (p ∷ ps) zero d h = refl
proofs_drop (p ∷ ps) (suc i) d h = proofs_drop ps i d (omega arith)

pub proofs_at : (ps : List Proof) (i : ℕ) (p : Proof) → i < length ps → p ≡ get_or ps i p → proofs (proofs_of (drop i ps)) ≡ more (proof_of p) (proofs (proofs_of (drop (i + 1) ps)))
proofs_at ps i p h is =
    let next : suc i ≡ i + 1 = omega arith in
    proofs_drop ps i p h ∙ ap (λ q. more (proof_of q) (proofs (proofs_of (drop (suc i) ps)))) (sym is) ∙ ap (λ n. more (proof_of p) (proofs (proofs_of (drop n ps)))) next

each_drop : (ts : Table) (ks : List FormulaId) (i : ℕ) → i < length ks → drop i (each (formulas_in ts ks)) ≡ formulas_in ts (alone (slice_get ks i)) ∷ drop (suc i) (each (formulas_in ts ks))
each_drop ts [] i h = absurd (omega arith)
each_drop ts (k ∷ ks) zero h = refl
each_drop ts (k ∷ ks) (suc i) h = each_drop ts ks i (omega arith)

branches_drop : (ts : Table) (bs : Branches) (i : ℕ) → i < branch_count bs → drop i (branches_in ts bs) ≡ formulas_in ts (branch_at bs i) ∷ drop (suc i) (branches_in ts bs)
branches_drop ts Nothing i h = absurd (omega arith)
branches_drop ts (One ks) zero h = refl
branches_drop ts (One ks) (suc i) h = absurd (omega arith)
branches_drop ts (Each ks) i h = each_drop ts ks.items i h

pub branches_at : (ts : Table) (bs : Branches) (i : ℕ) → i < branch_count bs → drop i (branches_in ts bs) ≡ formulas_in ts (branch_at bs i) ∷ drop (i + 1) (branches_in ts bs)
branches_at ts bs i h =
    let next : suc i ≡ i + 1 = omega arith in
    branches_drop ts bs i h ∙ ap (λ n. formulas_in ts (branch_at bs i) ∷ drop n (branches_in ts bs)) next

-- the formulas of a branch are formulas
alone_are : (ts : Table) (ks : List FormulaId) (i : ℕ) → AreFormulas ts ks → i < length ks → AreFormulas ts (alone (slice_get ks i))
alone_are ts [] i are h = absurd (omega arith)
alone_are ts (k ∷ ks) zero are h = (are.0, tt)
alone_are ts (k ∷ ks) (suc i) are h = alone_are ts ks i are.1 (omega arith)

pub branch_are : (ts : Table) (bs : Branches) (i : ℕ) → AreBranches ts bs → i < branch_count bs → AreFormulas ts (branch_at bs i)
branch_are ts Nothing i are h = absurd (omega arith)
branch_are ts (One ks) i are h = are
branch_are ts (Each ks) i are h = alone_are ts ks.items i are h

pub are_append : (ts : Table) (ks ls : List FormulaId) → AreFormulas ts ks → AreFormulas ts ls → AreFormulas ts (ks ++ ls)
are_append ts [] ls h g = g
are_append ts (k ∷ ks) ls h g = (h.0, are_append ts ks ls h.1 g)

-- hypotheses and what a branch appends, in a later table
pub known_later : (old new : Table) (ks ls hs : List FormulaId) → hs ≡ ks ++ ls → AreFormulas old ks → AreFormulas old ls → Keeps old new →
    AreFormulas new hs × (formulas_in new hs ≡ formulas_in old ks ++ formulas_in old ls)
known_later old new ks ls hs is h g kept =
    let are = are_append old ks ls h g in (
      subst (AreFormulas new) (sym is) (are_formulas_still old new (ks ++ ls) are kept),
      ap (formulas_in new) is ∙ formulas_still old new (ks ++ ls) are kept ∙ map-append (formula_in old) ks ls,
    )

-- how many branches there are
pub count_in : (ts : Table) (bs : Branches) → length (branches_in ts bs) ≡ branch_count bs
count_in ts Nothing = refl
count_in ts (One ks) = refl
count_in ts (Each ks) = length-map (formulas_in ts ks.items) _ ∙ length-map ks.items _

-- the next branch, and the proof of it
pub next_left : (v : ℕ) (H : List S.Formula) (bs : List (List S.Formula)) (ps : Proofs) (first next : ℕ) (ts : Table) (cs : Branches) (qs : List Proof) (i : ℕ) (p : Proof) →
    i < branch_count cs → i < length qs → p ≡ get_or qs i p →
    Left v H bs ps first next (drop i (branches_in ts cs)) (proofs (proofs_of (drop i qs))) →
    Left v H bs ps first next (formulas_in ts (branch_at cs i) ∷ drop (i + 1) (branches_in ts cs)) (more (proof_of p) (proofs (proofs_of (drop (i + 1) qs))))
next_left v H bs ps first next ts cs qs i p h g at left =
    subst (λ x. Left v H bs ps first next x (more (proof_of p) (proofs (proofs_of (drop (i + 1) qs))))) (branches_at ts cs i h)
    (subst (λ x. Left v H bs ps first next (drop i (branches_in ts cs)) x) (proofs_at qs i p g at) left)

-- the hypotheses of its proof, some of which are appended
pub next_hypotheses : (old now : Table) (given own xs : List FormulaId) (cs : Branches) (i : ℕ) → i < branch_count cs → xs ≡ own ++ branch_at cs i → AreFormulas old (given ++ own) → AreBranches old cs → Keeps old now →
    AreFormulas now (given ++ xs) × (formulas_in now (given ++ xs) ≡ formulas_in old (given ++ own) ++ formulas_in old (branch_at cs i))
next_hypotheses old now given own xs cs i h is are opened kept =
    known_later old now (given ++ own) (branch_at cs i) (given ++ xs) (ap (λ ks. given ++ ks) is ∙ sym (append_assoc given own (branch_at cs i))) are (branch_are old cs i opened h) kept

pub drop_past : (qs : List Proof) (i : ℕ) → length qs ≤ i → proofs (proofs_of (drop i qs)) ≡ none
drop_past [] zero h = refl
drop_past [] (suc i) h = refl
drop_past (q ∷ qs) zero h = absurd (omega arith)
drop_past (q ∷ qs) (suc i) h = drop_past qs i (omega arith)

branches_past : (bs : List (List S.Formula)) (i : ℕ) → length bs ≤ i → drop i bs ≡ []
branches_past [] zero h = refl
branches_past [] (suc i) h = refl
branches_past (b ∷ bs) zero h = absurd (omega arith)
branches_past (b ∷ bs) (suc i) h = branches_past bs i (omega arith)

pub nothing_left : (v : ℕ) (H : List S.Formula) (bs : List (List S.Formula)) (ps : Proofs) (first next : ℕ) (ts : Table) (cs : Branches) (qs : List Proof) (i : ℕ) →
    branch_count cs ≤ i → length qs ≤ i → Left v H bs ps first next (drop i (branches_in ts cs)) (proofs (proofs_of (drop i qs))) → (next ≡ first + size_of_all ps) × EachDerives v H bs ps
nothing_left v H bs ps first next ts cs qs i h g left =
    let past : length (branches_in ts cs) ≤ i = subst (λ n. n ≤ i) (sym (count_in ts cs)) h in
    none_left v H bs ps first next
    (subst (λ x. Left v H bs ps first next x none) (branches_past (branches_in ts cs) i past)
    (subst (λ x. Left v H bs ps first next (drop i (branches_in ts cs)) x) (drop_past qs i g) left))
