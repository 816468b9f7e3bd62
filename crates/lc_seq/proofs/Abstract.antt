-- The specification's columns alone: what it does depends on them, and changes them alone.
use Rattle.std.proofs.Common.{◌≡◌, ℕ, suc, ◌<◌, Bool, true, false, ◌&&◌, ◌==◌, if◌then◌else◌, nat_lt, List, [], ◌∷◌, ℤ, pos, Some, length, refl, sym, ap, ap₂, ◌∙◌, subst, arith, ltb-true}
use Rattle.std.specs.Prelude.{IsTrue}
use Rattle.std.specs.List.{list_all}
use Rattle.std.proofs.lemmas.Bool.Decides.{nat_tests}
use Rattle.std.proofs.lemmas.Option.{same_Some}
use mathlib.Core.Path.{fun_ext}
use Rattle.lc_lemmas.proofs.Booleans.{left_true, right_true}
use Rattle.lc_term.specs.Updates.{Update, Write, stored_all, writes_of, values_of}
use Rattle.lc_term.specs.Syntax.{Term, Formula}
use Rattle.lc_term.specs.Meaning.{State, Env, outside, value, stored}
use Rattle.lc_term.specs.Places.{known, term_passes, is_known}
use Rattle.lc_term.specs.Truth.{is_ground, truth}
use Rattle.lc_term.specs.State.{with_cell}
use Rattle.lc_term.proofs.Agree.{value-agree, Holds-agree}
use Rattle.lc_term.proofs.Truth.{Decides-truth}
use Rattle.lc_seq.specs.Specification.{Branch, branch_is_resolved, update_is_resolved}
use Rattle.lc_seq.specs.TextStep.{run}
use Rattle.lc_term.specs.Lists.{Every}
use Rattle.lc_term.proofs.Stores.{if_true}

-- the first n columns, and 0 in the others
abbrev pub abstract_of : ℕ → State → State
abstract_of n s c = if nat_lt c n then s c else (λ i. pos 0)

pub of_below : (n : ℕ) (s : State) (c : ℕ) → c < n → abstract_of n s c ≡ s c
of_below n s c h = if_true (nat_lt c n) (s c) (λ i. pos 0) (grind (arith, nat_tests))

module _ (n vars : ℕ) (s : State) (e : Env) where
  same_columns : (c : ℕ) → IsTrue ((known n vars).columns c) → abstract_of n s c ≡ s c
  same_columns c h = of_below n s c (ltb-true c n h)

  same_variables : (k : ℕ) → IsTrue ((known n vars).variables k) → e k ≡ e k
  same_variables k h = refl

  pub value-abstract : (t : Term) → term_passes (known n vars) t ≡ true → value (abstract_of n s) e outside t ≡ value s e outside t
  value-abstract t h = value-agree (known n vars) (abstract_of n s) s e e same_columns same_variables outside t h

  -- two tests of equal statements are equal
  same_tests : {P Q : Type 0} (a b : Bool) → ((a ≡ true) → P) → (P → a ≡ true) → ((b ≡ true) → Q) → (Q → b ≡ true) → P ≡ Q → a ≡ b
  same_tests true b p p' q q' e = sym (q' (subst (λ X. X) e (p refl)))
  same_tests false true p p' q q' e = p' (subst (λ X. X) (sym e) (q refl))
  same_tests false false p p' q q' e = refl

  pub truth-abstract : (f : Formula) → is_ground f ≡ true → is_known n vars f ≡ true → truth (abstract_of n s) e outside f ≡ truth s e outside f
  truth-abstract f g h =
      let d = Decides-truth (abstract_of n s) e outside f g in
      let d' = Decides-truth s e outside f g in
      same_tests (truth (abstract_of n s) e outside f) (truth s e outside f) d.0 d.1 d'.0 d'.1
      (Holds-agree (known n vars) (abstract_of n s) s e e same_columns same_variables outside 0 f h)

  pub values-abstract : (ts : List Term) → list_all (term_passes (known n vars)) ts ≡ true → values_of (abstract_of n s) e ts ≡ values_of s e ts
  values-abstract [] h = refl
  values-abstract (t ∷ ts) h =
      ap₂ (λ x xs. x ∷ xs) (value-abstract t (left_true _ (list_all (term_passes (known n vars)) ts) h)) (values-abstract ts (right_true (term_passes (known n vars) t) _ h))

  pub writes-abstract : (us : List Update) → list_all (update_is_resolved n vars) us ≡ true → writes_of (abstract_of n s) e us ≡ writes_of s e us
  writes-abstract [] h = refl
  writes-abstract (u ∷ us) h =
      let here = left_true (update_is_resolved n vars u) (list_all (update_is_resolved n vars) us) h in
      let terms = right_true (nat_lt u.column n) _ here in
      let i = value-abstract u.index (left_true _ (term_passes (known n vars) u.value) terms) in
      let v = value-abstract u.value (right_true (term_passes (known n vars) u.index) _ terms) in
      λ k. record { column = u.column; index = i k; value = v k } ∷ writes-abstract us (right_true (update_is_resolved n vars u) _ h) k

  pub run-abstract : (bs : List Branch) → list_all (branch_is_resolved n vars) bs ≡ true → run (abstract_of n s) e bs ≡ run s e bs
  run-abstract [] h = refl
  run-abstract (b ∷ bs) h =
      let here = left_true (branch_is_resolved n vars b) (list_all (branch_is_resolved n vars) bs) h in
      let guard = left_true (is_ground b.guard && is_known n vars b.guard) _ here in
      let rest = right_true (is_ground b.guard && is_known n vars b.guard) _ here in
      let t = truth-abstract b.guard (left_true _ (is_known n vars b.guard) guard) (right_true (is_ground b.guard) _ guard) in
      let ws = writes-abstract b.updates (left_true _ (list_all (term_passes (known n vars)) b.replies) rest) in
      let vs = values-abstract b.replies (right_true (list_all (update_is_resolved n vars) b.updates) _ rest) in
      λ k. if t k then Some (ws k, vs k) else run-abstract bs (right_true (branch_is_resolved n vars b) _ h) k

-- ---- what a run stores and replies

columns_of_writes : (n vars : ℕ) (s : State) (e : Env) (us : List Update) → list_all (update_is_resolved n vars) us ≡ true → Every (λ (w : Write). w.column < n) (writes_of s e us)
columns_of_writes n vars s e [] h = tt
columns_of_writes n vars s e (u ∷ us) h =
    let here = left_true (update_is_resolved n vars u) (list_all (update_is_resolved n vars) us) h in
    (ltb-true u.column n (left_true (nat_lt u.column n) _ here), columns_of_writes n vars s e us (right_true (update_is_resolved n vars u) _ h))

length-values : (s : State) (e : Env) (ts : List Term) → length (values_of s e ts) ≡ length ts
length-values s e [] = refl
length-values s e (t ∷ ts) = ap suc (length-values s e ts)

-- a branch stores in the first n columns, and has this number of replies
pub record IsRun (n replies : ℕ) (ws : List Write) (vs : List ℤ) : Type 0 where
  pub columns : Every (λ (w : Write). w.column < n) ws
  pub count : length vs ≡ replies

pub run_is : (n vars replies : ℕ) (s : State) (e : Env) (bs : List Branch) (ws : List Write) (vs : List ℤ) → list_all (branch_is_resolved n vars) bs ≡ true →
    list_all (λ (b : Branch). length b.replies == replies) bs ≡ true → run s e bs ≡ Some (ws, vs) → IsRun n replies ws vs
run_is n vars replies s e [] ws vs h l is = absurd cc
run_is n vars replies s e (b ∷ bs) ws vs h l is =
    by (truth s e outside b.guard) is
    (λ e'. run_is n vars replies s e bs ws vs (right_true (branch_is_resolved n vars b) _ h) (right_true (length b.replies == replies) _ l) e')
  where
    here : branch_is_resolved n vars b ≡ true
    here = left_true (branch_is_resolved n vars b) (list_all (branch_is_resolved n vars) bs) h

    rest : (list_all (update_is_resolved n vars) b.updates && list_all (term_passes (known n vars)) b.replies) ≡ true
    rest = right_true (is_ground b.guard && is_known n vars b.guard) _ here

    mine : IsRun n replies (writes_of s e b.updates) (values_of s e b.replies)
    mine = record {
      columns = columns_of_writes n vars s e b.updates (left_true _ (list_all (term_passes (known n vars)) b.replies) rest);
      count = length-values s e b.replies ∙ Rattle.std.proofs.lemmas.Bool.eqb-true (length b.replies) replies (left_true (length b.replies == replies) (list_all (λ (b : Branch). length b.replies == replies) bs) l);
    }

    by : (t : Bool) → (if t then Some (writes_of s e b.updates, values_of s e b.replies) else run s e bs) ≡ Some (ws, vs) → (run s e bs ≡ Some (ws, vs) → IsRun n replies ws vs) → IsRun n replies ws vs
    by true e' later = (let pair = same_Some (writes_of s e b.updates, values_of s e b.replies) (ws, vs) e' in let one = ap (λ (p : List Write × List ℤ). p.0) pair in let two = ap (λ (p : List Write × List ℤ). p.1) pair in subst (λ x. IsRun n replies x vs) one (subst (λ y. IsRun n replies (writes_of s e b.updates) y) two mine))
    by false e' later = later e'

-- ---- what is stored

cell-abstract : (n : ℕ) (s : State) (k : ℕ) (i v : ℤ) → k < n → abstract_of n (with_cell s k i v) ≡ with_cell (abstract_of n s) k i v
cell-abstract n s k i v h = fun_ext (λ c. by c (k == c) (nat_lt c n) refl refl)
  where
    by : (c : ℕ) (a b : Bool) → (k == c) ≡ a → nat_lt c n ≡ b → (if nat_lt c n then (if k == c then stored (s c) i v else s c) else (λ j. pos 0)) ≡ (if k == c then stored (if nat_lt c n then s c else (λ j. pos 0)) i v else (if nat_lt c n then s c else (λ j. pos 0)))
    by c true true e f = rw (e, f)
    by c true false e f = absurd (grind (arith, nat_tests))
    by c false true e f = rw (e, f)
    by c false false e f = rw (e, f)

pub stored-abstract : (n : ℕ) (s : State) (ws : List Write) → Every (λ (w : Write). w.column < n) ws → abstract_of n (stored_all s ws) ≡ stored_all (abstract_of n s) ws
stored-abstract n s [] h = refl
stored-abstract n s (w ∷ ws) h = stored-abstract n (with_cell s w.column w.index w.value) ws h.1 ∙ ap (λ t. stored_all t ws) (cell-abstract n s w.column w.index w.value h.0)

-- the same if those columns are the same
pub same-abstract : (n : ℕ) (s t : State) → ((c : ℕ) → c < n → s c ≡ t c) → abstract_of n s ≡ abstract_of n t
same-abstract n s t h = fun_ext (λ c. by c (nat_lt c n) refl)
  where
    by : (c : ℕ) (b : Bool) → nat_lt c n ≡ b → (if nat_lt c n then s c else (λ j. pos 0)) ≡ (if nat_lt c n then t c else (λ j. pos 0))
    by c true e = ap (λ f. if nat_lt c n then f else (λ j. pos 0)) (h c (ltb-true c n e))
    by c false e = rw e
