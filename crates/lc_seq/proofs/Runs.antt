-- Terms, updates and branches, computed one after the other.
use Rattle.std.proofs.Common.{◌≡◌, ℕ, ◌+◌, arith, Bool, true, false, ◌&&◌, List, [], ◌∷◌, ◌++◌, ℤ, Option, Some, None, Result, Ok, Err, IsErrAnd, slice_get, option_map, length, refl, ap, sym, subst, ◌∙◌, append_assoc, inl, inr}
use Rattle.lc_lemmas.proofs.Booleans.{left_true, right_true}
use Rattle.lc_lemmas.proofs.Lists.{at_all}
use Rattle.lc_term.proofs.Truth.{Decides-truth}
use Rattle.std.proofs.lemmas.Bool.Decides.{eqb_tells, nat_tests}
use Rattle.std.specs.Prelude.{◌==◌, nat_lt}
use Rattle.std.specs.List.{list_all}
use Rattle.std.specs.Prelude.{◌↔◌, MatchBool, if◌then◌else◌}
use Rattle.lc_term.specs.Meaning.{State, Env, outside, value, Holds}
use Rattle.lc_term.specs.Places.{known, term_passes, is_known}
use Rattle.lc_term.specs.Reached.{TermFits, FormulaFits}
use Rattle.lc_term.specs.Computed.{IsComputed}
use Rattle.lc_term.specs.Updates.{Update, Write, AreWithin}
use Rattle.lc_term.specs.UpdateView.{writes_view}
use Rattle.lc_term.specs.Syntax.{Term, Formula}
use Rattle.lc_term.specs.Truth.{is_ground, truth}
use Rattle.std.specs.Prelude.{Vec}
use Rattle.std.specs.declared.alloc.Global.{Global}
use Rattle.lc_seq.specs.Applied.{IsApplied}
use Rattle.lc_seq.specs.Run.{seq_says, outcome_of, outcome_in}
use Rattle.lc_seq.specs.Specification.{Branch, Operation, update_is_resolved, branch_is_resolved, operation_is_resolved, branches_in, chosen}
use Rattle.lc_seq.specs.Sequential.{Chosen, given_in}
use Rattle.lc_seq.proofs.Choosing.{resolved_behind, chosen-resolved}
use Rattle.lc_seq.specs.TextStep.{stored_all, outcome, TermsFit, UpdatesFit, RunFits, values_of, writes_of, run}
use Rattle.lc_seq.specs.declared.fault.SeqFault.{SeqFault}
use Rattle.lc_seq.specs.declared.fault.SeqFault.TheVariants.{Overflow, OutOfMemory}
use Rattle.lc_seq.specs.declared.running.Outcome.{Outcome}

pub handed_on : {X Y : Type 0} (view : X → Y) (fits : Type 0) (wanted : Y) (r : Result X SeqFault) (fault : SeqFault) → IsErrAnd r (λ y. y ≡ fault) → IsComputed seq_says view fits wanted (Err fault) → IsComputed seq_says view fits wanted r
handed_on view fits wanted (Ok x) fault e known = absurd e
handed_on view fits wanted (Err y) fault e known = subst (λ z. IsComputed seq_says view fits wanted (Err z)) (sym e) known

-- the same for another thing that is computed, and that fits if this one does
pub handed_up : {X Y Z W : Type 0} (view : X → Y) (fits : Type 0) (wanted : Y) (up : Z → W) (all : Type 0) (whole : W) (r : Result Z SeqFault) (fault : SeqFault)
    → IsErrAnd r (λ y. y ≡ fault) → (all → fits) → IsComputed seq_says view fits wanted (Err fault) → IsComputed seq_says up all whole r
handed_up view fits wanted up all whole r Overflow e part known = handed_on up all whole r Overflow e (λ f. known (part f))
handed_up view fits wanted up all whole r OutOfMemory e part known = handed_on up all whole r OutOfMemory e tt

-- what is kept of terms
pub record AreValued (s : State) (e : Env) (columns variables : ℕ) (whole rest : List Term) (values : List ℤ) : Type 0 where
  pub resolved : list_all (term_passes (known columns variables)) rest ≡ true
  pub rest_fits : TermsFit s e whole → TermsFit s e rest
  pub whole_fits : TermsFit s e rest → TermsFit s e whole
  pub made : values ++ values_of s e rest ≡ values_of s e whole

pub valued_next : (s : State) (e : Env) (columns variables : ℕ) (whole : List Term) (t : Term) (rest : List Term) (values more : List ℤ) (v : ℤ)
    → AreValued s e columns variables whole (t ∷ rest) values → TermFits s e t → more ≡ values ++ v ∷ [] → v ≡ value s e outside t → AreValued s e columns variables whole rest more
valued_next s e columns variables whole t rest values more v are fit made is = record {
  resolved = right_true (term_passes (known columns variables) t) (list_all (term_passes (known columns variables)) rest) are.resolved;
  rest_fits = λ w. (are.rest_fits w).1;
  whole_fits = λ r. are.whole_fits (fit, r);
  made = ap (λ ys. ys ++ values_of s e rest) made ∙ append_assoc values (v ∷ []) (values_of s e rest) ∙ ap (λ z. values ++ z ∷ values_of s e rest) is ∙ are.made;
}

-- what updates that name the first `columns` columns store belongs to these
pub writes-within : (s : State) (e : Env) (columns variables : ℕ) (us : List Update) → list_all (update_is_resolved columns variables) us ≡ true → AreWithin columns (writes_of s e us)
writes-within s e columns variables [] all = tt
writes-within s e columns variables (u ∷ us) all =
    let parts = term_passes (known columns variables) u.index && term_passes (known columns variables) u.value in
    let below = left_true (nat_lt u.column columns) parts (left_true (update_is_resolved columns variables u) (list_all (update_is_resolved columns variables) us) all) in (
      grind (arith, nat_tests),
      writes-within s e columns variables us (right_true (update_is_resolved columns variables u) (list_all (update_is_resolved columns variables) us) all),
    )

abbrev writes_in : Option (List Write × List ℤ) → List Write
writes_in None = []
writes_in (Some r) = r.0

-- and what branches store
pub run-within : (s : State) (e : Env) (columns variables : ℕ) (bs : List Branch) (r : List Write × List ℤ) → list_all (branch_is_resolved columns variables) bs ≡ true → Some r ≡ run s e bs → AreWithin columns r.0
run-within s e columns variables [] r all is = absurd cc
run-within s e columns variables (b ∷ bs) r all is =
    let first = left_true (branch_is_resolved columns variables b) (list_all (branch_is_resolved columns variables) bs) all in
    let updates = left_true (list_all (update_is_resolved columns variables) b.updates) (list_all (term_passes (known columns variables)) b.replies)
    (right_true (is_ground b.guard && is_known columns variables b.guard) _ first) in
    by_guard (truth s e outside b.guard) updates (run-within s e columns variables bs r (right_true (branch_is_resolved columns variables b) (list_all (branch_is_resolved columns variables) bs) all)) is
  where
    by_guard : (t : Bool) → list_all (update_is_resolved columns variables) b.updates ≡ true → (Some r ≡ run s e bs → AreWithin columns r.0)
        → Some r ≡ (if t then Some (writes_of s e b.updates, values_of s e b.replies) else run s e bs) → AreWithin columns r.0
    by_guard true updates rest is = subst (AreWithin columns) (sym (ap writes_in is)) (writes-within s e columns variables b.updates updates)
    by_guard false updates rest is = rest is

-- a guard whose answer is given
pub answer_is_truth : (s : State) (e : Env) (f : Formula) (answer : Bool) → is_ground f ≡ true → (answer ≡ true) ↔ Holds s e outside f → answer ≡ truth s e outside f
answer_is_truth s e f answer ground means =
    let d = Decides-truth s e outside f ground in
    step answer (truth s e outside f) (λ h. d.1 (means.0 h)) (λ h. means.1 (d.0 h))
  where
    step : (a b : Bool) → (a ≡ true → b ≡ true) → (b ≡ true → a ≡ true) → a ≡ b
    step true true f g = refl
    step true false f g = sym (f refl)
    step false true f g = g refl
    step false false f g = refl

-- what is kept of branches
pub record AreRun (s : State) (e : Env) (columns variables : ℕ) (whole rest : List Branch) : Type 0 where
  pub resolved : list_all (branch_is_resolved columns variables) rest ≡ true
  pub rest_fits : RunFits s e whole → RunFits s e rest
  pub whole_fits : RunFits s e rest → RunFits s e whole
  pub runs : run s e rest ≡ run s e whole

pub run_next : (s : State) (e : Env) (columns variables : ℕ) (whole : List Branch) (b : Branch) (rest : List Branch) → AreRun s e columns variables whole (b ∷ rest)
    → FormulaFits s e b.guard → truth s e outside b.guard ≡ false → AreRun s e columns variables whole rest
run_next s e columns variables whole b rest are fit is = record {
  resolved = right_true (branch_is_resolved columns variables b) (list_all (branch_is_resolved columns variables) rest) are.resolved;
  rest_fits = λ w. let f = (are.rest_fits w).1 in subst (λ t. MatchBool t (UpdatesFit s e b.updates × TermsFit s e b.replies) (RunFits s e rest)) is f;
  whole_fits = λ r. are.whole_fits (fit, subst (λ t. MatchBool t (UpdatesFit s e b.updates × TermsFit s e b.replies) (RunFits s e rest)) (sym is) r);
  runs = ap (λ t. if t then Some (writes_of s e b.updates, values_of s e b.replies) else run s e rest) (sym is) ∙ are.runs;
}

-- the branch that is taken fits if the whole does
pub taken_fits : (s : State) (e : Env) (columns variables : ℕ) (whole : List Branch) (b : Branch) (rest : List Branch) → AreRun s e columns variables whole (b ∷ rest)
    → truth s e outside b.guard ≡ true → RunFits s e whole → UpdatesFit s e b.updates × TermsFit s e b.replies
taken_fits s e columns variables whole b rest are is w =
    subst (λ t. MatchBool t (UpdatesFit s e b.updates × TermsFit s e b.replies) (RunFits s e rest)) is (are.rest_fits w).1

-- and gives what the whole gives
pub taken_gives : (s : State) (e : Env) (columns variables : ℕ) (whole : List Branch) (b : Branch) (rest : List Branch) (o : Outcome) → AreRun s e columns variables whole (b ∷ rest)
    → FormulaFits s e b.guard → truth s e outside b.guard ≡ true → (UpdatesFit s e b.updates × TermsFit s e b.replies) × (outcome_of o ≡ (writes_of s e b.updates, values_of s e b.replies))
    → RunFits s e whole × (outcome_in (Some o) ≡ run s e whole)
taken_gives s e columns variables whole b rest o are fit is known = (
  are.whole_fits (fit, subst (λ t. MatchBool t (UpdatesFit s e b.updates × TermsFit s e b.replies) (RunFits s e rest)) (sym is) known.0),
  ap Some known.1 ∙ ap (λ t. if t then Some (writes_of s e b.updates, values_of s e b.replies) else run s e rest) (sym is) ∙ are.runs,
)

pub resolved_in : {A : Type 0} (columns : ℕ) (operations : List Operation) (i n : ℕ) (by : Chosen A) → list_all (operation_is_resolved columns) operations ≡ true →
    list_all (branch_is_resolved columns (2 + n + length (given_in by))) (chosen by (branches_in (slice_get operations i) n)) ≡ true
resolved_in columns operations i n by all = chosen-resolved columns (2 + n) by (branches_in (slice_get operations i) n) (by_operation (slice_get operations i) refl)
  where
    by_operation : (o : Option Operation) → slice_get operations i ≡ o → list_all (resolved_behind columns (2 + n)) (branches_in o n) ≡ true
    by_operation None at = refl
    by_operation (Some o) at = by_count (length o.arguments == n) refl
      where
        by_count : (b : Bool) → (length o.arguments == n) ≡ b → list_all (resolved_behind columns (2 + n)) (if b then o.branches else []) ≡ true
        by_count false is = refl
        by_count true is =
            let whole = at_all (operation_is_resolved columns) operations i o all at in
            let branches = left_true (list_all (resolved_behind columns (2 + length o.arguments)) o.branches) (list_all (λ b. length b.replies == o.replies) o.branches) whole in
            subst (λ m. list_all (resolved_behind columns (2 + m)) o.branches ≡ true) (elim (eqb_tells (length o.arguments) n) [ inl h ↦ h.1 | inr h ↦ absurd (cc (h.0, is)) ]) branches

-- what is computed of a call's branches is what is returned for the call
pub computed_at : (s t : State) (e f : Env) (bs cs : List Branch) (r : Result (Option Outcome) SeqFault) → s ≡ t → e ≡ f → bs ≡ cs
    → IsComputed seq_says outcome_in (RunFits s e bs) (run s e bs) r → IsComputed seq_says outcome_in (RunFits t f cs) (run t f cs) r
computed_at s t e f bs cs r same env branches known =
    subst (λ z. IsComputed seq_says outcome_in (RunFits t f z) (run t f z) r) branches
    (subst (λ z. IsComputed seq_says outcome_in (RunFits t z bs) (run t z bs) r) env
    (subst (λ z. IsComputed seq_says outcome_in (RunFits z e bs) (run z e bs) r) same known))

pub none_applied : (t : State) (f : Env) (cs : List Branch) → IsComputed seq_says outcome_in (RunFits t f cs) (run t f cs) (Ok None) → RunFits t f cs × (option_map (outcome t) (run t f cs) ≡ None)
none_applied t f cs known = (known.0, ap (option_map (outcome t)) (sym known.1))

pub some_applied : (t : State) (f : Env) (cs : List Branch) (o : Outcome) → IsComputed seq_says outcome_in (RunFits t f cs) (run t f cs) (Ok (Some o))
    → RunFits t f cs × (option_map (outcome t) (run t f cs) ≡ Some (stored_all t (writes_view o.writes.items), o.replies.items))
some_applied t f cs o known = (known.0, ap (option_map (outcome t)) (sym known.1))

pub fault_applied : (t : State) (f : Env) (cs : List Branch) (new : State) (r : Result (Option (Vec ℤ Global)) SeqFault) (fault : SeqFault) → new ≡ t → IsErrAnd r (λ y. y ≡ fault)
    → IsComputed seq_says outcome_in (RunFits t f cs) (run t f cs) (Err fault) → IsApplied {R = Vec ℤ Global} (λ reply. reply.items) (option_map (outcome t) (run t f cs)) (RunFits t f cs) t new r
fault_applied t f cs new (Ok x) fault same e known = absurd e
fault_applied t f cs new (Err y) fault same e known = subst (λ z. IsApplied {R = Vec ℤ Global} (λ reply. reply.items) (option_map (outcome t) (run t f cs)) (RunFits t f cs) t new (Err z)) (sym e) (by_fault fault known)
  where
    by_fault : (fault : SeqFault) → IsComputed seq_says outcome_in (RunFits t f cs) (run t f cs) (Err fault) → IsApplied {R = Vec ℤ Global} (λ reply. reply.items) (option_map (outcome t) (run t f cs)) (RunFits t f cs) t new (Err fault)
    by_fault Overflow known = (known, same)
    by_fault OutOfMemory known = same
