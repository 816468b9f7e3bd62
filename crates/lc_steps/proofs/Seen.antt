-- What is known about a client at a point, and that riders use only what exists.
use Rattle.std.proofs.Common.{◌≡◌, ℕ, ◌+◌, ◌≤◌, Bool, true, false, ◌&&◌, if◌then◌else◌, List, [], ◌∷◌, ℤ, Option, Some, None, length, refl, sym, ap, subst, ◌∙◌, eq-eqb, arith, inl, inr}
use Rattle.std.specs.Prelude.{slice_get, option_map, nat_le}
use Rattle.std.specs.List.{list_all}
use Rattle.std.proofs.lemmas.Bool.{and_from, leb-true}
use Rattle.std.proofs.lemmas.Option.{same_Some}
use Rattle.lc_lemmas.proofs.Booleans.{left_true, right_true}
use Rattle.lc_lemmas.proofs.Numbers.{test_from_below}
use Rattle.lc_base.specs.Limits.{action_limit, argument_limit, column_limit, condition_limit}
use Rattle.lc_term.specs.Lists.{Every}
use Rattle.lc_term.specs.Meaning.{State}
use Rattle.lc_term.specs.Syntax.{Formula}
use Rattle.lc_term.specs.SystemColumns.{column_count}
use Rattle.lc_term.specs.Truth.{is_ground}
use Rattle.lc_term.specs.Places.{known, is_known, term_passes}
use Rattle.lc_seq.specs.Branches.{arity, op_branches}
use Rattle.lc_seq.specs.Sequential.{given_in}
use Rattle.lc_object.specs.Edges.{Edge}
use Rattle.lc_object.specs.Places.{operation_at}
use Rattle.lc_object.specs.Syntax.{Instr, Load, Store, Cas, Set, Faa, If, Return, Point, Object}
use Rattle.lc_object.specs.WellFormed.{variable_count}
use Rattle.lc_object.specs.declared.instr.EdgeKind.{EdgeKind}
use Rattle.lc_machine.specs.MayRun.{variables_at, variables_in}
use Rattle.lc_machine.specs.Placed.{is_count, is_placed}
use Rattle.lc_machine.specs.Step.{Does, Outcome, Goes, Answers}
use Rattle.lc_machine.specs.World.{In, initial_numbers}
use Rattle.lc_machine.proofs.Bodies.{point_is_placed, answers_next}
use Rattle.lc_machine.proofs.EdgeLaw.{by_edge}
use Rattle.lc_machine.proofs.Lengths.{assigned_length}
use Rattle.lc_rider.specs.Rider.{Marking, Own, Other, Note, Deed, Assign, Marks, Rider}
use Rattle.lc_outline.specs.Development.{Development, On, first_system, same_kind, ons_in, on_for, on_at, riders_in, riders_at}
use Rattle.lc_outline.specs.Limits.{is_limited, outlines_are_limited}
use Rattle.lc_outline.specs.Sizes.{sizes_of, count}
use Rattle.lc_outline.specs.Resolved.{is_resolved, IsConditionResolved, IsRiderResolved, IsOnResolved}
use Rattle.lc_outline.specs.Scope.{column_total, IsMarkingScoped, IsDeedScoped, IsConditionScoped, IsRiderScoped, IsOnScoped}
use Rattle.lc_outline.proofs.Matched.{all_resolved, arity_and_replies_few}
use Rattle.lc_outline.proofs.Resolving.{passed_is_resolved, all_scoped}
use Rattle.lc_outline.proofs.Scoped.{scoped_known}
use Rattle.lc_ride.specs.RideLaws.{IsOpen}
use Rattle.lc_ride.specs.RideView.{AreThere, marking_is_evaluable, deed_is_evaluable, condition_is_evaluable, rider_is_evaluable}
use Rattle.lc_steps.specs.StepParts.{AreRidersSeen, rider_edge, rider_variables}
use Rattle.lc_steps.proofs.Telling.{AreOpen}
use Rattle.lc_steps.proofs.Wider.{branches-wider}
use Rattle.lc_machine.proofs.ArrayColumns.{initial_count}
use Rattle.lc_machine.proofs.Stepping.{counted}

-- the columns of specification and system are there
pub columns_are_there : (D : Development) → is_resolved D ≡ true → (n : ℕ) → n ≡ column_count (first_system D) → AreThere D.specification.operations (first_system D) n
columns_are_there D R n is = record {
  system = omega arith;
  branches = λ o. branches-wider (length D.specification.columns) n (2 + arity D.specification.operations o) (omega arith) (op_branches D.specification.operations o) (all_resolved D (passed_is_resolved D R) o);
}

pub arity_is_small : (D : Development) → is_resolved D ≡ true → (o : ℕ) → arity D.specification.operations o ≤ argument_limit
arity_is_small D R o = (arity_and_replies_few D (passed_is_resolved D R) o).0

-- and those of the object
pub columns-there : (D : Development) → is_resolved D ≡ true → (n : ℕ) → n ≡ column_count (first_system D) → length (initial_numbers D.object) ≤ n
columns-there D R n is = let a = initial_count D.object in let b = (passed_is_resolved D R).abstracts in omega arith

-- and there are few but for those of the system
pub few_columns : (D : Development) → is_limited D ≡ true → first_system D ≤ column_limit
few_columns D h =
    let columns = nat_le (first_system D) column_limit in
    let actions = nat_le (length D.actions) action_limit in
    let outlines = outlines_are_limited D.specification.operations D.object.points D.outlines in
    let conditions = nat_le (count (sizes_of D)) condition_limit in
    leb-true (first_system D) column_limit (left_true columns actions (left_true (columns && actions) outlines (left_true (columns && actions && outlines) conditions h)))

-- ---- places

pub variables-there : (object : Object) (p : ℕ) (vs : List ℤ) → is_placed object (In p vs) ≡ true → variables_at object p ≡ Some (length vs)
variables-there object p vs h = counted (variables_at object p) (length vs) h

pub placed-there : (object : Object) (p : ℕ) (vs : List ℤ) → variables_at object p ≡ Some (length vs) → is_placed object (In p vs) ≡ true
placed-there object p vs e = ap (λ m. is_count m (length vs)) e ∙ eq-eqb (length vs) (length vs) refl

-- if there are variables there is a point
pub point-there : (object : Object) (p n : ℕ) → variables_at object p ≡ Some n → (point : Point) × (slice_get object.points p ≡ Some point)
point-there object p n e = by (slice_get object.points p) refl e
  where
    by : (found : Option Point) → slice_get object.points p ≡ found → variables_in object found ≡ Some n → (point : Point) × (slice_get object.points p ≡ Some point)
    by None is e = absurd cc
    by (Some point) is e = (point, is)

-- a client that goes on has as many variables
pub same-count : (object : Object) (s s' : State) (vs new : List ℤ) (i : Instr) (k : EdgeKind) (q : ℕ) → Does object s vs i k s' (Goes q new) → length new ≡ length vs
same-count object s s' vs new (Load a t rs l) k q (e, f, is) = count is (assigned_length vs rs _)
  where
    count : {l : ℕ} {us : List ℤ} → Goes q new ≡ Goes l us → length us ≡ length vs → length new ≡ length vs
    count {us = us} is h = let same : new ≡ us = cc is in ap length same ∙ h
same-count object s s' vs new (Store a t us l) k q (e, f, is) = ap length (let same : new ≡ vs = cc is in same)
same-count object s s' vs new (Cas a t old us l m) k q (inl (e, f, g, is)) = ap length (let same : new ≡ vs = cc is in same)
same-count object s s' vs new (Cas a t old us l m) k q (inr (e, f, g, is)) = ap length (let same : new ≡ vs = cc is in same)
same-count object s s' vs new (Set rs us l) k q (e, f, is) = count is (assigned_length vs rs _)
  where
    count : {l : ℕ} {us : List ℤ} → Goes q new ≡ Goes l us → length us ≡ length vs → length new ≡ length vs
    count {us = us} is h = let same : new ≡ us = cc is in ap length same ∙ h
same-count object s s' vs new (Faa a t rs ds l) k q (e, f, is) = count is (assigned_length vs rs _)
  where
    count : {l : ℕ} {us : List ℤ} → Goes q new ≡ Goes l us → length us ≡ length vs → length new ≡ length vs
    count {us = us} is h = let same : new ≡ us = cc is in ap length same ∙ h
same-count object s s' vs new (If f l m) k q (inl (e, g, h, is)) = ap length (let same : new ≡ vs = cc is in same)
same-count object s s' vs new (If f l m) k q (inr (e, g, h, is)) = ap length (let same : new ≡ vs = cc is in same)
same-count object s s' vs new (Return us) k q (e, f, is) = absurd (cc is)

-- ---- riders

all-true : {A : Type 0} (p : A → Bool) (xs : List A) → Every (λ x. p x ≡ true) xs → list_all p xs ≡ true
all-true p [] h = refl
all-true p (x ∷ xs) h = and_from (p x) (list_all p xs) h.0 (all-true p xs h.1)

module _ (columns n : ℕ) where
  marking-seen : (k : Marking) → IsMarkingScoped columns n k → marking_is_evaluable columns n k ≡ true
  marking-seen Own h = refl
  marking-seen (Other t p) h = h
  marking-seen Note h = refl

  deed-seen : (d : Deed) → IsDeedScoped columns n d → deed_is_evaluable columns n d ≡ true
  deed-seen (Assign u) h = and_from _ _ (test_from_below u.column columns h.column) (and_from _ _ h.index h.value)
  deed-seen (Marks k by) h = and_from _ _ (all-true (term_passes (known columns n)) (given_in by) h.1) (marking-seen k h.0)

  condition-seen : (f : Option Formula) → IsConditionResolved f → IsConditionScoped columns n f → condition_is_evaluable columns n f ≡ true
  condition-seen None plain scoped = refl
  condition-seen (Some f) plain scoped = and_from (is_ground f) (is_known columns n f) plain (scoped_known columns n f plain scoped)

  riders-seen : (D : Development) (o : ℕ) (rs : List Rider) → Every (IsRiderResolved D o) rs → Every (IsRiderScoped columns n) rs → list_all (rider_is_evaluable columns n) rs ≡ true
  riders-seen D o [] h s = refl
  riders-seen D o (r ∷ rs) h s =
      and_from (rider_is_evaluable columns n r) (list_all (rider_is_evaluable columns n) rs)
      (and_from (condition_is_evaluable columns n r.condition) (deed_is_evaluable columns n r.deed) (condition-seen r.condition h.0.0 s.0.0) (deed-seen r.deed s.0.1))
      (riders-seen D o rs h.1 s.1)

  -- what is done at an edge, if anything is
  abbrev IsFoundScoped : Option On → Type 0
  IsFoundScoped None = Unit {0}
  IsFoundScoped (Some x) = IsOnScoped columns n x

  for-scoped : (xs : List On) (k : EdgeKind) → Every (IsOnScoped columns n) xs → IsFoundScoped (on_for xs k)
  for-scoped [] k h = tt
  for-scoped (x ∷ xs) k h = by (for-scoped xs k h.1) (same_kind x.edge k)
    where
      by : IsFoundScoped (on_for xs k) → (b : Bool) → IsFoundScoped (if b then Some x else on_for xs k)
      by rest true = h.0
      by rest false = rest

  found-seen : (D : Development) (o : ℕ) (e : Edge) (found : Option On) → IsOnResolved D o e found → IsFoundScoped found → list_all (rider_is_evaluable columns n) (riders_in found) ≡ true
  found-seen D o e None h s = refl
  found-seen D o e (Some x) h s = riders-seen D o x.riders h.1 s.riders

-- the riders of an edge that the instruction at a point goes by
edge-seen : (D : Development) → is_resolved D ≡ true → (p n : ℕ) (point : Point) → slice_get D.object.points p ≡ Some point → variables_at D.object p ≡ Some n →
    (s s' : State) (vs : List ℤ) (k : EdgeKind) (outcome : Outcome) → Does D.object s vs point.instruction k s' outcome → AreRidersSeen D p k n
edge-seen D R p n point at count s s' vs k outcome does =
    let whole = passed_is_resolved D R in
    let place = point_is_placed D.object whole.object p point at in
    let o = place.operation in
    let same : variable_count o ≡ n = same_Some (variable_count o) n (sym (ap (variables_in D.object) at ∙ ap (option_map variable_count) place.is) ∙ count) in
    let outline = (all_scoped D R).outlines p point o at place.is in
    let scoped : IsFoundScoped (column_total D) (variable_count o) (on_at D p k) =
    subst (λ found. IsFoundScoped (column_total D) (variable_count o) (on_for (ons_in found) k)) (sym outline.1) (for-scoped (column_total D) (variable_count o) outline.0.ons k outline.2.ons) in
    let gone = by_edge D.object whole.object p point at s s' vs k outcome does in
    let e = gone.0 in
    let on = subst (λ j. IsOnResolved D (operation_at D.object e.point) e (on_at D p j)) gone.1.2
    (subst (λ q. IsOnResolved D (operation_at D.object e.point) e (on_at D q e.kind)) gone.1.1 (whole.ons e gone.1.0)) in
    subst (AreRidersSeen D p k) same (found-seen (column_total D) (variable_count o) D (operation_at D.object e.point) e (on_at D p k) on scoped)

-- the riders that are done after the instruction, with the variables that they see
pub outcome-seen : (D : Development) → is_resolved D ≡ true → (p : ℕ) (point : Point) → slice_get D.object.points p ≡ Some point → (s s' : State) (vs : List ℤ) → variables_at D.object p ≡ Some (length vs) →
    (k : EdgeKind) (outcome : Outcome) → Does D.object s vs point.instruction k s' outcome → AreRidersSeen D p (rider_edge k outcome) (length (rider_variables vs outcome))
outcome-seen D R p point at s s' vs count k (Goes q new) does =
    subst (AreRidersSeen D p k) (sym (same-count D.object s s' vs new point.instruction k q does)) (edge-seen D R p (length vs) point at count s s' vs k (Goes q new) does)
outcome-seen D R p point at s s' vs count k (Answers numbers) does =
    let place = point_is_placed D.object (passed_is_resolved D R).object p point at in
    subst (λ j. AreRidersSeen D p j (length vs)) (answers_next D.object point.operation place.operation s vs k s' point.instruction numbers does)
    (edge-seen D R p (length vs) point at count s s' vs k (Answers numbers) does)

-- ---- conditions

condition-open : (columns n : ℕ) (f : Option Formula) → condition_is_evaluable columns n f ≡ true → IsOpen f
condition-open columns n None h = tt
condition-open columns n (Some f) h = left_true (is_ground f) (is_known columns n f) h

all-open : (columns n : ℕ) (rs : List Rider) → list_all (rider_is_evaluable columns n) rs ≡ true → Every (λ (r : Rider). IsOpen r.condition) rs
all-open columns n [] h = tt
all-open columns n (r ∷ rs) h = (
  condition-open columns n r.condition
      (left_true (condition_is_evaluable columns n r.condition) (deed_is_evaluable columns n r.deed) (left_true (rider_is_evaluable columns n r) (list_all (rider_is_evaluable columns n) rs) h)),
  all-open columns n rs (right_true (rider_is_evaluable columns n r) (list_all (rider_is_evaluable columns n) rs) h),
)

pub open-there : (D : Development) (p n : ℕ) (k : EdgeKind) → AreRidersSeen D p k n → AreOpen D p k
open-there D p n k seen = all-open (column_count (first_system D)) n (riders_at D p k) seen
