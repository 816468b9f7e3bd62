-- The table of edges gives the steps.
use Rattle.std.proofs.Common.{◌≡◌, ℕ, ℤ, ◌+ℤ◌, ◌+◌, ◌≤◌, ◌⊎◌, true, List, [], ◌∷◌, ◌++◌, length, Some, zero, suc, refl, sym, ap, ap₂, ◌∙◌, subst, inl, inr, arith, add-zero}
use Rattle.std.specs.Prelude.{slice_get}
use Rattle.std.proofs.lemmas.Option.{same_Some}
use Rattle.lc_term.specs.Syntax.{Term, Formula, Not, And, formulas}
use Rattle.lc_term.specs.Meaning.{State, outside, AllHold, EachHolds}
use Rattle.lc_term.specs.State.{with_cell}
use Rattle.lc_object.specs.Syntax.{Instr, Load, Store, Cas, Set, Faa, If, Return, Point, Object}
use Rattle.lc_object.specs.WellFormed.{is_object}
use Rattle.lc_object.specs.Edges.{Edge, array_columns, reads, row_updates, row_sums, row_facts, edges_at, edges_from}
use Rattle.lc_object.specs.declared.instr.EdgeKind.{EdgeKind}
use Rattle.lc_object.specs.declared.instr.EdgeKind.TheVariants.{Then, Else}
use Rattle.lc_machine.specs.World.{variable}
use Rattle.lc_machine.specs.Step.{number, numbers, row, with_row, sums, assigned, Does, Outcome, Goes}
use Rattle.lc_machine.specs.EdgeSteps.{updated, GoesBy, IsIn, GoesBySome}
use Rattle.lc_machine.specs.MayRun.{MayRun}
use Rattle.lc_machine.proofs.Promised.{may_run_with}

-- ---- rows

row_read : (s : State) (vs : List ℤ) (cs : List ℕ) (t : Term) → numbers s vs (reads cs t) ≡ row s cs (number s vs t)
row_read s vs [] t = refl
row_read s vs (c ∷ cs) t = ap (λ ns. s c (number s vs t) ∷ ns) (row_read s vs cs t)

row_updated : (s : State) (vs : List ℤ) (m : State) (cs : List ℕ) (t : Term) (us : List Term) → updated s vs m (row_updates cs t us) ≡ with_row m cs (number s vs t) (numbers s vs us)
row_updated s vs m [] t us = refl
row_updated s vs m (c ∷ cs) t [] = refl
row_updated s vs m (c ∷ cs) t (u ∷ us) = row_updated s vs (with_cell m c (number s vs t) (number s vs u)) cs t us

row_summed : (s : State) (vs : List ℤ) (cs : List ℕ) (t : Term) (ds : List Term) → numbers s vs (row_sums cs t ds) ≡ sums (row s cs (number s vs t)) (numbers s vs ds)
row_summed s vs [] t ds = refl
row_summed s vs (c ∷ cs) t [] = refl
row_summed s vs (c ∷ cs) t (d ∷ ds) = ap (λ ns. (s c (number s vs t) +ℤ number s vs d) ∷ ns) (row_summed s vs cs t ds)

added : (s : State) (vs : List ℤ) (cs : List ℕ) (t : Term) (ds : List Term) →
    updated s vs s (row_updates cs t (row_sums cs t ds)) ≡ with_row s cs (number s vs t) (sums (row s cs (number s vs t)) (numbers s vs ds))
added s vs cs t ds = row_updated s vs s cs t (row_sums cs t ds) ∙ ap (with_row s cs (number s vs t)) (row_summed s vs cs t ds)

-- the head and the rest of equal lists
head_same : {A : Type 0} (x y : A) (xs ys : List A) → x ∷ xs ≡ y ∷ ys → x ≡ y
head_same x y xs ys e = cc

tail_same : {A : Type 0} (x y : A) (xs ys : List A) → x ∷ xs ≡ y ∷ ys → xs ≡ ys
tail_same x y xs ys e = cc

row_holds : (s : State) (vs : List ℤ) (cs : List ℕ) (t : Term) (us : List Term) → row s cs (number s vs t) ≡ numbers s vs us → EachHolds s (variable vs) (row_facts cs t us)
row_holds s vs [] t us e = tt
row_holds s vs (c ∷ cs) t [] e = tt
row_holds s vs (c ∷ cs) t (u ∷ us) e = (
  head_same (s c (number s vs t)) (number s vs u) (row s cs (number s vs t)) (numbers s vs us) e,
  row_holds s vs cs t us (tail_same (s c (number s vs t)) (number s vs u) (row s cs (number s vs t)) (numbers s vs us) e),
)

row_held : (s : State) (vs : List ℤ) (cs : List ℕ) (t : Term) (us : List Term) → length cs ≡ length us → EachHolds s (variable vs) (row_facts cs t us) →
    row s cs (number s vs t) ≡ numbers s vs us
row_held s vs [] t [] e h = refl
row_held s vs [] t (u ∷ us) e h = absurd (omega arith)
row_held s vs (c ∷ cs) t [] e h = absurd (omega arith)
row_held s vs (c ∷ cs) t (u ∷ us) e h = ap₂ (λ x xs. x ∷ xs) h.0 (row_held s vs cs t us (omega arith) h.1)

all_from_each : (s : State) (e : ℕ → ℤ) (fs : List Formula) → EachHolds s e fs → AllHold s e outside (formulas fs)
all_from_each s e [] h = tt
all_from_each s e (f ∷ fs) h = (h.0, all_from_each s e fs h.1)

each_from_all : (s : State) (e : ℕ → ℤ) (fs : List Formula) → AllHold s e outside (formulas fs) → EachHolds s e fs
each_from_all s e [] h = tt
each_from_all s e (f ∷ fs) h = (h.0, each_from_all s e fs h.1)

-- ---- the edges of one instruction

-- some edge of these, of this kind, is gone
abbrev pub GoesIn : List Edge → EdgeKind → State → List ℤ → State → Outcome → Type 0
GoesIn es kind s vs s' outcome = (e : Edge) × IsIn e es × (e.kind ≡ kind) × GoesBy e s vs s' outcome

one : (x : Edge) (kind : EdgeKind) (s : State) (vs : List ℤ) (s' : State) (outcome : Outcome) → GoesIn (x ∷ []) kind s vs s' outcome → (x.kind ≡ kind) × GoesBy x s vs s' outcome
one x kind s vs s' outcome (e, inl is, k, goes) = (ap (λ (y : Edge). y.kind) (sym is) ∙ k, subst (λ (y : Edge). GoesBy y s vs s' outcome) is goes)
one x kind s vs s' outcome (e, inr none, k, goes) = absurd none

two : (x y : Edge) (kind : EdgeKind) (s : State) (vs : List ℤ) (s' : State) (outcome : Outcome) → GoesIn (x ∷ y ∷ []) kind s vs s' outcome →
    ((x.kind ≡ kind) × GoesBy x s vs s' outcome) ⊎ ((y.kind ≡ kind) × GoesBy y s vs s' outcome)
two x y kind s vs s' outcome (e, inl is, k, goes) = inl (ap (λ (z : Edge). z.kind) (sym is) ∙ k, subst (λ (z : Edge). GoesBy z s vs s' outcome) is goes)
two x y kind s vs s' outcome (e, inr (inl is), k, goes) = inr (ap (λ (z : Edge). z.kind) (sym is) ∙ k, subst (λ (z : Edge). GoesBy z s vs s' outcome) is goes)
two x y kind s vs s' outcome (e, inr (inr none), k, goes) = absurd none

back_two : (object : Object) (p a : ℕ) (t : Term) (old new : List Term) (l m : ℕ) (kind : EdgeKind) (s : State) (vs : List ℤ) (s' : State) (outcome : Outcome) →
    length (array_columns object a) ≡ length old →
    ((Then ≡ kind) × (EachHolds s (variable vs) (row_facts (array_columns object a) t old) × (s' ≡ updated s vs s (row_updates (array_columns object a) t new)) × (outcome ≡ Goes l vs)))
    ⊎ ((Else ≡ kind) × (EachHolds s (variable vs) (Not (And (formulas (row_facts (array_columns object a) t old))) ∷ []) × (s' ≡ s) × (outcome ≡ Goes m vs))) →
    Does object s vs (Cas a t old new l m) kind s' outcome
back_two object p a t old new l m kind s vs s' outcome wide (inl (k, (facts, e, out))) =
    inl (row_held s vs (array_columns object a) t old wide facts, sym k, e ∙ row_updated s vs s (array_columns object a) t new, out)
back_two object p a t old new l m kind s vs s' outcome wide (inr (k, (facts, e, out))) =
    inr ((λ same. facts.0 (all_from_each s (variable vs) (row_facts (array_columns object a) t old) (row_holds s vs (array_columns object a) t old same))), sym k, e, out)

back_test : (object : Object) (f : Formula) (l m : ℕ) (kind : EdgeKind) (s : State) (vs : List ℤ) (s' : State) (outcome : Outcome) →
    ((Then ≡ kind) × (EachHolds s (variable vs) (f ∷ []) × (s' ≡ s) × (outcome ≡ Goes l vs))) ⊎ ((Else ≡ kind) × (EachHolds s (variable vs) (Not f ∷ []) × (s' ≡ s) × (outcome ≡ Goes m vs))) →
    Does object s vs (If f l m) kind s' outcome
back_test object f l m kind s vs s' outcome (inl (k, (facts, e, out))) = inl (facts.0, sym k, e, out)
back_test object f l m kind s vs s' outcome (inr (k, (facts, e, out))) = inr (facts.0, sym k, e, out)

goes : (object : Object) (p n : ℕ) (i : Instr) (kind : EdgeKind) (s : State) (vs : List ℤ) (s' : State) (outcome : Outcome) → MayRun object n i →
    Does object s vs i kind s' outcome → GoesIn (edges_at object p i) kind s vs s' outcome
goes object p n (Load a t rs l) kind s vs s' outcome may (k, e, out) =
    (_, inl refl, sym k, (tt, e, out ∙ ap (λ ns. Goes l (assigned vs rs ns)) (sym (row_read s vs (array_columns object a) t))))
goes object p n (Store a t us l) kind s vs s' outcome may (k, e, out) = (_, inl refl, sym k, (tt, e ∙ sym (row_updated s vs s (array_columns object a) t us), out))
goes object p n (Cas a t old new l m) kind s vs s' outcome may (inl (same, k, e, out)) =
    (_, inl refl, sym k, (row_holds s vs (array_columns object a) t old same, e ∙ sym (row_updated s vs s (array_columns object a) t new), out))
goes object p n (Cas a t old new l m) kind s vs s' outcome may (inr (differs, k, e, out)) = (
  _,
  inr (inl refl),
  sym k,
  (((λ all. differs (row_held s vs (array_columns object a) t old may.0.1 (each_from_all s (variable vs) (row_facts (array_columns object a) t old) all))), tt), e, out),
)
goes object p n (Set rs us l) kind s vs s' outcome may (k, e, out) = (_, inl refl, sym k, (tt, e, out))
goes object p n (Faa a t rs ds l) kind s vs s' outcome may (k, e, out) =
    (_, inl refl, sym k, (tt, e ∙ sym (added s vs (array_columns object a) t ds), out ∙ ap (λ ns. Goes l (assigned vs rs ns)) (sym (row_read s vs (array_columns object a) t))))
goes object p n (If f l m) kind s vs s' outcome may (inl (h, k, e, out)) = (_, inl refl, sym k, ((h, tt), e, out))
goes object p n (If f l m) kind s vs s' outcome may (inr (h, k, e, out)) = (_, inr (inl refl), sym k, ((h, tt), e, out))
goes object p n (Return us) kind s vs s' outcome may (k, e, out) = (_, inl refl, sym k, (tt, e, out))

does : (object : Object) (p n : ℕ) (i : Instr) (kind : EdgeKind) (s : State) (vs : List ℤ) (s' : State) (outcome : Outcome) → MayRun object n i →
    GoesIn (edges_at object p i) kind s vs s' outcome → Does object s vs i kind s' outcome
does object p n (Load a t rs l) kind s vs s' outcome may g =
    let h = one _ kind s vs s' outcome g in
    (sym h.0, h.1.1, h.1.2 ∙ ap (λ ns. Goes l (assigned vs rs ns)) (row_read s vs (array_columns object a) t))
does object p n (Store a t us l) kind s vs s' outcome may g =
    let h = one _ kind s vs s' outcome g in (sym h.0, h.1.1 ∙ row_updated s vs s (array_columns object a) t us, h.1.2)
does object p n (Cas a t old new l m) kind s vs s' outcome may g = back_two object p a t old new l m kind s vs s' outcome may.0.1 (two _ _ kind s vs s' outcome g)
does object p n (Set rs us l) kind s vs s' outcome may g = let h = one _ kind s vs s' outcome g in (sym h.0, h.1.1, h.1.2)
does object p n (Faa a t rs ds l) kind s vs s' outcome may g =
    let h = one _ kind s vs s' outcome g in
    (sym h.0, h.1.1 ∙ added s vs (array_columns object a) t ds, h.1.2 ∙ ap (λ ns. Goes l (assigned vs rs ns)) (row_read s vs (array_columns object a) t))
does object p n (If f l m) kind s vs s' outcome may g = back_test object f l m kind s vs s' outcome (two _ _ kind s vs s' outcome g)
does object p n (Return us) kind s vs s' outcome may g = let h = one _ kind s vs s' outcome g in (sym h.0, h.1.1, h.1.2)

-- ---- the whole table

in_front : {A : Type 0} (x : A) (xs ys : List A) → IsIn x xs → IsIn x (xs ++ ys)
in_front x [] ys h = absurd h
in_front x (z ∷ zs) ys (inl e) = inl e
in_front x (z ∷ zs) ys (inr h) = inr (in_front x zs ys h)

pub in_back : {A : Type 0} (x : A) (xs ys : List A) → IsIn x ys → IsIn x (xs ++ ys)
in_back x [] ys h = h
in_back x (z ∷ zs) ys h = inr (in_back x zs ys h)

pub in_either : {A : Type 0} (x : A) (xs ys : List A) → IsIn x (xs ++ ys) → IsIn x xs ⊎ IsIn x ys
in_either x [] ys h = inr h
in_either x (z ∷ zs) ys (inl e) = inl (inl e)
in_either x (z ∷ zs) ys (inr h) = elim (in_either x zs ys h) [ inl k ↦ inl (inr k) | inr k ↦ inr k ]

pub of_point : (object : Object) (p : ℕ) (i : Instr) (e : Edge) → IsIn e (edges_at object p i) → e.point ≡ p
of_point object p (Load a t rs l) e (inl is) = ap (λ (x : Edge). x.point) is
of_point object p (Load a t rs l) e (inr none) = absurd none
of_point object p (Store a t us l) e (inl is) = ap (λ (x : Edge). x.point) is
of_point object p (Store a t us l) e (inr none) = absurd none
of_point object p (Cas a t old new l m) e (inl is) = ap (λ (x : Edge). x.point) is
of_point object p (Cas a t old new l m) e (inr (inl is)) = ap (λ (x : Edge). x.point) is
of_point object p (Cas a t old new l m) e (inr (inr none)) = absurd none
of_point object p (Set rs us l) e (inl is) = ap (λ (x : Edge). x.point) is
of_point object p (Set rs us l) e (inr none) = absurd none
of_point object p (Faa a t rs ds l) e (inl is) = ap (λ (x : Edge). x.point) is
of_point object p (Faa a t rs ds l) e (inr none) = absurd none
of_point object p (If f l m) e (inl is) = ap (λ (x : Edge). x.point) is
of_point object p (If f l m) e (inr (inl is)) = ap (λ (x : Edge). x.point) is
of_point object p (If f l m) e (inr (inr none)) = absurd none
of_point object p (Return us) e (inl is) = ap (λ (x : Edge). x.point) is
of_point object p (Return us) e (inr none) = absurd none

from_on : (object : Object) (q : ℕ) (ps : List Point) (e : Edge) → IsIn e (edges_from object q ps) → q ≤ e.point
from_on object q [] e h = absurd h
from_on object q (x ∷ ps) e h =
    elim (in_either e (edges_at object q x.instruction) (edges_from object (suc q) ps) h) [
      | inl k ↦ (let at = of_point object q x.instruction e k in omega arith)
      | inr k ↦ (let on = from_on object (suc q) ps e k in omega arith)
    ]

in_table : (object : Object) (q : ℕ) (ps : List Point) (k m : ℕ) (point : Point) (e : Edge) → slice_get ps k ≡ Some point → m ≡ q + k → IsIn e (edges_at object m point.instruction) →
    IsIn e (edges_from object q ps)
in_table object q [] k m point e at is h = cc
in_table object q (x ∷ ps) zero m point e at is h =
    in_front e (edges_at object q x.instruction) (edges_from object (suc q) ps)
    (subst (λ j. IsIn e (edges_at object j x.instruction)) (is ∙ add-zero q) (subst (λ (y : Point). IsIn e (edges_at object m y.instruction)) (sym (same_Some x point at)) h))
in_table object q (x ∷ ps) (suc k) m point e at is h =
    in_back e (edges_at object q x.instruction) (edges_from object (suc q) ps) (in_table object (suc q) ps k m point e at (is ∙ omega arith) h)

of_table : (object : Object) (q : ℕ) (ps : List Point) (k m : ℕ) (point : Point) (e : Edge) → slice_get ps k ≡ Some point → m ≡ q + k → e.point ≡ m → IsIn e (edges_from object q ps) →
    IsIn e (edges_at object m point.instruction)
of_table object q [] k m point e at is on h = cc
of_table object q (x ∷ ps) zero m point e at is on h =
    elim (in_either e (edges_at object q x.instruction) (edges_from object (suc q) ps) h) [
      | inl here ↦ subst (λ (y : Point). IsIn e (edges_at object m y.instruction)) (same_Some x point at) (subst (λ j. IsIn e (edges_at object j x.instruction)) (sym (is ∙ add-zero q)) here)
      | inr later ↦ (let low = from_on object (suc q) ps e later in absurd (omega arith))
    ]
of_table object q (x ∷ ps) (suc k) m point e at is on h =
    elim (in_either e (edges_at object q x.instruction) (edges_from object (suc q) ps) h) [
      | inl here ↦ (let low = of_point object q x.instruction e here in absurd (omega arith))
      | inr later ↦ of_table object (suc q) ps k m point e at (is ∙ omega arith) on later
    ]

pub by_edge : (object : Object) → is_object object ≡ true → (p : ℕ) (point : Point) → slice_get object.points p ≡ Some point →
    (s s' : State) (vs : List ℤ) (kind : EdgeKind) (outcome : Outcome) → Does object s vs point.instruction kind s' outcome → GoesBySome object p kind s vs s' outcome
by_edge object well p point at s s' vs kind outcome done =
    let may = may_run_with object well p point at in
    let g = goes object p may.0 point.instruction kind s vs s' outcome may.1 done in
    (g.0, (in_table object 0 object.points p p point g.0 at (omega arith) g.1, of_point object p point.instruction g.0 g.1, g.2), g.3)

pub from_edge : (object : Object) → is_object object ≡ true → (p : ℕ) (point : Point) → slice_get object.points p ≡ Some point →
    (s s' : State) (vs : List ℤ) (kind : EdgeKind) (outcome : Outcome) → GoesBySome object p kind s vs s' outcome → Does object s vs point.instruction kind s' outcome
from_edge object well p point at s s' vs kind outcome (e, edge, gone) =
    let may = may_run_with object well p point at in
    does object p may.0 point.instruction kind s vs s' outcome may.1 (e, of_table object 0 object.points p p point e at (omega arith) edge.1 edge.0, edge.2, gone)
