-- What is beside the code of a development fits the code.
use Rattle.std.proofs.Common.{◌≡◌, ℕ, zero, suc, ◌+◌, ◌<◌, Bool, true, false, ◌&&◌, cond, Option, List, [], ◌∷◌, ◌++◌, map, length, length-append, append_assoc, Some, refl, sym, ap, ap₂, ◌∙◌, subst, arith}
use Rattle.std.proofs.lemmas.Bool.{eq-eqb, and_from, le-leb}
use Rattle.std.specs.List.{list_all}
use Rattle.std.specs.Prelude.{nat_lt, nat_le, slice_get, is_some}
use Rattle.lc_lemmas.proofs.Booleans.{left_true, right_true}
use Rattle.lc_base.specs.Limits.{path_limit, rider_limit, parameter_limit}
use Rattle.lc_sexp.specs.Trees.{Trees}
use Rattle.lc_term.specs.Lists.{Every}
use Rattle.lc_term.specs.SystemColumns.{column_count}
use Rattle.lc_action.specs.Action.{Action}
use Rattle.lc_object.specs.Syntax as O
use Rattle.lc_object.specs.Syntax.{Point}
use Rattle.lc_object.specs.Edges.{Edge, edges_at, edges_from}
use Rattle.lc_object.specs.Places.{operation_at, operation_in}
use Rattle.lc_object.specs.WellFormed.{variable_count}
use Rattle.lc_object.specs.declared.instr.EdgeKind.{EdgeKind}
use Rattle.lc_object.specs.declared.instr.EdgeKind.TheVariants.{Next, Then}
use Rattle.lc_object_text.proofs.BodiesHold.{IsOperationOf, AreOperationsOf}
use Rattle.lc_object_text.specs.ObjectNames.{Body, first_text}
use Rattle.lc_outline.specs.Development.{Development, On, Outline, first_system, same_kind, on_for, ons_in, on_at}
use Rattle.lc_outline.specs.Resolved.{has_some, is_empty, is_matched, are_matched, deed_is_resolved, condition_is_resolved, rider_is_resolved, takes, on_is_resolved, action_is_resolved, edge_is_resolved}
use Rattle.lc_outline.specs.Scope.{outline_is_scoped, action_is_scoped, column_total, variables_at, outlines_are_scoped}
use Rattle.lc_outline.specs.Limits.{path_total, on_is_limited, outlines_are_limited}
use Rattle.lc_rider.specs.Rider.{Deed, Assign, Marks, Rider}
use Rattle.lc_rider_text.proofs.ActionsKnown.{has_bounds}
use Rattle.lc_rider_text.proofs.OnsLimited.{IsOnLimited}
use Rattle.lc_rider_text.proofs.ReadsScoped.{variable_total}
use Rattle.lc_rider_text.proofs.RidersKnown.{deed_is_known, rider_is_known, IsOnKnown, mark_leaves}
use Rattle.lc_rider_text.specs.Counted.{Goes, AreBranches}
use Rattle.lc_rider_text.specs.Known.{Known, Ways}
use Rattle.lc_seq.specs.Branches.{op_branches}
use Rattle.lc_seq.specs.Specification as Q
use Rattle.lc_outline_text.proofs.Needed.{IsMet}
use Rattle.lc_outline_text.proofs.Outlined.{IsAPoint}
use Rattle.lc_outline_text.specs.Declarations.{Declarations, known_of, own_ways, parameter_count}

-- actions with these numbers of parameters, which use only what is in scope
abbrev pub AreActionsOf : Known → List Trees → List Action → Type 0
AreActionsOf known [] [] = Unit {0}
AreActionsOf known [] (a ∷ actions) = ⊥
AreActionsOf known (f ∷ forms) [] = ⊥
AreActionsOf known (f ∷ forms) (a ∷ actions) =
    ((length a.parameters ≡ parameter_count f) × (has_bounds known a ≡ true)) × AreActionsOf known forms actions

-- a development of what is declared
pub record Fits (d : Declarations) (D : Development) (ps : List (Point × Outline)) : Type 0 where
  pub points : D.object.points ≡ map (λ p. p.0) ps
  pub outlines : D.outlines ≡ map (λ p. p.1) ps
  pub known : Every (IsAPoint d) ps
  pub operations : AreOperationsOf d.declared.bodies D.object.operations
  pub matched : are_matched D.object.operations D.specification.operations ≡ true
  pub counted : length D.specification.operations ≡ length d.declared.operations
  pub goes : AreBranches (known_of d) D.specification.operations
  pub own : (o : ℕ) → o < length d.declared.operations → own_ways d o ≡ slice_get (known_of d).ways o
  pub branched : (k : ℕ) → k < length d.declared.operations → has_some (op_branches D.specification.operations k) ≡ true
  pub columns : first_system D ≡ length d.declared.columns
  pub auxiliaries : length D.specification.columns + length D.object.concretes ≡ d.declared.auxiliaries
  pub actions : AreActionsOf (known_of d) d.actions D.actions

-- ---- tests

all_both : {X : Type 0} (test : X → Bool) (xs ys : List X) → list_all test xs ≡ true → list_all test ys ≡ true → list_all test (xs ++ ys) ≡ true
all_both test [] ys h g = g
all_both test (x ∷ xs) ys h g = and_from (test x) (list_all test (xs ++ ys)) (left_true (test x) (list_all test xs) h) (all_both test xs ys (right_true (test x) (list_all test xs) h) g)

all_weaker : {X : Type 0} (test other : X → Bool) → ((x : X) → test x ≡ true → other x ≡ true) → (xs : List X) → list_all test xs ≡ true → list_all other xs ≡ true
all_weaker test other f [] h = refl
all_weaker test other f (x ∷ xs) h = and_from (other x) (list_all other xs) (f x (left_true (test x) (list_all test xs) h)) (all_weaker test other f xs (right_true (test x) (list_all test xs) h))

-- ---- operations

-- the operation of a body
pub operation_of_body : (bs : List Body) (os : List O.Operation) (k : ℕ) (b : Body) → AreOperationsOf bs os → slice_get bs k ≡ Some b → (o : O.Operation) × (slice_get os k ≡ Some o) × IsOperationOf b o
operation_of_body [] [] k b h e = absurd (cc)
operation_of_body [] (o ∷ os) k b h e = absurd h
operation_of_body (c ∷ bs) [] k b h e = absurd h
operation_of_body (c ∷ bs) (o ∷ os) zero b h e = let same : c ≡ b = cc in (o, refl, subst (λ x. IsOperationOf x o) same h.0)
operation_of_body (c ∷ bs) (o ∷ os) (suc k) b h e = operation_of_body bs os k b h.1 e

-- it is one of the specification's
pub matched_below : (os : List O.Operation) (qs : List Q.Operation) (k : ℕ) (o : O.Operation) → are_matched os qs ≡ true → slice_get os k ≡ Some o → k < length qs
matched_below [] qs k o h e = absurd (cc)
matched_below (p ∷ os) [] k o h e = absurd (cc)
matched_below (p ∷ os) (q ∷ qs) zero o h e = omega arith
matched_below (p ∷ os) (q ∷ qs) (suc k) o h e = omega (arith, matched_below os qs k o (right_true (is_matched p q) (are_matched os qs) h) e)

-- ---- actions

taken : (known : Known) (forms : List Trees) (actions : List Action) (a n : ℕ) → AreActionsOf known forms actions → a < length (map first_text forms) → ((k : ℕ) → slice_get (map parameter_count forms) a ≡ Some k → n ≡ k)
    → takes (slice_get actions a) n ≡ true
taken known [] actions a n h few f = absurd (omega (arith, few))
taken known (t ∷ forms) [] a n h few f = absurd h
taken known (t ∷ forms) (x ∷ actions) zero n h few f = eq-eqb n (length x.parameters) (f (parameter_count t) refl ∙ sym h.0.0)
taken known (t ∷ forms) (x ∷ actions) (suc a) n h few f = taken known forms actions a n h.1 (omega (arith, few)) f

actions_stored : (known : Known) (D : Development) (forms : List Trees) (actions : List Action) → first_system D ≡ length known.columns → AreActionsOf known forms actions → list_all (action_is_resolved D) actions ≡ true
actions_stored known D [] [] e h = refl
actions_stored known D [] (x ∷ actions) e h = absurd h
actions_stored known D (t ∷ forms) [] e h = absurd h
actions_stored known D (t ∷ forms) (x ∷ actions) e h =
    and_from (action_is_resolved D x) (list_all (action_is_resolved D) actions)
    (subst (λ n. (nat_le (length x.parameters) parameter_limit && action_is_scoped (column_count n) x) ≡ true) (sym e) h.0.1)
    (actions_stored known D forms actions e h.1)

pub actions_resolved : (d : Declarations) (D : Development) (ps : List (Point × Outline)) → Fits d D ps → list_all (action_is_resolved D) D.actions ≡ true
actions_resolved d D ps h = actions_stored (known_of d) D d.actions D.actions h.columns h.actions

-- ---- riders

deed_resolved : (d : Declarations) (D : Development) (ps : List (Point × Outline)) (o : ℕ) (x : Deed) → Fits d D ps → o < length d.declared.operations → deed_is_known (known_of d) (own_ways d o) x ≡ true → deed_is_resolved D o x ≡ true
deed_resolved d D ps o (Assign u) h b e =
    subst (λ n. (nat_le n u.column && nat_lt u.column (first_system D)) ≡ true) (sym h.auxiliaries) (subst (λ n. (nat_le d.declared.auxiliaries u.column && nat_lt u.column n) ≡ true) (sym h.columns) e)
deed_resolved d D ps o (Marks k by) h b e =
    mark_leaves (known_of d) D.specification.operations h.goes h.branched o b k by (subst (λ ways. deed_is_known (known_of d) ways (Marks k by) ≡ true) (h.own o b) e)

rider_resolved : (d : Declarations) (D : Development) (ps : List (Point × Outline)) (o : ℕ) → Fits d D ps → o < length d.declared.operations → (r : Rider) → rider_is_known (known_of d) (own_ways d o) r ≡ true → rider_is_resolved D o r ≡ true
rider_resolved d D ps o h b r e =
    and_from (condition_is_resolved r.condition) (deed_is_resolved D o r.deed) (left_true (condition_is_resolved r.condition) (deed_is_known (known_of d) (own_ways d o) r.deed) e)
    (deed_resolved d D ps o r.deed h b (right_true (condition_is_resolved r.condition) (deed_is_known (known_of d) (own_ways d o) r.deed) e))

-- ---- edges

-- what is done at an edge is known; and without it nothing is stored there
on_resolved : (d : Declarations) (D : Development) (ps : List (Point × Outline)) (o : ℕ) (e : Edge) (kind : EdgeKind) (ons : List On) → Fits d D ps → o < length d.declared.operations
    → Every (IsOnKnown (known_of d) (own_ways d o)) ons → (is_some (on_for ons kind) ≡ false → is_empty e.updates ≡ true) → on_is_resolved D o e (on_for ons kind) ≡ true
on_resolved d D ps o e kind [] h b g f = f refl
on_resolved d D ps o e kind (x ∷ ons) h b g f = by_kind (same_kind x.edge kind) (on_resolved d D ps o e kind ons h b g.1) f where
  by_kind : (c : Bool) → ((is_some (on_for ons kind) ≡ false → is_empty e.updates ≡ true) → on_is_resolved D o e (on_for ons kind) ≡ true)
      → (is_some (cond c (Some x) (on_for ons kind)) ≡ false → is_empty e.updates ≡ true) → on_is_resolved D o e (cond c (Some x) (on_for ons kind)) ≡ true
  by_kind true next f =
      and_from (takes (slice_get D.actions x.action) (length x.arguments)) (list_all (rider_is_resolved D o) x.riders)
      (taken (known_of d) d.actions D.actions x.action (length x.arguments) h.actions g.0.0.0 g.0.0.1)
      (all_weaker (rider_is_known (known_of d) (own_ways d o)) (rider_is_resolved D o) (rider_resolved d D ps o h b) x.riders g.0.1)
  by_kind false next f = next f

not_both : {P : Type 0} (b : Bool) → b ≡ true → b ≡ false → P
not_both true h g = absurd (cc)
not_both false h g = absurd (cc)

-- an edge of the point of this number, which stores nothing if it lacks an `on`
abbrev IsEdgeOf : ℕ → List On → Edge → Type 0
IsEdgeOf k ons e = (e.point ≡ k) × (is_some (on_for ons e.kind) ≡ false → is_empty e.updates ≡ true)

edges_of_point : (object : O.Object) (k : ℕ) (i : O.Instr) (ons : List On) → IsMet i ons → Every (IsEdgeOf k ons) (edges_at object k i)
edges_of_point object k (O.Load a t rs l) ons m = ((refl, λ n. refl), tt)
edges_of_point object k (O.Store a t vs l) ons m = ((refl, λ n. not_both (is_some (on_for ons Next)) m n), tt)
edges_of_point object k (O.Cas a t old new l r) ons m = ((refl, λ n. not_both (is_some (on_for ons Then)) m n), ((refl, λ n. refl), tt))
edges_of_point object k (O.Faa a t rs ds l) ons m = ((refl, λ n. not_both (is_some (on_for ons Next)) m n), tt)
edges_of_point object k (O.Set rs vs l) ons m = ((refl, λ n. refl), tt)
edges_of_point object k (O.If c l r) ons m = ((refl, λ n. refl), ((refl, λ n. refl), tt))
edges_of_point object k (O.Return vs) ons m = ((refl, λ n. refl), tt)

-- the edges of a point are those at its number
abbrev AtPlace : Development → ℕ → ℕ → List On → Type 0
AtPlace D k o ons = (operation_at D.object k ≡ o) × ((kind : EdgeKind) → on_at D k kind ≡ on_for ons kind)

placed_edges : (d : Declarations) (D : Development) (ps : List (Point × Outline)) (k o : ℕ) (ons : List On) (es : List Edge) → Fits d D ps → o < length d.declared.operations
    → Every (IsOnKnown (known_of d) (own_ways d o)) ons → AtPlace D k o ons → Every (IsEdgeOf k ons) es → list_all (edge_is_resolved D) es ≡ true
placed_edges d D ps k o ons [] h b g at f = refl
placed_edges d D ps k o ons (e ∷ es) h b g at f =
    and_from (edge_is_resolved D e) (list_all (edge_is_resolved D) es)
    (ap₂ (λ n x. on_is_resolved D n e x) (ap (operation_at D.object) f.0.0 ∙ at.0) (ap (λ n. on_at D n e.kind) f.0.0 ∙ at.1 e.kind) ∙ on_resolved d D ps o e e.kind ons h b g f.0.1)
    (placed_edges d D ps k o ons es h b g at f.1)

-- ---- points

-- the code at the place of a point
code_there : (before rest : List (Point × Outline)) (p : Point × Outline) → slice_get (map (λ q. q.0) (before ++ p ∷ rest)) (length before) ≡ Some p.0
code_there [] rest p = refl
code_there (q ∷ before) rest p = code_there before rest p

outline_there : (before rest : List (Point × Outline)) (p : Point × Outline) → slice_get (map (λ q. q.1) (before ++ p ∷ rest)) (length before) ≡ Some p.1
outline_there [] rest p = refl
outline_there (q ∷ before) rest p = outline_there before rest p

pub record IsThere (D : Development) (k : ℕ) (p : Point × Outline) : Type 0 where
  code : slice_get D.object.points k ≡ Some p.0
  outline : slice_get D.outlines k ≡ Some p.1

there : (d : Declarations) (D : Development) (ps before rest : List (Point × Outline)) (k : ℕ) (p : Point × Outline) → Fits d D ps → ps ≡ before ++ p ∷ rest → length before ≡ k → IsThere D k p
there d D ps before rest k p h e n = record {
  code = ap₂ slice_get (h.points ∙ ap (map (λ q. q.0)) e) (sym n) ∙ code_there before rest p;
  outline = ap₂ slice_get (h.outlines ∙ ap (map (λ q. q.1)) e) (sym n) ∙ outline_there before rest p;
}

variables : (b : Body) (o : O.Operation) → IsOperationOf b o → variable_total (Some (b.call.arguments ++ b.locals)) ≡ variable_count o
variables b o h = omega (arith, length-append b.call.arguments b.locals, h.arguments, h.locals)

-- the operation of a point, and its body
record IsWithin (d : Declarations) (D : Development) (p : Point × Outline) (b : Body) : Type 0 where
  own : p.0.operation < length d.declared.operations
  count : variable_total (Some (b.call.arguments ++ b.locals)) ≡ variables_at D.object (slice_get D.object.operations p.0.operation)

within : (d : Declarations) (D : Development) (ps : List (Point × Outline)) (p : Point × Outline) (b : Body) → Fits d D ps → slice_get d.declared.bodies p.0.operation ≡ Some b → IsWithin d D p b
within d D ps p b h e =
    let (o, f, fit) = operation_of_body d.declared.bodies D.object.operations p.0.operation b h.operations e in
    record {
      own = omega (arith, h.counted, matched_below D.object.operations D.specification.operations p.0.operation o h.matched f);
      count = variables b o fit ∙ sym (ap (variables_at D.object) f);
    }

edges_good : (d : Declarations) (D : Development) (ps : List (Point × Outline)) (k : ℕ) (p : Point × Outline) → Fits d D ps → IsAPoint d p → IsThere D k p → list_all (edge_is_resolved D) (edges_at D.object k p.0.instruction) ≡ true
edges_good d D ps k p h (b, e, g) at =
    placed_edges d D ps k p.0.operation p.1.ons (edges_at D.object k p.0.instruction) h (within d D ps p b h e).own g.named (ap operation_in at.code, λ kind. ap (λ x. on_for (ons_in x) kind) at.outline)
    (edges_of_point D.object k p.0.instruction p.1.ons g.met)

-- the outline of a point uses only what is in scope
outline_good : (d : Declarations) (D : Development) (ps : List (Point × Outline)) (p : Point × Outline) → Fits d D ps → IsAPoint d p
    → outline_is_scoped (column_total D) (variables_at D.object (slice_get D.object.operations p.0.operation)) p.1 ≡ true
outline_good d D ps p h (b, e, g) =
    subst (λ n. outline_is_scoped (column_total D) n p.1 ≡ true) (within d D ps p b h e).count
    (subst (λ n. outline_is_scoped (column_count n) (variable_total (Some (b.call.arguments ++ b.locals))) p.1 ≡ true) (sym h.columns) g.scoped)

outlines_good : (d : Declarations) (D : Development) (ps rest : List (Point × Outline)) → Fits d D ps → Every (IsAPoint d) rest → outlines_are_scoped D (map (λ p. p.0) rest) (map (λ p. p.1) rest) ≡ true
outlines_good d D ps [] h g = refl
outlines_good d D ps (p ∷ rest) h g = and_from _ _ (outline_good d D ps p h g.0) (outlines_good d D ps rest h g.1)

one_behind : (before rest : List (Point × Outline)) (p : Point × Outline) (ps : List (Point × Outline)) → ps ≡ before ++ p ∷ rest → ps ≡ (before ++ p ∷ []) ++ rest
one_behind before rest p ps e = e ∙ sym (append_assoc before (p ∷ []) rest)

edges_resolved_from : (d : Declarations) (D : Development) (ps before rest : List (Point × Outline)) (k : ℕ) → Fits d D ps → ps ≡ before ++ rest → length before ≡ k → Every (IsAPoint d) rest
    → list_all (edge_is_resolved D) (edges_from D.object k (map (λ p. p.0) rest)) ≡ true
edges_resolved_from d D ps before [] k h e n g = refl
edges_resolved_from d D ps before (p ∷ rest) k h e n g =
    all_both (edge_is_resolved D) (edges_at D.object k p.0.instruction) (edges_from D.object (suc k) (map (λ p. p.0) rest)) (edges_good d D ps k p h g.0 (there d D ps before rest k p h e n))
    (edges_resolved_from d D ps (before ++ p ∷ []) rest (suc k) h (one_behind before rest p ps e) (omega (arith, n, length-append before (p ∷ []))) g.1)

pub outlines_scoped : (d : Declarations) (D : Development) (ps : List (Point × Outline)) → Fits d D ps → outlines_are_scoped D D.object.points D.outlines ≡ true
outlines_scoped d D ps h =
    subst (λ xs. outlines_are_scoped D D.object.points xs ≡ true) (sym h.outlines) (subst (λ qs. outlines_are_scoped D qs (map (λ p. p.1) ps) ≡ true) (sym h.points) (outlines_good d D ps ps h h.known))

pub edges_resolved : (d : Declarations) (D : Development) (ps : List (Point × Outline)) → Fits d D ps → list_all (edge_is_resolved D) (edges_from D.object 0 D.object.points) ≡ true
edges_resolved d D ps h = subst (λ qs. list_all (edge_is_resolved D) (edges_from D.object 0 qs) ≡ true) (sym h.points) (edges_resolved_from d D ps [] ps 0 h refl refl h.known)

-- ---- limits

-- what is done at the edges of a point is within its limits
ons_few : (d : Declarations) (D : Development) (own : Option Ways) (o : ℕ) (ons : List On) → AreBranches (known_of d) D.specification.operations → Goes own (op_branches D.specification.operations o)
    → Every (IsOnLimited (known_of d) own) ons → list_all (on_is_limited D.specification.operations o) ons ≡ true
ons_few d D own o [] agree goes h = refl
ons_few d D own o (x ∷ ons) agree goes h =
    let riders = x.riders in
    and_from (on_is_limited D.specification.operations o x) (list_all (on_is_limited D.specification.operations o) ons)
    (and_from (nat_le (length riders) rider_limit) (nat_le (path_total D.specification.operations o riders) path_limit) (le-leb (length riders) rider_limit h.0.0)
    (le-leb (path_total D.specification.operations o riders) path_limit (h.0.1 D.specification.operations o agree goes)))
    (ons_few d D own o ons agree goes h.1)

point_few : (d : Declarations) (D : Development) (ps : List (Point × Outline)) (p : Point × Outline) → Fits d D ps → IsAPoint d p → list_all (on_is_limited D.specification.operations p.0.operation) p.1.ons ≡ true
point_few d D ps p h (b, e, g) =
    let own : p.0.operation < length d.declared.operations = (within d D ps p b h e).own in
    ons_few d D (own_ways d p.0.operation) p.0.operation p.1.ons h.goes
    (subst (λ ways. Goes ways (op_branches D.specification.operations p.0.operation)) (sym (h.own p.0.operation own)) (h.goes p.0.operation (omega (arith, own, h.counted)))) g.limited

outlines_few : (d : Declarations) (D : Development) (ps rest : List (Point × Outline)) → Fits d D ps → Every (IsAPoint d) rest
    → outlines_are_limited D.specification.operations (map (λ p. p.0) rest) (map (λ p. p.1) rest) ≡ true
outlines_few d D ps [] h g = refl
outlines_few d D ps (p ∷ rest) h g = and_from _ _ (point_few d D ps p h g.0) (outlines_few d D ps rest h g.1)

pub outlines_limited : (d : Declarations) (D : Development) (ps : List (Point × Outline)) → Fits d D ps → outlines_are_limited D.specification.operations D.object.points D.outlines ≡ true
outlines_limited d D ps h =
    let operations = D.specification.operations in
    subst (λ xs. outlines_are_limited operations D.object.points xs ≡ true) (sym h.outlines)
    (subst (λ qs. outlines_are_limited operations qs (map (λ p. p.1) ps) ≡ true) (sym h.points) (outlines_few d D ps ps h h.known))
