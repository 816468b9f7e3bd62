-- Each condition of a resolved development uses no variables but those that it counts.
use Rattle.std.proofs.Common.{◌≡◌, ℕ, zero, suc, ◌+◌, ◌≤◌, ◌&&◌, Bool, true, false, if◌then◌else◌, List, [], ◌∷◌, ◌++◌, map, length, replicate, ℤ, pos, Option, Some, None, IsTrue, refl, subst, arith}
use Rattle.std.specs.Prelude.{slice_get}
use Rattle.std.proofs.lemmas.Bool.{and_from}
use Rattle.lc_term.specs.Lists.{Every, numbered, concat_map, concat_places}
use Rattle.lc_term.specs.Syntax.{Term, Number, Variable, Column, Base, Formula, Not, Eq}
use Rattle.lc_term.specs.Replacement.{replacing, replace}
use Rattle.lc_term.specs.Said.{told, variables_from}
use Rattle.lc_term.specs.SystemColumns.{pend, op_column, arg_columns, column_count}
use Rattle.lc_term.proofs.Stores.{Every-append, Every-map}
use Rattle.lc_object.specs.Syntax.{Operation, Point}
use Rattle.lc_object.specs.Edges.{Edge, edges}
use Rattle.lc_object.specs.WellFormed.{variable_count}
use Rattle.lc_action.specs.Action.{Action, enter, acting_variables, guard_for, post_columns}
use Rattle.lc_tie.specs.Tie.{start_column}
use Rattle.lc_outline.specs.Development.{Development, On, first_system, invariant_of, all_actions, start_numbers, on_at, ons_at, asserts_at, riders_in, asserts_to, in_operation, in_body}
use Rattle.lc_outline.specs.Resolved.{AreArgumentsBelow, IsResolved}
use Rattle.lc_outline.proofs.Chosen.{every_on_for}
use Rattle.lc_rider.specs.Paths.{edge_variables, Duty, Path, paths, path_start}
use Rattle.lc_kernel.specs.Below.{column_below, term_below, formula_below, all_below}
use Rattle.lc_kernel.proofs.InUse.{column_below-raised, formula_below-more}
use Rattle.lc_cond.specs.Conditions.{Init, InitIdle, Entry, First, Reply, Invariant, NextKind, Head, Condition, conditions_from, conditions_of, at_start, at_entry, on_path, alone_on_path}
use Rattle.lc_cond.specs.Conditions.{is_cell, range, idle_frame, hold_variables, body_frame, start_formula, start_conditions, padded, enter_variables, entry_variables, entered, entry_conditions}
use Rattle.lc_cond.specs.Conditions.{at_end, reply_goals, is_base, same_column, column_condition, column_conditions, action_conditions, on_conditions, duty_condition, path_conditions, body_hypotheses}
use Rattle.lc_cond.specs.Conditions.{edge_conditions_in, edge_conditions, stable_variables, stable_under, stable_conditions, point_stability, idle_stability, conditions}
use Rattle.lc_cond.specs.Uses.{UsesItsVariables, AllUseTheirVariables}
use Rattle.lc_cond.proofs.Below.{ColumnsBelow, TermsBelow, FormulasBelow, told-below, replaced-below}
use Rattle.lc_cond.proofs.Elements.{Every-mapped, Every-replicate, Every-each, Every-numbered, Every-places, Every-placed}
use Rattle.lc_cond.proofs.BelowStores.{put-below, puts-below, after-below, base-below, variable-below, variables_from-below, assigned-below}
use Rattle.lc_cond.proofs.BelowPaths.{DutyBelow, PathBelow, facts-append, paths-below}
use Rattle.lc_cond.proofs.BelowCode.{StandsBelow, edges-below}

-- of hypotheses one after another
abbrev Uses : Condition → Type 0
Uses c = FormulasBelow c.variables c.hypotheses × IsTrue (formula_below c.variables c.goal)

all-below : (n : ℕ) (fs : List Formula) → FormulasBelow n fs → IsTrue (all_below n fs)
all-below n [] h = refl
all-below n (f ∷ fs) h = and_from _ _ h.0 (all-below n fs h.1)

formulas-more : (m n : ℕ) (fs : List Formula) → m ≤ n → FormulasBelow m fs → FormulasBelow n fs
formulas-more m n fs le h = Every-map (λ f. IsTrue (formula_below m f)) (λ f. IsTrue (formula_below n f)) fs (λ f g. formula_below-more m n le f g) h

-- ---- lists of conditions

uses_from : (x : Head) (hs : List Formula) (k : ℕ) (goals : List Formula) → FormulasBelow x.variables hs → FormulasBelow x.variables goals → Every Uses (conditions_from x hs k goals)
uses_from x hs k [] h g = tt
uses_from x hs k (goal ∷ goals) h g = ((h, g.0), uses_from x hs (suc k) goals h g.1)

uses_of : (x : Head) (hs goals : List Formula) → FormulasBelow x.variables hs → FormulasBelow x.variables goals → Every Uses (conditions_of x hs goals)
uses_of x hs goals h g = uses_from x hs 0 goals h g

-- ---- frames

cell-below : (n c : ℕ) (t : Term) → 2 ≤ n → IsTrue (term_below n t) → IsTrue (formula_below n (is_cell c t))
cell-below n c t le h = and_from _ _ (variable-below n 1 (omega arith)) h

range-below : (n : ℕ) (t : Term) → 1 ≤ n → IsTrue (term_below n t) → FormulasBelow n (range t)
range-below n t le h = (h, (and_from _ _ (and_from _ _ h refl) (variable-below n 0 (omega arith)), tt))

idle_frame-below : (n first : ℕ) → 2 ≤ n → FormulasBelow n (idle_frame first)
idle_frame-below n first le = (cell-below n (pend first) (Number (pos 0)) le refl, tt)

hold_variables-below : (n : ℕ) (cs : List ℕ) (k count : ℕ) → 2 ≤ n → k + count ≤ n → FormulasBelow n (hold_variables cs k count)
hold_variables-below n [] k count le room = tt
hold_variables-below n (c ∷ cs) k zero le room = tt
hold_variables-below n (c ∷ cs) k (suc count) le room =
    (cell-below n c (Variable k) le (variable-below n k (omega arith)), hold_variables-below n cs (suc k) count le (omega arith))

body_frame-below : (n first o count : ℕ) → 2 + count ≤ n → FormulasBelow n (body_frame first o count)
body_frame-below n first o count le =
    let self = variable-below n 1 (omega arith) in (
      self,
      (and_from _ _ self refl, (cell-below n (op_column first) (Number (pos o)) (omega arith) refl, hold_variables-below n (arg_columns first) 2 count (omega arith) (omega arith))),
    )

-- ---- start

start_column-below : (n : ℕ) (ps : List (ℤ × ℤ)) → ColumnsBelow n (start_column ps)
start_column-below n [] c = refl
start_column-below n (p ∷ ps) zero = refl
start_column-below n (p ∷ ps) (suc c) = start_column-below n ps c

start_formulas-below : (D : Development) (n : ℕ) (fs : List Formula) → FormulasBelow n fs → FormulasBelow n (map (start_formula D) fs)
start_formulas-below D n [] h = tt
start_formulas-below D n (f ∷ fs) h = (replaced-below n n (start_column (start_numbers D)) (omega arith) (start_column-below n (start_numbers D)) f h.0, start_formulas-below D n fs h.1)

start-uses : (D : Development) → IsResolved D → Every Uses (start_conditions D)
start-uses D X =
    Every-append Uses (conditions_of (at_start Init 1) _ (map (start_formula D) (invariant_of D))) _
    (uses_of (at_start Init 1) _ (map (start_formula D) (invariant_of D)) (variable-below 1 0 (omega arith), tt) (start_formulas-below D 1 (invariant_of D) X.invariant))
    (uses_of (at_start InitIdle 2) (range (Variable 1)) (map (start_formula D) D.idle) (range-below 2 (Variable 1) (omega arith) refl) (start_formulas-below D 2 D.idle X.idle))

-- ---- entries

told_all-below : (n : ℕ) (σ : ℕ → Column) (τ : List Term) → ColumnsBelow n σ → TermsBelow n τ → (fs : List Formula) → FormulasBelow n (map (told σ τ) fs)
told_all-below n σ τ s h fs = Every-mapped (λ f. IsTrue (formula_below n f)) (told σ τ) fs (told-below n σ τ s h)

padded-below : (n k : ℕ) (ts : List Term) → TermsBelow n ts → TermsBelow n (padded k ts)
padded-below n zero ts h = tt
padded-below n (suc k) [] h = (refl, padded-below n k [] h)
padded-below n (suc k) (t ∷ ts) h = (h.0, padded-below n k ts h.1)

entered-below : (first o : ℕ) (operation : Operation) → ColumnsBelow (2 + length operation.arguments) (entered first o operation)
entered-below first o operation =
    let n = 2 + length operation.arguments in
    after-below n Base (enter_variables o (length operation.arguments)) (enter first).updates (base-below n)
    (variable-below n 0 (omega arith), (variable-below n 1 (omega arith), (refl, padded-below n 3 (variables_from 2 (length operation.arguments)) (variables_from-below n 2 (length operation.arguments) (omega arith)))))

entry_variables-below : (o : Operation) → TermsBelow (2 + length o.arguments) (entry_variables o)
entry_variables-below o =
    let n = 2 + length o.arguments in
    Every-append (λ t. IsTrue (term_below n t)) (variables_from 0 n) (replicate (length o.locals) (Number (pos 0))) (variables_from-below n 0 n (omega arith))
    (Every-replicate (λ t. IsTrue (term_below n t)) (length o.locals) (Number (pos 0)) refl)

entry-uses : (D : Development) → IsResolved D → (o : ℕ) (operation : Operation) → Every Uses (entry_conditions D o operation)
entry-uses D X o operation =
    let n = 2 + length operation.arguments in
    let first = first_system D in
    let hs = range (Variable 1) ++ (idle_frame first ++ (invariant_of D ++ D.idle)) in
    let below : FormulasBelow n hs =
    facts-append n (range (Variable 1)) (idle_frame first ++ (invariant_of D ++ D.idle)) (range-below n (Variable 1) (omega arith) (variable-below n 1 (omega arith)))
    (facts-append n (idle_frame first) (invariant_of D ++ D.idle) (idle_frame-below n first (omega arith))
    (facts-append n (invariant_of D) D.idle (formulas-more 1 n (invariant_of D) (omega arith) X.invariant) (formulas-more 2 n D.idle (omega arith) X.idle)))
    in
    let after = told_all-below n (entered first o operation) (entry_variables operation) (entered-below first o operation) (entry_variables-below operation) in
    Every-append Uses (conditions_of (at_entry Entry operation) hs (map (told (entered first o operation) (entry_variables operation)) (invariant_of D))) _
    (uses_of (at_entry Entry operation) hs _ below (after (invariant_of D))) (uses_of (at_entry First operation) hs _ below (after (asserts_at D operation.entry)))

-- ---- edges

acting-below : (n : ℕ) (actor : Term) (ts : List Term) → 1 ≤ n → IsTrue (term_below n actor) → TermsBelow n ts → TermsBelow n (acting_variables actor ts)
acting-below n actor ts le h g = (variable-below n 0 (omega arith), (h, g))

post_columns-below : (n : ℕ) (a : Action) (actor : Term) (ts : List Term) → 1 ≤ n → IsTrue (term_below n actor) → TermsBelow n ts → ColumnsBelow n (post_columns a actor ts)
post_columns-below n a actor ts le h g = after-below n Base (acting_variables actor ts) a.updates (base-below n) (acting-below n actor ts le h g)

guard_for-below : (n : ℕ) (a : Action) (actor : Term) (ts : List Term) → 1 ≤ n → IsTrue (term_below n actor) → TermsBelow n ts → IsTrue (formula_below n (guard_for a actor ts))
guard_for-below n a actor ts le h g = told-below n Base (acting_variables actor ts) (base-below n) (acting-below n actor ts le h g) a.guard

same_column-below : (n : ℕ) (x y : Column) → IsTrue (column_below n x) → IsTrue (column_below n y) → IsTrue (formula_below n (same_column x y))
same_column-below n x y h g = and_from _ _ (and_from _ _ (column_below-raised n x h) refl) (and_from _ _ (column_below-raised n y g) refl)

none_or_one : (b : Bool) (c : Condition) → Uses c → Every Uses (if b then [] else c ∷ [])
none_or_one true c h = tt
none_or_one false c h = (h, tt)

module _ (D : Development) (e : Edge) (n j : ℕ) (hs : List Formula) (le : 2 ≤ n) (below : FormulasBelow n hs) where
  columns-uses : (c count : ℕ) (σ π : ℕ → Column) → ColumnsBelow n σ → ColumnsBelow n π → Every Uses (column_conditions (column_condition e n j hs) c count σ π)
  columns-uses c zero σ π s p = tt
  columns-uses c (suc count) σ π s p =
      let one = column_condition e n j hs c (same_column (σ c) (π c)) in
      Every-append Uses (if is_base c (σ c) && is_base c (π c) then [] else one ∷ []) (column_conditions (column_condition e n j hs) (suc c) count σ π)
      (none_or_one (is_base c (σ c) && is_base c (π c)) one (below, same_column-below n (σ c) (π c) (s c) (p c)))
      (columns-uses (suc c) count σ π s p)

  action-uses : (σ : ℕ → Column) (ts : List Term) (a : Option Action) → ColumnsBelow n σ → TermsBelow n ts → Every Uses (action_conditions D e n j hs σ ts a)
  action-uses σ ts None s h = tt
  action-uses σ ts (Some a) s h =
      let self = variable-below n 1 (omega arith) in (
        (below, guard_for-below n a (Variable 1) ts (omega arith) self h),
        columns-uses 0 (column_count (first_system D)) σ (post_columns a (Variable 1) ts) s (post_columns-below n a (Variable 1) ts (omega arith) self h),
      )

  on-uses : (σ : ℕ → Column) (on : Option On) → ColumnsBelow n σ → ((x : On) → on ≡ Some x → TermsBelow n x.arguments) → Every Uses (on_conditions D e n j hs σ on)
  on-uses σ None s h = tt
  on-uses σ (Some x) s h = action-uses σ x.arguments (slice_get D.actions x.action) s (h x refl)

at_end-below : (n first : ℕ) (next : Option ℕ) (σ : ℕ → Column) → 2 ≤ n → ColumnsBelow n σ → ColumnsBelow n (at_end first next σ)
at_end-below n first (Some q) σ le s = s
at_end-below n first None σ le s = put-below n σ (record { column = pend first; index = Variable 1; value = Number (pos 0) }) s (variable-below n 1 (omega arith), refl)

duties-uses : (e : Edge) (n j : ℕ) (hs : List Formula) (ds : List Duty) → FormulasBelow n hs → Every (DutyBelow n) ds → Every Uses (map (duty_condition e n j hs) ds)
duties-uses e n j hs [] h g = tt
duties-uses e n j hs (d ∷ ds) h g = ((facts-append n hs d.facts h g.0.0, g.0.1), duties-uses e n j hs ds h g.1)

path-uses : (D : Development) (e : Edge) (n : ℕ) (on : Option On) (hs : List Formula) → 2 ≤ n → FormulasBelow n hs → TermsBelow n (edge_variables n e) → ((x : On) → on ≡ Some x → TermsBelow n x.arguments) →
    (j : ℕ) (p : Path) → PathBelow n p → Every Uses (path_conditions D e n on hs j p)
path-uses D e n on hs le below vars arguments j p h =
    let first = first_system D in
    let τ = edge_variables n e in
    let all = hs ++ p.facts in
    let known = facts-append n hs p.facts below h.facts in
    let σ = at_end first e.next p.columns in
    let end = at_end-below n first e.next p.columns le h.columns in
    Every-append Uses (map (duty_condition e n j hs) p.duties) _ (duties-uses e n j hs p.duties below h.duties)
    (Every-append Uses (conditions_of (alone_on_path Reply e n j) all (map (told p.columns τ) (reply_goals first e))) _
    (uses_of (alone_on_path Reply e n j) all _ known (told_all-below n p.columns τ h.columns vars (reply_goals first e)))
    (Every-append Uses (conditions_of (on_path Invariant e n j) all (map (told σ τ) (invariant_of D))) _
    (uses_of (on_path Invariant e n j) all _ known (told_all-below n σ τ end vars (invariant_of D)))
    (Every-append Uses (conditions_of (on_path NextKind e n j) all (map (told σ τ) (asserts_to D e.next))) _
    (uses_of (on_path NextKind e n j) all _ known (told_all-below n σ τ end vars (asserts_to D e.next)))
    (on-uses D e n j all le known σ on end arguments))))

-- ---- the edges of a resolved development

module _ (D : Development) (X : IsResolved D) where
  body-below : (p : ℕ) (point : Point) (o : Operation) → slice_get D.object.points p ≡ Some point → slice_get D.object.operations point.operation ≡ Some o →
      FormulasBelow (variable_count o) (body_frame (first_system D) point.operation (length o.arguments) ++ (invariant_of D ++ asserts_at D p))
  body-below p point o at is =
      let n = variable_count o in
      facts-append n (body_frame (first_system D) point.operation (length o.arguments)) _ (body_frame-below n (first_system D) point.operation (length o.arguments) (omega arith))
      (facts-append n (invariant_of D) (asserts_at D p) (formulas-more 1 n (invariant_of D) (omega arith) X.invariant) (X.asserts p point o at is))

  edge_in-uses : (e : Edge) (point : Point) (o : Operation) → StandsBelow D.object e → slice_get D.object.points e.point ≡ Some point → slice_get D.object.operations point.operation ≡ Some o →
      Every Uses (edge_conditions_in D point.operation o e)
  edge_in-uses e point o stands at is =
      let n = variable_count o in
      let edge = stands point o at is in
      let on = on_at D e.point e.kind in
      let hs = body_hypotheses D point.operation o e.point ++ e.facts in
      let vars = assigned-below n (variables_from 0 n) e.targets e.values (variables_from-below n 0 n (omega arith)) edge.values in
      let known : FormulasBelow n hs =
      facts-append n (body_hypotheses D point.operation o e.point) e.facts
      (facts-append n (range (Variable 1)) (body_frame (first_system D) point.operation (length o.arguments) ++ (invariant_of D ++ asserts_at D e.point))
      (range-below n (Variable 1) (omega arith) (variable-below n 1 (omega arith))) (body-below e.point point o at is)) edge.facts
      in
      let arguments : (x : On) → on ≡ Some x → TermsBelow n x.arguments =
      λ x chose. every_on_for (AreArgumentsBelow n) (ons_at D e.point) e.kind (X.arguments e.point point o at is) x chose
      in
      Every-places (PathBelow n) Uses (path_conditions D e n on hs) 0 (paths D.specification.operations (first_system D) 0 point.operation (edge_variables n e) (riders_in on) (path_start e))
      (path-uses D e n on hs (omega arith) known vars arguments)
      (paths-below D.specification.operations (first_system D) n (edge_variables n e) vars 0 point.operation (riders_in on) (path_start e)
      (record { columns = puts-below n Base e.updates (base-below n) edge.updates; facts = tt; duties = tt }))

  edge-uses : (e : Edge) → StandsBelow D.object e → Every Uses (edge_conditions D e)
  edge-uses e stands = at_point (slice_get D.object.points e.point) refl
    where
      at_operation : (point : Point) → slice_get D.object.points e.point ≡ Some point → (found : Option Operation) → slice_get D.object.operations point.operation ≡ found →
          Every Uses (in_operation (λ o operation. edge_conditions_in D o operation e) point.operation found)
      at_operation point at None is = tt
      at_operation point at (Some o) is = edge_in-uses e point o stands at is

      at_point : (found : Option Point) → slice_get D.object.points e.point ≡ found → Every Uses (in_body D.object (λ o operation. edge_conditions_in D o operation e) found)
      at_point None at = tt
      at_point (Some point) at = at_operation point at (slice_get D.object.operations point.operation) refl

  -- ---- stability

  stable-uses : (point : Option ℕ) (n : ℕ) (hs : List Formula) → 2 ≤ n → FormulasBelow n hs → (k : ℕ) (f : Formula) → IsTrue (formula_below n f) → (i : ℕ) (a : Action) → Uses (stable_under D point n hs k f i a)
  stable-uses point n hs le below k f h i a =
      let m = suc n + length a.parameters in
      let ts = stable_variables n a in
      let terms : TermsBelow m ts = variables_from-below m (suc n) (length a.parameters) (omega arith) in
      let self = variable-below m 1 (omega arith) in
      let other = variable-below m n (omega arith) in
      let columns = post_columns-below m a (Variable n) ts (omega arith) other terms in
      let more : n ≤ m = omega arith in
      let σ = post_columns a (Variable n) ts in
      let after = guard_for a (Variable n) ts ∷ map (replace (replacing σ Variable)) (invariant_of D) in
      let after-known : FormulasBelow m after = (guard_for-below m a (Variable n) ts (omega arith) other terms, replaced_all m σ (invariant_of D) columns (omega arith) X.invariant) in
      let apart : FormulasBelow m (Not (Eq (Variable 1) (Variable n)) ∷ (hs ++ after)) = (and_from _ _ self other, facts-append m hs after (formulas-more n m hs more below) after-known) in (
        facts-append m (range (Variable 1)) (range (Variable n) ++ (Not (Eq (Variable 1) (Variable n)) ∷ (hs ++ after))) (range-below m (Variable 1) (omega arith) self)
            (facts-append m (range (Variable n)) (Not (Eq (Variable 1) (Variable n)) ∷ (hs ++ after)) (range-below m (Variable n) (omega arith) other) apart),
        replaced-below n m σ more columns f h,
      )
    where
      replaced_all : (m : ℕ) (σ : ℕ → Column) (fs : List Formula) → ColumnsBelow m σ → 1 ≤ m → FormulasBelow 1 fs → FormulasBelow m (map (replace (replacing σ Variable)) fs)
      replaced_all m σ [] s l h = tt
      replaced_all m σ (f ∷ fs) s l h = (replaced-below 1 m σ l s f h.0, replaced_all m σ fs s l h.1)

  stability-uses : (point : Option ℕ) (n : ℕ) (frame asserts : List Formula) → 2 ≤ n → FormulasBelow n (frame ++ (invariant_of D ++ asserts)) → FormulasBelow n asserts →
      Every Uses (stable_conditions D point n frame asserts)
  stability-uses point n frame asserts le below each =
      let hs = frame ++ (invariant_of D ++ asserts) in
      Every-places (λ f. IsTrue (formula_below n f)) Uses (λ k f. numbered (stable_under D point n hs k f) 0 (all_actions D)) 0 asserts
      (λ k f h. Every-numbered Uses (stable_under D point n hs k f) 0 (all_actions D) (stable-uses point n hs le below k f h)) each

  point-uses : (p : ℕ) (point : Point) → slice_get D.object.points p ≡ Some point → Every Uses (point_stability D p point)
  point-uses p point at = at_operation (slice_get D.object.operations point.operation) refl
    where
      at_operation : (found : Option Operation) → slice_get D.object.operations point.operation ≡ found →
          Every Uses (in_operation (λ o operation. stable_conditions D (Some p) (variable_count operation) (body_frame (first_system D) o (length operation.arguments)) (asserts_at D p)) point.operation found)
      at_operation None is = tt
      at_operation (Some o) is =
          stability-uses (Some p) (variable_count o) (body_frame (first_system D) point.operation (length o.arguments)) (asserts_at D p) (omega arith) (body-below p point o at is) (X.asserts p point o at is)

  idle-uses : Every Uses (idle_stability D)
  idle-uses =
      stability-uses None 2 (idle_frame (first_system D)) D.idle (omega arith)
      (facts-append 2 (idle_frame (first_system D)) _ (idle_frame-below 2 (first_system D) (omega arith)) (facts-append 2 (invariant_of D) D.idle (formulas-more 1 2 (invariant_of D) (omega arith) X.invariant) X.idle))
      X.idle

  -- ---- the list

  all_use : Every Uses (conditions D)
  all_use =
      Every-append Uses (start_conditions D) _ (start-uses D X)
      (Every-append Uses (concat_places (entry_conditions D) 0 D.object.operations) _ (Every-placed Uses (entry_conditions D) 0 D.object.operations (λ j o e. entry-uses D X (0 + j) o))
      (Every-append Uses (concat_map (edge_conditions D) (edges D.object)) _ (Every-each (StandsBelow D.object) Uses (edge_conditions D) (edges D.object) edge-uses (edges-below D.object X.object))
      (Every-append Uses (concat_places (point_stability D) 0 D.object.points) _
      (Every-placed Uses (point_stability D) 0 D.object.points (λ p point at. point-uses (0 + p) point (subst (λ j. slice_get D.object.points j ≡ Some point) (omega arith) at))) idle-uses)))

  pub use_their_variables : AllUseTheirVariables D
  use_their_variables = Every-map Uses UsesItsVariables (conditions D) (λ c h. (all-below c.variables c.hypotheses h.0, h.1)) all_use
