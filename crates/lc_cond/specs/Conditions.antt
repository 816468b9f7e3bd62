-- The conditions of a development, in order.
use Rattle.std.specs.Prelude.{ℕ, zero, suc, ◌+◌, ◌==◌, Bool, false, ◌&&◌, if◌then◌else◌, List, [], ◌∷◌, ◌++◌, pos, Option, Some, None, map, length, slice_get, replicate}
use Rattle.lc_term.specs.Syntax.{Term, Number, Variable, Bound, Add, Read, Column, Base, Store, Affine, Formula, Le, Eq, Not, And, Or, Forall, formulas}
use Rattle.lc_term.specs.Replacement.{raising, replace_column}
use Rattle.lc_object.specs.Syntax.{Operation, Point}
use Rattle.lc_object.specs.Edges.{Edge, edges}
use Rattle.lc_object.specs.WellFormed.{variable_count}
use Rattle.lc_object.specs.declared.instr.EdgeKind.{EdgeKind}
use Rattle.lc_term.specs.Lists.{numbered, concat_map, concat_places}
use Rattle.lc_term.specs.Said.{put, after, told, variables_from}
use Rattle.lc_term.specs.SystemColumns.{pend, op_column, arg_columns, rep_columns, noted, note_columns, column_count}
use Rattle.lc_action.specs.Action.{Action, enter, guard_for, post_columns}
use Rattle.lc_tie.specs.Tie.{start_column}
use Rattle.lc_outline.specs.Development.{Development, On, first_system, invariant_of, all_actions, start_numbers, on_at, asserts_at, asserts_to, riders_in, in_body}
use Rattle.lc_rider.specs.Paths.{edge_variables, Owing, Duty, Path, paths, path_start}
use Rattle.lc_term.specs.Replacement.{replacing, replace}

pub data Kind : Type 0 where
  Init : Kind
  InitIdle : Kind
  Entry : Kind
  First : Kind
  Owed : Owing → Kind
  Reply : Kind
  Invariant : Kind
  NextKind : Kind
  Guard : Kind
  ColumnKind : Kind
  Stable : Kind

-- what is passed: an edge, or an action of another client by its place, `enter` and `leave` coming after the declared ones
pub data Passage : Type 0 where
  NoPassage : Passage
  ByEdge : EdgeKind → Passage
  ByAction : ℕ → Passage

-- which of its kind it is: by its number, or by a column
pub data Which : Type 0 where
  Alone : Which
  Numbered : ℕ → Which
  OfColumn : ℕ → Which

pub record Place : Type 0 where
  pub point : Option ℕ
  pub passage : Passage
  pub path : Option ℕ
  pub which : Which

-- if the hypotheses hold, so does the goal, whatever numbers its variables have
pub record Condition : Type 0 where
  pub kind : Kind
  pub place : Place
  pub variables : ℕ
  pub hypotheses : List Formula
  pub goal : Formula

-- what conditions that are made together share: their kind, how many variables they have, and where the k-th is
pub record Head : Type 0 where
  pub kind : Kind
  pub variables : ℕ
  pub place : ℕ → Place

-- goals under the same hypotheses, from the k-th on
abbrev pub conditions_from : Head → List Formula → ℕ → List Formula → List Condition
conditions_from h hs k goals =
    numbered (λ j g. record { kind = h.kind; place = h.place j; variables = h.variables; hypotheses = hs; goal = g }) k goals

abbrev pub conditions_of : Head → List Formula → List Formula → List Condition
conditions_of h hs goals = conditions_from h hs 0 goals

-- at the start; when a call begins; on a path of an edge
abbrev pub at_start : Kind → ℕ → Head
at_start kind n = record { kind = kind; variables = n; place = λ k. record { point = None; passage = NoPassage; path = None; which = Numbered k } }

abbrev pub at_entry : Kind → Operation → Head
at_entry kind o = record {
  kind = kind;
  variables = 2 + length o.arguments;
  place = λ k. record { point = Some o.entry; passage = NoPassage; path = None; which = Numbered k };
}

abbrev pub path_place : Edge → ℕ → Which → Place
path_place e j which = record { point = Some e.point; passage = ByEdge e.kind; path = Some j; which = which }

abbrev pub on_path : Kind → Edge → ℕ → ℕ → Head
on_path kind e n j = record { kind = kind; variables = n; place = λ k. path_place e j (Numbered k) }

abbrev pub alone_on_path : Kind → Edge → ℕ → ℕ → Head
alone_on_path kind e n j = record { kind = kind; variables = n; place = λ k. path_place e j Alone }

-- ---- frames

abbrev pub is_cell : ℕ → Term → Formula
is_cell c t = Eq (Read (Base c) (Variable 1)) t

abbrev pub range : Term → List Formula
range t = Le (Number (pos 0)) t ∷ Le (Add t (Number (pos 1))) (Variable 0) ∷ []

abbrev pub idle_frame : ℕ → List Formula
idle_frame first = is_cell (pend first) (Number (pos 0)) ∷ []

-- these cells of client 1 hold the variables from k on, n of them
abbrev pub hold_variables : List ℕ → ℕ → ℕ → List Formula
hold_variables [] k n = []
hold_variables (c ∷ cs) k zero = []
hold_variables (c ∷ cs) k (suc n) = is_cell c (Variable k) ∷ hold_variables cs (suc k) n

abbrev pub body_frame : ℕ → ℕ → ℕ → List Formula
body_frame first o n =
    Le (Number (pos 1)) (Read (Base (pend first)) (Variable 1)) ∷ Le (Read (Base (pend first)) (Variable 1)) (Number (pos 2)) ∷
    is_cell (op_column first) (Number (pos o)) ∷ hold_variables (arg_columns first) 2 n

-- these cells of client 1 hold these terms
abbrev pub hold_terms : List ℕ → List Term → List Formula
hold_terms [] ts = []
hold_terms (c ∷ cs) [] = []
hold_terms (c ∷ cs) (t ∷ ts) = is_cell c t ∷ hold_terms cs ts

abbrev pub justified : ℕ → List Term → Formula
justified first ts =
    Or (formulas (
    And (formulas (is_cell (pend first) (Number (pos 2)) ∷ hold_terms (rep_columns first) ts)) ∷
    And (formulas (is_cell (pend first) (Number (pos 1)) ∷ is_cell (noted first) (Number (pos 1)) ∷ hold_terms (note_columns first) ts)) ∷ []))

-- ---- start

abbrev pub start_formula : Development → Formula → Formula
start_formula D f = replace (replacing (start_column (start_numbers D)) Variable) f

abbrev pub start_conditions : Development → List Condition
start_conditions D =
    conditions_of (at_start Init 1) (Le (Number (pos 0)) (Variable 0) ∷ []) (map (start_formula D) (invariant_of D))
    ++ conditions_of (at_start InitIdle 2) (range (Variable 1)) (map (start_formula D) D.idle)

-- ---- entries

-- the arguments of `enter` at an invocation of o with n arguments: 0 for those that are not used
abbrev pub padded : ℕ → List Term → List Term
padded zero ts = []
padded (suc n) [] = Number (pos 0) ∷ padded n []
padded (suc n) (t ∷ ts) = t ∷ padded n ts

abbrev pub enter_variables : ℕ → ℕ → List Term
enter_variables o n = Variable 0 ∷ Variable 1 ∷ Number (pos o) ∷ padded 3 (variables_from 2 n)

-- the arguments stay, and the locals are 0
abbrev pub entry_variables : Operation → List Term
entry_variables o = variables_from 0 (2 + length o.arguments) ++ replicate (length o.locals) (Number (pos 0))

abbrev pub entered : ℕ → ℕ → Operation → ℕ → Column
entered first o operation = after Base (enter_variables o (length operation.arguments)) (enter first).updates

abbrev pub entry_conditions : Development → ℕ → Operation → List Condition
entry_conditions D o operation =
    (let first = first_system D in
    let hs = range (Variable 1) ++ (idle_frame first ++ (invariant_of D ++ D.idle)) in
    conditions_of (at_entry Entry operation) hs (map (told (entered first o operation) (entry_variables operation)) (invariant_of D))
    ++ conditions_of (at_entry First operation) hs (map (told (entered first o operation) (entry_variables operation)) (asserts_at D operation.entry)))

-- ---- edges

-- a return stores `pend` 0 after its riders
abbrev pub at_end : ℕ → Option ℕ → (ℕ → Column) → ℕ → Column
at_end first (Some q) σ = σ
at_end first None σ = put σ (record { column = pend first; index = Variable 1; value = Number (pos 0) })

abbrev pub reply_goals : ℕ → Edge → List Formula
reply_goals first e = (elim e.next [ Some q ↦ [] | None ↦ justified first e.replies ∷ [] ])

-- column c itself, to which nothing is stored
abbrev pub is_base : ℕ → Column → Bool
is_base c (Base k) = k == c
is_base c (Store k i v) = false
is_base c (Affine a b) = false

abbrev pub same_column : Column → Column → Formula
same_column x y = Forall (Eq (Read (replace_column raising x) (Bound 0)) (Read (replace_column raising y) (Bound 0)))

-- of the columns from c on, k of them; for each the condition that this head gives
abbrev pub column_condition : Edge → ℕ → ℕ → List Formula → ℕ → Formula → Condition
column_condition e v j hs c goal = record { kind = ColumnKind; place = path_place e j (OfColumn c); variables = v; hypotheses = hs; goal = goal }

abbrev pub column_conditions : (ℕ → Formula → Condition) → ℕ → ℕ → (ℕ → Column) → (ℕ → Column) → List Condition
column_conditions made c zero σ π = []
column_conditions made c (suc n) σ π =
    (if is_base c (σ c) && is_base c (π c) then [] else made c (same_column (σ c) (π c)) ∷ [])
    ++ column_conditions made (suc c) n σ π

abbrev pub action_conditions : Development → Edge → ℕ → ℕ → List Formula → (ℕ → Column) → List Term → Option Action → List Condition
action_conditions D e v j hs σ ts None = []
action_conditions D e v j hs σ ts (Some a) =
    record { kind = Guard; place = path_place e j Alone; variables = v; hypotheses = hs; goal = guard_for a (Variable 1) ts } ∷
    column_conditions (column_condition e v j hs) 0 (column_count (first_system D)) σ (post_columns a (Variable 1) ts)

abbrev pub on_conditions : Development → Edge → ℕ → ℕ → List Formula → (ℕ → Column) → Option On → List Condition
on_conditions D e v j hs σ None = []
on_conditions D e v j hs σ (Some x) = action_conditions D e v j hs σ x.arguments (slice_get D.actions x.action)

abbrev pub duty_condition : Edge → ℕ → ℕ → List Formula → Duty → Condition
duty_condition e v j hs d = record { kind = Owed d.kind; place = path_place e j (Numbered d.rider); variables = v; hypotheses = hs ++ d.facts; goal = d.goal }

-- the conditions of the j-th path, where there are v variables
abbrev pub path_conditions : Development → Edge → ℕ → Option On → List Formula → ℕ → Path → List Condition
path_conditions D e v on hs j p =
    (let first = first_system D in
    let τ = edge_variables v e in
    let all = hs ++ p.facts in
    let σ = at_end first e.next p.columns in
    map (duty_condition e v j hs) p.duties
    ++ (conditions_of (alone_on_path Reply e v j) all (map (told p.columns τ) (reply_goals first e))
    ++ (conditions_of (on_path Invariant e v j) all (map (told σ τ) (invariant_of D))
    ++ (conditions_of (on_path NextKind e v j) all (map (told σ τ) (asserts_to D e.next))
    ++ on_conditions D e v j all σ on))))

abbrev pub body_hypotheses : Development → ℕ → Operation → ℕ → List Formula
body_hypotheses D o operation p =
    range (Variable 1) ++ (body_frame (first_system D) o (length operation.arguments) ++ (invariant_of D ++ asserts_at D p))

abbrev pub edge_conditions_in : Development → ℕ → Operation → Edge → List Condition
edge_conditions_in D o operation e =
    (let on = on_at D e.point e.kind in
    let v = variable_count operation in
    concat_places (path_conditions D e v on (body_hypotheses D o operation e.point ++ e.facts)) 0
    (paths D.specification.operations (first_system D) 0 o (edge_variables v e) (riders_in on) (path_start e)))

abbrev pub edge_conditions : Development → Edge → List Condition
edge_conditions D e = in_body D.object (λ o operation. edge_conditions_in D o operation e) (slice_get D.object.points e.point)

-- ---- stability

-- what is known where u, whose variable is the n-th, does an action, whose parameters follow it; and what is asked
abbrev pub stable_variables : ℕ → Action → List Term
stable_variables n a = variables_from (suc n) (length a.parameters)

abbrev pub stable_hypotheses : Development → ℕ → List Formula → Action → List Formula
stable_hypotheses D n hs a =
    range (Variable 1) ++ (range (Variable n) ++ (Not (Eq (Variable 1) (Variable n)) ∷ (hs ++ (guard_for a (Variable n) (stable_variables n a)
    ∷ map (replace (replacing (post_columns a (Variable n) (stable_variables n a)) Variable)) (invariant_of D)))))

abbrev pub stable_goal : ℕ → Formula → Action → Formula
stable_goal n f a = replace (replacing (post_columns a (Variable n) (stable_variables n a)) Variable) f

-- the k-th conjunct under the i-th action
abbrev pub stable_under : Development → Option ℕ → ℕ → List Formula → ℕ → Formula → ℕ → Action → Condition
stable_under D point n hs k f i a = record {
  kind = Stable;
  place = record { point = point; passage = ByAction i; path = None; which = Numbered k };
  variables = suc n + length a.parameters;
  hypotheses = stable_hypotheses D n hs a;
  goal = stable_goal n f a;
}

abbrev pub stable_conditions : Development → Option ℕ → ℕ → List Formula → List Formula → List Condition
stable_conditions D point n frame asserts =
    concat_places (λ k f. numbered (stable_under D point n (frame ++ (invariant_of D ++ asserts)) k f) 0 (all_actions D)) 0 asserts

abbrev pub point_stability : Development → ℕ → Point → List Condition
point_stability D p point =
    in_body D.object (λ o operation. stable_conditions D (Some p) (variable_count operation) (body_frame (first_system D) o (length operation.arguments)) (asserts_at D p)) (Some point)

abbrev pub idle_stability : Development → List Condition
idle_stability D = stable_conditions D None 2 (idle_frame (first_system D)) D.idle

-- ---- the list

abbrev pub conditions : Development → List Condition
conditions D =
    start_conditions D
    ++ (concat_places (entry_conditions D) 0 D.object.operations
    ++ (concat_map (edge_conditions D) (edges D.object)
    ++ (concat_places (point_stability D) 0 D.object.points
    ++ idle_stability D)))

-- ---- its parts, each can be made by itself

pub data Part : Type 0 where
  Start : Part
  Begin : ℕ → Operation → Part
  Pass : Edge → Part
  Stay : ℕ → Point → Part
  StayIdle : Part

abbrev pub parts : Development → List Part
parts D =
    Start ∷ (numbered Begin 0 D.object.operations ++ (map Pass (edges D.object) ++ (numbered Stay 0 D.object.points ++ StayIdle ∷ [])))

abbrev pub conditions_in : Development → Part → List Condition
conditions_in D Start = start_conditions D
conditions_in D (Begin o operation) = entry_conditions D o operation
conditions_in D (Pass e) = edge_conditions D e
conditions_in D (Stay p point) = point_stability D p point
conditions_in D StayIdle = idle_stability D
