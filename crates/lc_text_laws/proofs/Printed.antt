-- What is printed of a development that a file says reads as the development.
use Rattle.std.proofs.Common.{◌≡◌, ℕ, suc, ◌+◌, ◌≤◌, Bool, true, false, cond, List, [], ◌∷◌, ◌++◌, append-nil, append_assoc, length, map, Option, Some, None, refl, sym, ap, ap₂, ◌∙◌, subst, arith}
use Rattle.std.proofs.lemmas.Bool.{ltb-false}
use Rattle.std.proofs.lemmas.List.{length-map}
use Rattle.std.specs.Prelude.{codes, ◌&&◌, nat_le, nat_lt, option_map, slice_get, slice_index_or}
use Rattle.lc_base.specs.declared.ids.ColId.{ColId}
use Rattle.lc_base.specs.Limits.{depth_limit, condition_limit}
use Rattle.lc_sexp.specs.TreeCode.{tree_count}
use Rattle.lc_sexp.specs.Trees.{Tree, Trees, atom, list, none, ◌▸◌, item_count, item_count_of_all, depth_of_all, row}
use Rattle.lc_sexp.specs.Reads.{ReadsAs}
use Rattle.lc_sexp.proofs.Atoms.{read_atoms}
use Rattle.lc_sexp.proofs.Items.{items_fit_lem}
use Rattle.lc_sexp.proofs.PrintedLemmas.{printed_reads}
use Rattle.lc_reading.proofs.Fine.{of_fine}
use Rattle.lc_reading.proofs.Holding.{holds_of_fine}
use Rattle.lc_reading.specs.Files.{Says}
use Rattle.lc_reading.proofs.Words.{is-true}
use Rattle.lc_reading.specs.Listed.{place_of}
use Rattle.lc_reading.specs.Naming.{name_reading}
use Rattle.lc_reading.specs.Readings.{Reading, fine, wrong, both, limited}
use Rattle.lc_reading.specs.Reserved.{is_system_column}
use Rattle.lc_reading.specs.Rows.{second_name}
use Rattle.lc_reading.specs.Words.{is}
use Rattle.lc_reading.specs.declared.pass.Pass.TheVariants.{Shape}
use Rattle.lc_term.specs.Lists.{Every}
use Rattle.lc_term.specs.SystemColumns.{system_columns}
use Rattle.lc_term.specs.Syntax.{Formula}
use Rattle.lc_text.specs.Formulas.{formula_reading}
use Rattle.lc_text.specs.Names.{Names}
use Rattle.lc_text.specs.Spelling.{Spelled}
use Rattle.lc_text.specs.SpelledTree.{formula_tree}
use Rattle.lc_text.specs.declared.scope.ColumnUse.TheVariants.{Usable, Misplaced, Hidden}
use Rattle.lc_seq.specs.Specification as Q
use Rattle.lc_spec_text.specs.Specifications as QT
use Rattle.lc_action.specs.Action.{Action}
use Rattle.lc_tie.specs.Tie.{Conjunct}
use Rattle.lc_object.specs.Syntax as O
use Rattle.lc_outline.specs.Development.{Outline, Development}
use Rattle.lc_object_text.specs.Counts.{second}
use Rattle.lc_object_text.specs.Declaring.{section_reading}
use Rattle.lc_object_text.specs.Headed.{headed_reading}
use Rattle.lc_object_text.specs.ObjectNames.{Body, first_text, later, call_of, names_of_columns, columns_of_arrays, parts_in_first, bodies_due, abstracts_in, arrays_in, auxiliaries_in, operations_in, column_use, code_names, body_names}
use Rattle.lc_object_text.specs.Objects as OT
use Rattle.lc_object_text.specs.Objects.{array_reading, concretes_of, neither}
use Rattle.lc_object_text.specs.Points.{BodyText, body_reading}
use Rattle.lc_object_text.specs.Rows.{placed_reading}
use Rattle.lc_object_text.specs.Sections.{behind_first, items_in, parts_in, some_forms_in}
use Rattle.lc_rider_text.specs.Actions.{action_reading}
use Rattle.lc_rider_text.specs.Conjuncts.{conjunct_reading}
use Rattle.lc_rider_text.specs.Known.{Known}
use Rattle.lc_rider_text.specs.Scopes.{variable_names, beside_names}
use Rattle.lc_outline_text.specs.Bodies.{names_in, bodies_reading}
use Rattle.lc_outline_text.specs.Declarations.{Declarations, known_of, own_ways}
use Rattle.lc_outline_text.specs.Developments.{signature_seen, text_seen, file_reading}
use Rattle.lc_outline_text.specs.Points.{beside, formulas_in_reading}
use Rattle.lc_outline_text.specs.Sides.{auxiliaries_reading, invariant_reading}
use Rattle.lc_outline_text.specs.Sizes.{condition_count}
use Rattle.lc_outline_print.specs.Beside.{action_tree, conjunct_tree}
use Rattle.lc_text_laws.specs.CodeSpelled.{AreCodeNames}
use Rattle.lc_outline_print.specs.Developments.{followed, auxiliary_tree, invariant_tree, idle_tree, table_trees, object_tree, development_printed}
use Rattle.lc_text_laws.specs.KnownSpelled.{AreKnown}
use Rattle.lc_outline.specs.ColumnNames.{column_names}
use Rattle.lc_outline_print.specs.Naming.{with_client, named_by, name_of_operation, name_of_action, label}
use Rattle.lc_outline_print.specs.Objects.{array_tree}
use Rattle.lc_text_laws.specs.ReadsBack.{HaveNoBinder, IsPrintable}
use Rattle.lc_outline_print.specs.Specifications.{declared_tree, operation_tree, specification_tree}
use Rattle.lc_text_laws.specs.Spellings.{IsSpelledSo}
use Rattle.lc_text_laws.proofs.Actions.{SameAction, action_again}
use Rattle.lc_text_laws.proofs.Again.{FormAgain, form_again, form_reads, form_alike}
use Rattle.lc_text_laws.proofs.Alike.{Alike, AllAlike, Readable, same_count, same_counts, same_depths, readable_trees, itself, all_itself, as_many}
use Rattle.lc_text_laws.proofs.Arrays.{text_tree, arrays_stood, arrays_printed, columns_are, array_names_are, at_own, row_named, auxiliaries_stood, names_of_declared}
use Rattle.lc_text_laws.proofs.Counts.{IsKin, replaced, with_actions, parts_related, first_forms, arrays_found, actions_found, declarations_same, known_kin, counts_same}
use Rattle.lc_text_laws.proofs.Formulas.{formula_again}
use Rattle.lc_text_laws.proofs.Heads as H
use Rattle.lc_text_laws.proofs.Heads.{Each, IsOperation, operations_signed, operation_forms, names_printed, AreTexts}
use Rattle.lc_text_laws.proofs.Joined.{Fits, Rest, AreJoined, bodies_joined}
use Rattle.lc_text_laws.proofs.Kin.{Pairwise, AreBehind, AllAgain, AllNamed, placed_trees, placed_as_row, placed_again}
use Rattle.lc_text_laws.proofs.Points.{SameBody, body_variables, spelled_in, IsNamed, ith_tree, bodies_again}
use Rattle.lc_text_laws.proofs.Rows.{behind_place, IsRow, name_stood}
use Rattle.lc_text_laws.proofs.Scopes.{placed_name, column_stood, beside_spelled, with_client_free, alone_free, beside_unbound}
use Rattle.lc_text_laws.proofs.Sides.{conjunct_again}
use Rattle.lc_text_laws.proofs.Specifications.{StandFirst, names_of, specification_stood}
use Rattle.lc_text_laws.proofs.Splits.{parts_of_all, some_forms}
use Rattle.lc_text_laws.proofs.Values.{Values, AreValues, development_made, made_of_values, both_parts, has_forms, has_values}
use Rattle.lc_text_laws.proofs.Whole.{File, IsFormed, forms_of_file, sections_in_file, declared_in_file, object_at, arrays_at, auxiliaries_at, actions_at, invariant_at, idle_at, bodies_at, words_reading, parts_reading, file_reads}
use Rattle.lc_cond.proofs.Sized.{every_at}
use Rattle.lc_text.proofs.Printed.{same_refl}
use Rattle.lc_outline_text.proofs.Agreed.{EachAfter, IsOperationRead, IsSpecificationSaid, specification_said}
use Rattle.lc_outline_text.proofs.LimitsHold.{limited_parts}

-- ---- rows

followed_count : (ts us : Trees) → item_count_of_all (followed ts us) ≡ item_count_of_all ts + item_count_of_all us
followed_count none us = omega arith
followed_count (t ▸ ts) us = omega (arith, followed_count ts us)

followed_alike : (ts ts' us us' : Trees) → AllAlike Readable ts ts' → AllAlike Readable us us' → AllAlike Readable (followed ts us) (followed ts' us')
followed_alike none none us us' h g = g
followed_alike (t ▸ ts) (t' ▸ ts') us us' h g = (h.0, followed_alike ts ts' us us' h.1 g)
followed_alike none (t' ▸ ts') us us' h g = absurd h
followed_alike (t ▸ ts) none us us' h g = absurd h

followed_twice : (rs bs cs : Trees) → followed (followed rs bs) cs ≡ followed rs (followed bs cs)
followed_twice none bs cs = refl
followed_twice (r ▸ rs) bs cs = ap (λ ts. r ▸ ts) (followed_twice rs bs cs)

counted_parts : (word : List ℕ) (ts : Trees) → length (parts_of_all word ts) ≡ tree_count ts
counted_parts word none = refl
counted_parts word (t ▸ ts) = ap suc (counted_parts word ts)

all_named : {X : Type 0} (N : X → Type 0) (xs : List X) → Every N xs → AllNamed N xs
all_named N [] h = tt
all_named N (x ∷ xs) h = (h.0, all_named N xs h.1)

due_count : (ts : Trees) → 1 ≤ tree_count ts → bodies_due (tree_count ts) ≡ tree_count ts
due_count none some = absurd (omega (arith, some))
due_count (t ▸ ts) some = refl

-- ---- the variables of a body's code

self_or : (b : Body) (w : List ℕ) (k : ℕ) (self : Bool) (o : Option ℕ) → is w (codes "self") ≡ self → place_of (body_variables b) w ≡ o → cond self (Some 1) (option_map (λ k. 2 + k) o) ≡ Some k
    → slice_index_or (with_client (body_variables b)) k [] ≡ w
self_or b w k true o same there e =
    let here : 1 ≡ k = cc in subst (λ k. slice_index_or (with_client (body_variables b)) k [] ≡ w) here (sym (is-true w (codes "self") same))
self_or b w k false None same there e = absurd (cc)
self_or b w k false (Some j) same there e =
    let next : 2 + j ≡ k = cc in
    subst (λ k. slice_index_or (with_client (body_variables b)) k [] ≡ w) next
    (let two : 2 + j ≡ suc (suc j) = omega arith in ap (λ k. slice_index_or (with_client (body_variables b)) k []) two ∙ placed_name (body_variables b) w j there)

target_or : (b : Body) (w : List ℕ) (k : ℕ) (o : Option ℕ) → place_of b.locals w ≡ o → option_map (λ k. 2 + length b.call.arguments + k) o ≡ Some k → slice_index_or (with_client (body_variables b)) k [] ≡ w
target_or b w k None there e = absurd (cc)
target_or b w k (Some j) there e =
    let next : 2 + length b.call.arguments + j ≡ k = cc in
    subst (λ k. slice_index_or (with_client (body_variables b)) k [] ≡ w) next
    (let two : 2 + length b.call.arguments + j ≡ suc (suc (length b.call.arguments + j)) = omega arith in
    ap (λ k. slice_index_or (with_client (body_variables b)) k []) two ∙ behind_place b.call.arguments b.locals w j there)

label_or : (name : ℕ → List ℕ) (first k : ℕ) (w : List ℕ) (o : Option ℕ) → ((j : ℕ) → o ≡ Some j → name (first + j) ≡ w) → option_map (λ k. first + k) o ≡ Some k → name k ≡ w
label_or name first k w None h e = absurd (cc)
label_or name first k w (Some j) h e = let next : first + j ≡ k = cc in subst (λ k. name k ≡ w) next (h j refl)

never_usable : (a c : ℕ) (system : Bool) (o : Option ℕ) (u : ColId) → column_use a c system o ≡ Usable u → ⊥
never_usable a c true None u e = absurd (cc)
never_usable a c false None u e = absurd (cc)
never_usable a c system (Some k) u e = within (nat_le a k) (nat_lt k c) e
  where
    within : (m n : Bool) → cond (m && n) Misplaced Hidden ≡ Usable u → ⊥
    within true true e = absurd (cc)
    within true false e = absurd (cc)
    within false n e = absurd (cc)

-- ---- the file that is printed

-- no local, argument or parameter is named as the variable of a quantifier is printed
pub record IsFree (D : Development) : Type 0 where
  pub variables : Every (λ (o : O.Operation). HaveNoBinder (o.arguments ++ o.locals)) D.object.operations
  pub parameters : Every (λ (a : Action). HaveNoBinder a.parameters) D.actions

module _ (x : File) (formed : IsFormed x) (v : Values) (are : AreValues (declared_in_file x) x v) (small : item_count_of_all (forms_of_file x) ≤ 4294967296) (free : IsFree (development_made v)) where
  abbrev d : Declarations
  d = declared_in_file x

  abbrev D : Development
  D = development_made v

  abbrev columns : List (List ℕ)
  columns = column_names D

  -- ---- the specification

  spec_is : specification_tree columns v.specification ≡ x.spec
  spec_is =
      of_fine (λ (q : Q.Specification). StandFirst (names_of q.columns) columns → specification_tree columns q ≡ x.spec) (QT.specification_reading d.declared.columns 0 x.spec) v.specification
      (specification_stood d.declared.columns columns 0 x.spec) are.specification
      (map (λ (c : O.Column). c.name) D.object.concretes ++ (map (λ (c : Q.Column). c.name) D.auxiliaries ++ system_columns), refl)

  abstracts_are : abstracts_in (sections_in_file x) ≡ map (λ (c : Q.Column). c.name) v.specification.columns
  abstracts_are = ap (λ t. names_of_columns (parts_in_first (codes "abstract") (behind_first (items_in (codes "spec") 0 t)).trees)) (sym spec_is) ∙ names_of_declared v.specification.columns

  -- ---- arrays and auxiliary columns

  arrays_are : row (map text_tree v.arrays) ≡ x.arrays
  arrays_are = of_fine (IsRow text_tree x.arrays) (placed_reading (array_reading d.declared) 0 (arrays_at x) x.arrays) v.arrays (arrays_stood d.declared 0 (arrays_at x) x.arrays) are.arrays

  forms_are : arrays_in (sections_in_file x) ≡ parts_of_all (codes "array") (row (map text_tree v.arrays))
  forms_are = arrays_found x formed ∙ ap (parts_of_all (codes "array")) (sym arrays_are)

  concretes_are : columns_of_arrays (arrays_in (sections_in_file x)) ≡ map (λ (c : O.Column). c.name) (concretes_of v.arrays)
  concretes_are = ap columns_of_arrays forms_are ∙ columns_are v.arrays

  array_names : d.declared.arrays ≡ map (λ (a : O.Array). a.name) D.object.arrays
  array_names = ap (map first_text) forms_are ∙ array_names_are (length (text_seen v.specification).abstracts) v.arrays

  auxiliaries_are : auxiliary_tree D ≡ x.auxiliaries
  auxiliaries_are =
      of_fine (λ (cs : List Q.Column). list (atom (codes "aux") ▸ row (map declared_tree cs)) ≡ x.auxiliaries) (auxiliaries_reading d (auxiliaries_at x) x.auxiliaries) v.auxiliaries
      (auxiliaries_stood d (auxiliaries_at x) x.auxiliaries) are.auxiliaries

  auxiliary_names : auxiliaries_in (sections_in_file x) ≡ map (λ (c : Q.Column). c.name) v.auxiliaries
  auxiliary_names = ap (λ t. names_of_columns (parts_in (codes "aux") t)) (sym auxiliaries_are) ∙ names_of_declared v.auxiliaries

  columns_named : columns ≡ d.declared.columns ++ system_columns
  columns_named =
      let a = abstracts_in (sections_in_file x) in
      let b = columns_of_arrays (arrays_in (sections_in_file x)) in
      let c = auxiliaries_in (sections_in_file x) in
      ap₂ (λ ws vs. ws ++ (vs ++ (map (λ (c : Q.Column). c.name) v.auxiliaries ++ system_columns))) (sym abstracts_are) (sym concretes_are)
      ∙ ap (λ us. a ++ (b ++ (us ++ system_columns))) (sym auxiliary_names)
      ∙ sym (append_assoc (a ++ b) c system_columns ∙ append_assoc a b (c ++ system_columns))

  -- ---- sizes

  sizes : item_count_of_all (forms_of_file x) ≡ item_count x.spec + (item_count x.name + (item_count_of_all x.arrays + (item_count x.auxiliaries + (item_count_of_all x.actions + (item_count x.invariant + (item_count x.idle + item_count_of_all x.bodies)))))) + 2
  sizes =
      let behind = followed x.actions (x.invariant ▸ x.idle ▸ x.bodies) in
      omega (arith, followed_count x.arrays (x.auxiliaries ▸ behind), followed_count x.actions (x.invariant ▸ x.idle ▸ x.bodies))

  -- ---- actions

  abbrev ActionKin : Tree → Tree → Type 0
  ActionKin = AreBehind (codes "action") SameAction

  abbrev printed_actions : Trees
  printed_actions = row (map (action_tree columns) v.actions)

  actions_again : AllAgain (Pairwise ActionKin) (placed_reading (action_reading (known_of d)) 0 (actions_at x)) printed_actions x.actions v.actions
  actions_again =
      subst (λ ts. AllAgain (Pairwise ActionKin) (placed_reading (action_reading (known_of d)) 0 (actions_at x)) ts x.actions v.actions) (placed_as_row (action_tree columns) 0 v.actions)
      (of_fine (λ (acts : List Action). AllNamed (λ (a : Action). HaveNoBinder a.parameters) acts
      → AllAgain (Pairwise ActionKin) (placed_reading (action_reading (known_of d)) 0 (actions_at x)) (placed_trees (λ i. action_tree columns) 0 acts) x.actions acts)
      (placed_reading (action_reading (known_of d)) 0 (actions_at x) x.actions) v.actions
      (placed_again (λ (a : Action). HaveNoBinder a.parameters) ActionKin (action_reading (known_of d)) (λ i. action_tree columns) (action_again (known_of d) columns columns_named) 0 (actions_at x) x.actions
      (omega (arith, small, sizes)))
      are.actions (all_named (λ (a : Action). HaveNoBinder a.parameters) v.actions free.parameters))

  acting : (acts : List Action) (ts : Trees) → Pairwise ActionKin (row (map (action_tree columns) acts)) ts → map (λ (a : Action). a.name) acts ≡ map first_text (parts_of_all (codes "action") ts)
  acting [] none h = refl
  acting (a ∷ acts) (t ▸ ts) h = ap₂ (λ w ws. w ∷ ws) (parts_related (codes "action") SameAction (action_tree columns a) t h.0).0 (acting acts ts h.1)
  acting [] (t ▸ ts) h = absurd h
  acting (a ∷ acts) none h = absurd h

  action_names : (known_of d).actions ≡ map (λ (a : Action). a.name) v.actions
  action_names = ap (map first_text) (actions_found x formed) ∙ sym (acting v.actions x.actions actions_again.kin)

  -- ---- the invariant, and what holds of idle clients

  abbrev all_names : Names
  all_names = beside_names d.declared.columns None

  abbrev idle_names : Names
  idle_names = beside_names d.declared.columns (Some [])

  abbrev Conjuncts : List Conjunct → Type 0
  Conjuncts cs = FormAgain (conjunct_tree columns) (conjunct_reading all_names) (codes "invariant") (invariant_at x) x.invariant cs

  invariant_again : Conjuncts v.conjuncts
  invariant_again =
      of_fine Conjuncts (invariant_reading d (invariant_at x) x.invariant) v.conjuncts
      (form_again (conjunct_tree columns) (conjunct_reading all_names) (codes "invariant")
      (conjunct_again all_names (named_by columns (variable_names None)) (beside_spelled d.declared.columns columns columns_named None) (beside_unbound d.declared.columns None alone_free))
      (invariant_at x) x.invariant (omega (arith, small, sizes))) are.conjuncts

  abbrev idle_by : Spelled
  idle_by = named_by columns (with_client [])

  abbrev Idle : List Formula → Type 0
  Idle fs = FormAgain (formula_tree idle_by 0) (formula_reading idle_names []) (codes "idle") (idle_at x) x.idle fs

  idle_again : Idle v.idle
  idle_again =
      of_fine Idle (formulas_in_reading (codes "idle") idle_names (idle_at x) x.idle) v.idle
      (form_again (formula_tree idle_by 0) (formula_reading idle_names []) (codes "idle")
      (formula_again idle_names idle_by (beside_spelled d.declared.columns columns columns_named (Some [])) (beside_unbound d.declared.columns (Some []) (with_client_free [] (λ k h. h))))
      (idle_at x) x.idle (omega (arith, small, sizes))) are.idle

  -- ---- operations and bodies

  abbrev op_trees : Trees
  op_trees = row (map (operation_tree columns) v.specification.operations)

  read : IsSpecificationSaid (parts_in (codes "spec") x.spec) v.specification
  read =
      (holds_of_fine _ (QT.specification_reading d.declared.columns 0 x.spec) v.specification
      (specification_said d.declared.columns 0 x.spec) are.specification).1

  ops_behind : later (later (parts_in (codes "spec") x.spec)) ≡ op_trees
  ops_behind = ap (λ t. later (later (parts_in (codes "spec") t))) (sym spec_is)

  some : 1 ≤ tree_count op_trees
  some = subst (λ ts. 1 ≤ tree_count ts) ops_behind read.some

  operations_are : operations_in (sections_in_file x) ≡ parts_of_all (codes "op") op_trees
  operations_are =
      ap (λ t. some_forms_in (codes "op") (behind_first (behind_first (items_in (codes "spec") 0 t))).trees) (sym spec_is) ∙ some_forms (codes "op") op_trees (operation_forms columns v.specification.operations)

  abbrev signatures : List OT.Signature
  signatures = map signature_seen v.specification.operations

  signed : Each (IsOperation d.declared) 0 op_trees signatures
  signed =
      operations_signed d.declared columns [] 0 v.specification.operations refl (ap (map first_text) operations_are ∙ names_printed columns v.specification.operations)
      (subst (λ ts. EachAfter IsOperationRead second_name [] ts v.specification.operations) ops_behind read.operations)

  texts : AreTexts d x.bodies v.bodies
  texts = of_fine (AreTexts d x.bodies) (bodies_reading d (object_at x) (bodies_at x) x.bodies) v.bodies (H.bodies_read d (object_at x) (bodies_at x) x.bodies) are.bodies

  abbrev due : ℕ
  due = bodies_due (length (operations_in (sections_in_file x)))

  due_is : due ≡ tree_count op_trees
  due_is = ap bodies_due (ap length operations_are ∙ counted_parts (codes "op") op_trees) ∙ due_count op_trees some

  enough : due ≤ tree_count x.bodies
  enough =
      ltb-false (tree_count x.bodies) due
      (ap (λ k. nat_lt (tree_count x.bodies) (bodies_due k)) (sym (length-map (operations_in (sections_in_file x)) first_text)) ∙ texts.enough)

  all_bodies : Rest d D 0 0 due op_trees x.bodies v.bodies
  all_bodies = record {
    names = [];
    calls = [];
    bodies = [];
    points = [];
    outlines = [];
    names_are = ap (map first_text) operations_are;
    calls_are = ap (map call_of) operations_are;
    bodies_are = refl;
    points_are = refl;
    outlines_are = refl;
    names_long = refl;
    calls_long = refl;
    bodies_long = refl;
    points_long = refl;
    outlines_long = refl;
    earlier = tt;
  }

  joined : AreJoined d D 0 0 op_trees d.declared.bodies signatures v.bodies
  joined = bodies_joined d D 0 0 due op_trees x.bodies signatures v.bodies all_bodies due_is enough signed texts.each free.variables

  operation_names : d.declared.operations ≡ map (λ (o : O.Operation). o.name) D.object.operations
  operation_names = ap (map first_text) operations_are ∙ sym joined.names

  code_spelled : (b : Body) → IsSpelledSo (code_names d.declared b) (spelled_in columns b)
  code_spelled b = record {
    variables = λ w k e. self_or b w k (is w (codes "self")) (place_of (body_variables b) w) refl refl e;
    columns = λ w c e. absurd (never_usable d.declared.abstracts d.declared.auxiliaries (is_system_column w) (place_of d.declared.columns w) c e);
    unnumbered = refl;
    unbuilt = refl;
  }

  coded : (b : Body) → Fits d D b → AreCodeNames (code_names d.declared b) (body_names d.declared b) (spelled_in columns b) D.object
  coded b fits = record {
    spelled = code_spelled b;
    plain = refl;
    arrays = λ w r e. row_named D.object d.declared.spans d.declared.arrays array_names w r e;
    targets = λ w k e. target_or b w k (place_of b.locals w) refl e;
    labels = λ w k e. label_or (label D.object) b.first k w (place_of b.labels w) (λ j there. fits.labels w j there) e;
  }

  known_spelled : (b : Body) → AreKnown (known_of d) (names_in d b) (spelled_in columns b) D.object D.actions
  known_spelled b = record {
    spelled = beside_spelled d.declared.columns columns columns_named (Some (body_variables b));
    columns = column_stood d.declared.columns columns columns_named;
    operations = λ w k e.
        ap (λ os. name_of_operation (slice_get os k)) (sym (append-nil D.object.operations))
        ∙ at_own (λ (o : O.Operation). o.name) name_of_operation (λ o. refl) D.object.operations [] w k (ap (λ ws. place_of ws w) (sym operation_names) ∙ e);
    acting = λ w k e.
        ap (λ acts. name_of_action (slice_get acts k)) (sym (append-nil D.actions))
        ∙ at_own (λ (a : Action). a.name) name_of_action (λ a. refl) D.actions [] w k (ap (λ ws. place_of ws w) (sym action_names) ∙ e);
  }

  named : (i : ℕ) (b : Body) → slice_get d.declared.bodies i ≡ Some b → IsNamed d columns D.object D.actions b
  named i b e =
      let fits = every_at (Fits d D) d.declared.bodies i b joined.fits e in
      record { coded = coded b fits; known = known_spelled b; free = beside_unbound d.declared.columns (Some (body_variables b)) (with_client_free (body_variables b) fits.free) }

  abbrev printed_bodies : Trees
  printed_bodies = placed_trees (ith_tree d columns D.object D.actions) 0 v.bodies

  abbrev Bodies : List (BodyText (O.Point × Outline)) → Type 0
  Bodies xs = AllAgain (Pairwise (AreBehind (codes "body") SameBody)) (bodies_reading d (object_at x) (bodies_at x)) (placed_trees (ith_tree d columns D.object D.actions) 0 xs) x.bodies xs

  all_bodies_again : Bodies v.bodies
  all_bodies_again =
      of_fine Bodies (bodies_reading d (object_at x) (bodies_at x) x.bodies) v.bodies
      (bodies_again d columns D.object D.actions named (object_at x) (bodies_at x) x.bodies (omega (arith, small, sizes))) are.bodies

  -- ---- the file

  abbrev y : File
  y = replaced x printed_actions (invariant_tree D) (idle_tree D) printed_bodies

  formed_too : IsFormed y
  formed_too = record {
    arrays = formed.arrays;
    auxiliaries = formed.auxiliaries;
    actions = first_forms (codes "action") SameAction printed_actions x.actions actions_again.kin;
    invariant = (row (map (conjunct_tree columns) v.conjuncts), refl);
  }

  kin : IsKin x y
  kin = record {
    actions = actions_again.kin;
    invariant =
        as_many (row (map (conjunct_tree columns) v.conjuncts)) invariant_again.parts invariant_again.again.alike
        ∙ ap (λ t. tree_count (parts_in (codes "invariant") t)) (sym invariant_again.shape);
    idle = as_many (row (map (formula_tree idle_by 0) v.idle)) idle_again.parts idle_again.again.alike ∙ ap (λ t. tree_count (parts_in (codes "idle") t)) (sym idle_again.shape);
    bodies = all_bodies_again.kin;
  }

  invariant_alike : Alike Readable (invariant_tree D) x.invariant
  invariant_alike = form_alike (conjunct_tree columns) (conjunct_reading all_names) (codes "invariant") (invariant_at x) x.invariant v.conjuncts invariant_again

  idle_alike : Alike Readable (idle_tree D) x.idle
  idle_alike = form_alike (formula_tree idle_by 0) (formula_reading idle_names []) (codes "idle") (idle_at x) x.idle v.idle idle_again

  -- of the same shape
  file_alike : AllAlike Readable (forms_of_file y) (forms_of_file x)
  file_alike = (
    itself x.spec,
    (
      (
        λ h. h,
        (
          itself x.name,
          followed_alike x.arrays x.arrays _ _ (all_itself x.arrays) (
            itself x.auxiliaries,
            followed_alike printed_actions x.actions _ _ actions_again.alike (invariant_alike, (idle_alike, all_bodies_again.alike)),
          ),
        ),
      ),
      tt,
    ),
  )

  -- ---- its parts read as the same

  abbrev forms : List Trees
  forms = parts_of_all (codes "action") printed_actions

  abbrev e : Declarations
  e = with_actions d forms

  known_again : known_of e ≡ known_of d
  known_again = known_kin x printed_actions (invariant_tree D) (idle_tree D) printed_bodies formed formed_too kin

  as_many_actions : item_count_of_all printed_actions ≡ item_count_of_all x.actions
  as_many_actions = same_counts printed_actions x.actions actions_again.alike

  invariant_place : invariant_at y ≡ invariant_at x
  invariant_place = ap (λ n. actions_at x + n) as_many_actions

  idle_place : idle_at y ≡ idle_at x
  idle_place = ap₂ (λ m n. m + n) invariant_place (same_count (invariant_tree D) x.invariant invariant_alike)

  bodies_place : bodies_at y ≡ bodies_at x
  bodies_place = ap₂ (λ m n. m + n) idle_place (same_count (idle_tree D) x.idle idle_alike)

  words_again : words_reading e y ≡ fine v.names
  words_again =
      let heads = both neither (headed_reading (codes "invariant") (invariant_at x) x.invariant) (headed_reading (codes "idle") (idle_at x) x.idle) in
      let section = section_reading (codes "aux") d.declared.columns d.declared.auxiliaries (auxiliaries_at x) x.auxiliaries in
      let parts = both_parts second heads section v.names are.words in
      ap (both second (fine tt)) parts.second_is ∙ ap fine parts.made

  conjuncts_again : invariant_reading e (invariant_at y) (invariant_tree D) ≡ fine v.conjuncts
  conjuncts_again =
      ap (λ m. invariant_reading d m (invariant_tree D)) invariant_place
      ∙ form_reads (conjunct_tree columns) (conjunct_reading all_names) (codes "invariant") (same_refl (codes "invariant")) (invariant_at x) x.invariant v.conjuncts invariant_again

  idle_reads : formulas_in_reading (codes "idle") idle_names (idle_at y) (idle_tree D) ≡ fine v.idle
  idle_reads =
      ap (λ m. formulas_in_reading (codes "idle") idle_names m (idle_tree D)) idle_place
      ∙ form_reads (formula_tree idle_by 0) (formula_reading idle_names []) (codes "idle") (same_refl (codes "idle")) (idle_at x) x.idle v.idle idle_again

  -- bodies, where the riders beside the code see these names
  abbrev due_by : Known → Option Body → ℕ → ℕ → Tree → Reading (BodyText (O.Point × Outline))
  due_by known None o n t = wrong Shape n
  due_by known (Some b) o n t = body_reading d.declared b (beside known (names_in d b) (own_ways d o)) o n t

  abbrev bodies_by : Known → ℕ → ℕ → Trees → Reading (List (BodyText (O.Point × Outline)))
  bodies_by known n m ts =
      cond (nat_lt (tree_count ts) (bodies_due (length d.declared.operations))) (wrong Shape n) (placed_reading (λ i n t. due_by known (slice_get d.declared.bodies i) i n t) 0 m ts)

  bodies_reads : bodies_reading e (object_at x) (bodies_at y) printed_bodies ≡ fine v.bodies
  bodies_reads = ap₂ (λ known m. bodies_by known (object_at x) m printed_bodies) known_again bodies_place ∙ all_bodies_again.reads

  values_again : AreValues e y v
  values_again = record {
    specification = are.specification;
    name = are.name;
    arrays = are.arrays;
    words = words_again;
    auxiliaries = are.auxiliaries;
    actions = ap (λ known. placed_reading (action_reading known) 0 (actions_at x) printed_actions) known_again ∙ actions_again.reads;
    conjuncts = conjuncts_again;
    idle = idle_reads;
    bodies = bodies_reads;
  }

  abbrev too_many : File → Bool
  too_many z = nat_lt condition_limit (condition_count (declared_in_file z) (sections_in_file z))

  file_again : too_many x ≡ false → file_reading (forms_of_file y) ≡ fine D
  file_again few =
      let counts = counts_same x printed_actions (invariant_tree D) (idle_tree D) printed_bodies formed formed_too kin in
      let same = declarations_same x printed_actions (invariant_tree D) (idle_tree D) printed_bodies formed formed_too kin in
      file_reads y formed_too
      ∙ ap (λ n. limited (nat_lt condition_limit n) 0 (parts_reading (declared_in_file y) y)) counts
      ∙ ap (λ beyond. limited beyond 0 (parts_reading (declared_in_file y) y)) few
      ∙ made_of_values (declared_in_file y) y v (subst (λ d. AreValues d y v) (sym same) values_again)

  -- ---- it is what is printed

  name_is : atom v.name ≡ x.name
  name_is = of_fine (λ (w : List ℕ). atom w ≡ x.name) (name_reading None [] (object_at x + 2) x.name) v.name (name_stood None [] (object_at x + 2) x.name) are.name

  abbrev printed_trees : Trees
  printed_trees = specification_tree columns D.specification ▸ object_tree D ▸ none

  is_printed : printed_trees ≡ forms_of_file y
  is_printed =
      let behind = invariant_tree D ▸ idle_tree D ▸ printed_bodies in
      let arrays = arrays_printed D.object v.arrays refl refl ∙ arrays_are in
      ap₂ (λ t ts. t ▸ list (atom (codes "object") ▸ atom v.name ▸ followed (table_trees D) (invariant_tree D ▸ idle_tree D ▸ ts)) ▸ none) spec_is joined.printed
      ∙ ap₂ (λ t ts. x.spec ▸ list (atom (codes "object") ▸ t ▸ ts) ▸ none) name_is
      (followed_twice (row (map (array_tree D.object) D.object.arrays)) (auxiliary_tree D ▸ printed_actions) behind
      ∙ ap₂ (λ rs t. followed rs (t ▸ followed printed_actions behind)) arrays auxiliaries_are)

  pub trees_read : too_many x ≡ false → file_reading printed_trees ≡ fine D
  trees_read few = ap file_reading is_printed ∙ file_again few

  pub trees_alike : AllAlike Readable printed_trees (forms_of_file x)
  trees_alike = subst (λ ts. AllAlike Readable ts (forms_of_file x)) (sym is_printed) file_alike

-- ---- the text

depth_within : (m n : ℕ) → m ≡ n → n ≤ depth_limit → m ≤ depth_limit
depth_within m n e h = omega (arith, e, h)

values_back : (bytes : List ℕ) (x : File) (formed : IsFormed x) (v : Values) → AreValues (declared_in_file x) x v → ReadsAs bytes (forms_of_file x)
    → nat_lt condition_limit (condition_count (declared_in_file x) (sections_in_file x)) ≡ false → IsPrintable (development_made v) → Says file_reading (development_printed (development_made v)) (development_made v)
values_back bytes x formed v are reads few printable =
    let D = development_made v in
    let ts = specification_tree (column_names D) D.specification ▸ object_tree D ▸ none in
    let fit = items_fit_lem bytes (forms_of_file x) reads in
    let short = reads.size in
    let small : item_count_of_all (forms_of_file x) ≤ 4294967296 = omega (arith, fit, short) in
    let free : IsFree (development_made v) = record { variables = printable.variables; parameters = printable.parameters } in
    let alike = trees_alike x formed v are small free in (
      ts,
      printed_reads ts (readable_trees ts (forms_of_file x) alike (read_atoms bytes (forms_of_file x) reads))
          (depth_within (depth_of_all ts) (depth_of_all (forms_of_file x)) (same_depths ts (forms_of_file x) alike) reads.nesting) printable.size,
      trees_read x formed v are small free few,
    )

-- a development that a file says is said by what is printed of it
pub text_back : (bytes : List ℕ) (D : Development) → Says file_reading bytes D → IsPrintable D → Says file_reading (development_printed D) D
text_back bytes D (ts, reads, says) printable =
    let forms = has_forms ts D says in
    let x = forms.file in
    let says_so = sym (file_reads x forms.formed) ∙ ap file_reading (sym forms.same) ∙ says in
    let within = limited_parts (nat_lt condition_limit (condition_count (declared_in_file x) (sections_in_file x))) 0 (parts_reading (declared_in_file x) x) D says_so in
    let values = has_values (declared_in_file x) x D within.1 in
    subst (λ D. IsPrintable D → Says file_reading (development_printed D) D) values.made
    (values_back bytes x forms.formed values.values values.are (subst (ReadsAs bytes) forms.same reads) within.0) printable
