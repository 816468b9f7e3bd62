-- What is printed of a point, and of a body, has the same names and code, and reads as the same.
use Rattle.std.proofs.Common.{◌≡◌, ℕ, ◌+◌, ◌≤◌, Bool, true, false, ◌&&◌, cond, List, [], ◌∷◌, ◌++◌, length, Option, Some, None, map, refl, sym, ap, ap₂, ◌∙◌, subst, arith}
use Rattle.std.specs.Prelude.{codes, nat_le, nat_lt, slice_get}
use Rattle.lc_base.specs.Limits.{point_limit}
use Rattle.lc_sexp.specs.TreeCode.{tree_count}
use Rattle.lc_sexp.specs.Trees.{Tree, Trees, atom, list, none, ◌▸◌, item_count, item_count_of_all, row}
use Rattle.lc_reading.proofs.Fine.{IfFine, if_fine_weaker, both_fine, of_fine}
use Rattle.lc_reading.specs.Naming.{use_reading}
use Rattle.lc_reading.specs.Readings.{Reading, fine, wrong, both}
use Rattle.lc_reading.specs.declared.pass.Pass.TheVariants.{Shape}
use Rattle.lc_term.specs.Syntax.{Formula}
use Rattle.lc_text.specs.Formulas.{formula_reading}
use Rattle.lc_text.specs.Names.{Names}
use Rattle.lc_text.specs.Spelling.{Spelled}
use Rattle.lc_text.specs.SpelledTree.{formula_tree}
use Rattle.lc_text.specs.Terms.{pair}
use Rattle.lc_object.specs.Syntax.{Instr, Point, Object}
use Rattle.lc_action.specs.Action.{Action}
use Rattle.lc_outline.specs.Development.{Outline}
use Rattle.lc_object_text.specs.Declaring.{kth_name_reading, names_reading}
use Rattle.lc_object_text.specs.Instructions.{instruction_reading}
use Rattle.lc_object_text.specs.ObjectNames.{Declared, Body, first_text, within_first, later, code_names, body_names, bodies_due}
use Rattle.lc_object_text.specs.Points.{Beside, BodyText, is_shaped, point_of, point_name_reading, point_parts, point_reading, points_reading, body_of, behind_name, locals_reading, is_of_another, body_parts, body_reading}
use Rattle.lc_object_text.specs.Rows.{placed_reading}
use Rattle.lc_object_text.specs.Sections.{parts_in, forms_in}
use Rattle.lc_rider_text.specs.Known.{Known, Ways}
use Rattle.lc_rider_text.specs.Ons.{ons_reading}
use Rattle.lc_rider_text.specs.declared.edges.Edges.{Edges}
use Rattle.lc_outline_text.specs.Bodies.{names_in, due_reading, ith_reading, bodies_reading}
use Rattle.lc_outline_text.specs.Declarations.{Declarations, known_of, own_ways}
use Rattle.lc_outline_text.specs.Needs.{code_word, edges_of, lacks_on}
use Rattle.lc_outline_text.specs.Points.{formulas_in_reading, outline_of, outline_reading, beside}
use Rattle.lc_outline_text.specs.Sizes.{assert_count}
use Rattle.lc_outline_print.specs.Beside.{on_tree}
use Rattle.lc_text_laws.specs.CodeSpelled.{AreCodeNames}
use Rattle.lc_outline_print.specs.Instructions.{instruction_tree}
use Rattle.lc_text_laws.specs.KnownSpelled.{AreKnown}
use Rattle.lc_outline_print.specs.Naming.{with_client, named_by}
use Rattle.lc_outline_print.specs.Parts.{name_trees, formula_trees}
use Rattle.lc_text_laws.specs.Spellings.{AreUnbound}
use Rattle.lc_text_laws.proofs.Again.{with_reading, FormAgain, form_again, form_reads, form_alike}
use Rattle.lc_text_laws.proofs.Alike.{same_count, itself, all_itself, as_many}
use Rattle.lc_text_laws.proofs.Formulas.{formula_again}
use Rattle.lc_text_laws.proofs.Instructions.{instruction_stood}
use Rattle.lc_text_laws.proofs.Kin.{Pairwise, AreBehind, Again, AllAgain, AllNamed, itself_fine, behind_again, placed_trees, placed_as_row, placed_again}
use Rattle.lc_text_laws.proofs.Names.{kth_stood, names_stood, due_stood}
use Rattle.lc_text_laws.proofs.Riders.{ons_stood}
use Rattle.lc_text_laws.proofs.Rows.{both_trees, IsRow, limited_fine}
use Rattle.lc_text.proofs.Printed.{same_refl}

-- ---- what is printed

-- (assert F*)
abbrev pub assert_tree : Spelled → List Formula → Tree
assert_tree by fs = list (atom (codes "assert") ▸ formula_trees by fs)

-- NAME INSTR (assert F*) ON*
abbrev pub point_parts_of : Object → List Action → Spelled → Point × Outline → Trees
point_parts_of object actions by q =
    atom q.0.name ▸ instruction_tree object by q.0.instruction ▸ assert_tree by q.1.asserts ▸ row (map (on_tree object actions by) q.1.ons)

abbrev pub point_with : Object → List Action → Spelled → Point × Outline → Tree
point_with object actions by q = list (atom (codes "point") ▸ point_parts_of object actions by q)

-- OP (LOCAL*) POINT+, of this operation
abbrev pub body_parts_of : Object → List Action → Spelled → List ℕ → BodyText (Point × Outline) → Trees
body_parts_of object actions by operation x = atom operation ▸ list (name_trees x.locals) ▸ row (map (point_with object actions by) x.points)

-- all parts of two points are the same but their assertions, and of these there are as many
abbrev pub SamePoint : Trees → Trees → Type 0
SamePoint ts us =
    (first_text ts ≡ first_text us) × (within_first (later ts) ≡ within_first (later us)) × (assert_count ts ≡ assert_count us) × (later (later (later ts)) ≡ later (later (later us)))

abbrev pub ArePoints : Trees → Trees → Type 0
ArePoints ts us = Pairwise (AreBehind (codes "point") SamePoint) ts us

-- the same for the parts of bodies
abbrev pub SameBody : Trees → Trees → Type 0
SameBody ts us = (first_text ts ≡ first_text us) × (within_first (later ts) ≡ within_first (later us)) × ArePoints (later (later ts)) (later (later us))

module _ (known : Known) (names : Names) (by : Spelled) (object : Object) (actions : List Action) (all : AreKnown known names by object actions) (free : AreUnbound names) where
  -- ---- what is beside the code

  abbrev IsAssert : ℕ → Tree → List Formula → Type 0
  IsAssert i t fs = FormAgain (formula_tree by 0) (formula_reading names []) (codes "assert") i t fs

  abbrev IsOutline : Option Ways → Edges → ℕ → Tree → ℕ → Trees → Outline → Type 0
  IsOutline own edges i t m ts x =
      IsAssert i t x.asserts × (row (map (on_tree object actions by) x.ons) ≡ ts) × (outline_reading known names own edges i (assert_tree by x.asserts) m ts ≡ fine x)

  outline_again : (own : Option Ways) (edges : Edges) (i : ℕ) (t : Tree) (m : ℕ) (ts : Trees) → item_count t ≤ 4294967296 → IfFine (outline_reading known names own edges i t m ts) (IsOutline own edges i t m ts)
  outline_again own edges i t m ts small =
      both_fine (IsAssert i t) (λ xs. IsRow (on_tree object actions by) ts xs × (ons_reading known names own edges m ts ≡ fine xs)) (IsOutline own edges i t m ts) outline_of
      (formulas_in_reading (codes "assert") names i t) (ons_reading known names own edges m ts)
      (form_again (formula_tree by 0) (formula_reading names []) (codes "assert") (formula_again names by all.spelled free) i t small)
      (with_reading (IsRow (on_tree object actions by) ts) (ons_reading known names own edges m ts) (ons_stood known names by object actions all own edges m ts))
      (λ fs xs a b. (a, b.0, ap₂ (both outline_of) (form_reads (formula_tree by 0) (formula_reading names []) (codes "assert") (same_refl (codes "assert")) i t fs a) b.1))

  abbrev IsBeside : Option Ways → ℕ → Tree → Bool → Reading Point → ℕ → Tree → Trees → Point × Outline → Type 0
  IsBeside own n code shaped point m t ts q =
      (point ≡ fine q.0) × IsAssert m t q.1.asserts × (row (map (on_tree object actions by) q.1.ons) ≡ ts)
      × (beside known names own n code shaped point m (assert_tree by q.1.asserts ▸ ts) ≡ fine q)

  beside_again : (own : Option Ways) (n : ℕ) (code : Tree) (shaped : Bool) (point : Reading Point) (m : ℕ) (t : Tree) (ts : Trees) → item_count t ≤ 4294967296
      → IfFine (beside known names own n code shaped point m (t ▸ ts)) (IsBeside own n code shaped point m t ts)
  beside_again own n code shaped point m t ts small = at (shaped && lacks_on known.actions (code_word code) (forms_in (codes "on") ts)) refl
    where
      at : (c : Bool) → (shaped && lacks_on known.actions (code_word code) (forms_in (codes "on") ts)) ≡ c
          → IfFine (cond c (wrong Shape n) (both pair point (outline_reading known names own (edges_of (code_word code)) m t (m + item_count t) ts))) (IsBeside own n code shaped point m t ts)
      at true e = tt
      at false e =
          both_fine (λ p. point ≡ fine p) (IsOutline own (edges_of (code_word code)) m t (m + item_count t) ts) (IsBeside own n code shaped point m t ts) pair point
          (outline_reading known names own (edges_of (code_word code)) m t (m + item_count t) ts) (itself_fine point) (outline_again own (edges_of (code_word code)) m t (m + item_count t) ts small)
          (λ p x a b. (
            a,
            b.0,
            b.1,
            ap (λ c. cond c (wrong Shape n) (both pair point (outline_reading known names own (edges_of (code_word code)) m (assert_tree by x.asserts) (m + item_count (assert_tree by x.asserts)) ts))) e
                ∙ ap₂ (both pair) a (ap (λ k. outline_reading known names own (edges_of (code_word code)) m (assert_tree by x.asserts) (m + k) ts)
                (same_count (assert_tree by x.asserts) t (form_alike (formula_tree by 0) (formula_reading names []) (codes "assert") m t x.asserts b.0)) ∙ b.2),
          ))

  -- ---- a point

  module _ (d : Declared) (b : Body) (coded : AreCodeNames (code_names d b) (body_names d b) by object) (own : Option Ways) (o : ℕ) where
    abbrev side : Beside (Point × Outline)
    side = beside known names own

    abbrev parts_of : Point × Outline → Trees
    parts_of = point_parts_of object actions by

    named : (p n m k : ℕ) (name code : Tree)
        → IfFine (both (point_of o) (point_name_reading d p n m name) (instruction_reading (code_names d b) (body_names d b) k code)) (λ q. (atom q.name ≡ name) × (instruction_tree object by q.instruction ≡ code))
    named p n m k name code =
        both_fine (λ w. atom w ≡ name) (λ i. instruction_tree object by i ≡ code) (λ q. (atom q.name ≡ name) × (instruction_tree object by q.instruction ≡ code)) (point_of o)
        (point_name_reading d p n m name) (instruction_reading (code_names d b) (body_names d b) k code)
        (limited_fine (λ w. atom w ≡ name) (nat_le point_limit p) n (kth_name_reading d.points p m name) (kth_stood d.points p m name))
        (instruction_stood (code_names d b) (body_names d b) by object coded k code) (λ w i x y. (x, y))

    abbrev instruction_at : ℕ → Tree → Tree → Reading Instr
    instruction_at m name code = instruction_reading (code_names d b) (body_names d b) (m + item_count name) code

    abbrev point_at : ℕ → ℕ → ℕ → Tree → Tree → Reading Point
    point_at i n m name code = both (point_of o) (point_name_reading d (b.first + i) n m name) (instruction_at m name code)

    joined : (i n m : ℕ) (name code t : Tree) (ts : Trees) (q : Point × Outline)
        → IsBeside own n code (is_shaped (instruction_at m name code)) (point_at i n m name code) (m + item_count name + item_count code) t ts q
        → AllAgain SamePoint (point_parts d b side o i n m) (parts_of q) (name ▸ code ▸ t ▸ ts) q
    joined i n m name code t ts q a =
        let asserts = a.1 in
        let said = of_fine (λ (q : Point). (atom q.name ≡ name) × (instruction_tree object by q.instruction ≡ code)) (point_at i n m name code) q.0
        (named (b.first + i) n m (m + item_count name) name code) a.0 in
        let whole : AllAgain SamePoint (point_parts d b side o i n m) (name ▸ code ▸ assert_tree by q.1.asserts ▸ ts) (name ▸ code ▸ t ▸ ts) q =
        record {
          alike = (itself name, (itself code, (form_alike (formula_tree by 0) (formula_reading names []) (codes "assert") (m + item_count name + item_count code) t q.1.asserts asserts, all_itself ts)));
          kin = (refl, refl, as_many (formula_trees by q.1.asserts) asserts.parts asserts.again.alike ∙ ap (λ t. tree_count (parts_in (codes "assert") t)) (sym asserts.shape), refl);
          reads = a.3;
        } in
        subst (λ us. AllAgain SamePoint (point_parts d b side o i n m) us (name ▸ code ▸ t ▸ ts) q)
        (sym (both_trees _ _ _ _ said.0 (both_trees _ _ _ _ said.1 (both_trees _ _ _ _ refl a.2)))) whole

    parts_again : (i n m : ℕ) (ts : Trees) → item_count_of_all ts ≤ 4294967296 → IfFine (point_parts d b side o i n m ts) (λ q. Unit {0} → AllAgain SamePoint (point_parts d b side o i n m) (parts_of q) ts q)
    parts_again i n m none small = tt
    parts_again i n m (name ▸ none) small = tt
    parts_again i n m (name ▸ code ▸ none) small = tt
    parts_again i n m (name ▸ code ▸ t ▸ ts) small =
        let at = m + item_count name + item_count code in
        if_fine_weaker (IsBeside own n code (is_shaped (instruction_at m name code)) (point_at i n m name code) at t ts)
        (λ q. Unit {0} → AllAgain SamePoint (point_parts d b side o i n m) (parts_of q) (name ▸ code ▸ t ▸ ts) q) (point_parts d b side o i n m (name ▸ code ▸ t ▸ ts)) (λ q a u. joined i n m name code t ts q a)
        (beside_again own n code (is_shaped (instruction_at m name code)) (point_at i n m name code) at t ts (omega (arith, small)))

    abbrev tree_of : Point × Outline → Tree
    tree_of = point_with object actions by

    abbrev K : Tree → Tree → Type 0
    K = AreBehind (codes "point") SamePoint

    point_again : (i n : ℕ) (t : Tree) → item_count t ≤ 4294967296 → IfFine (point_reading d b side o i n t) (λ q. Unit {0} → Again K (point_reading d b side o i n) (tree_of q) t q)
    point_again i n t small = behind_again (λ q. Unit {0}) SamePoint (codes "point") (point_parts d b side o i) parts_of (parts_again i) n t small

    any_names : (qs : List (Point × Outline)) → AllNamed (λ q. Unit {0}) qs
    any_names [] = tt
    any_names (q ∷ qs) = (tt, any_names qs)

    AreAgain : ℕ → ℕ → Trees → List (Point × Outline) → Type 0
    AreAgain n m ts qs = AllAgain (Pairwise K) (points_reading d b side o n m) (row (map tree_of qs)) ts qs

    some_points : (n m : ℕ) (t : Tree) (ts : Trees) (qs : List (Point × Outline))
        → AllAgain (Pairwise K) (placed_reading (point_reading d b side o) 0 m) (placed_trees (λ i. tree_of) 0 qs) (t ▸ ts) qs → AreAgain n m (t ▸ ts) qs
    unfolding AreAgain
    some_points n m t ts [] a = absurd a.alike
    some_points n m t ts (q ∷ qs) a =
        let as_row = subst (λ us. AllAgain (Pairwise K) (placed_reading (point_reading d b side o) 0 m) us (t ▸ ts) (q ∷ qs)) (placed_as_row tree_of 0 (q ∷ qs)) a in
        record { alike = as_row.alike; kin = as_row.kin; reads = as_row.reads }

    points_again : (n m : ℕ) (ts : Trees) → item_count_of_all ts ≤ 4294967296 → IfFine (points_reading d b side o n m ts) (AreAgain n m ts)
    points_again n m none small = tt
    points_again n m (t ▸ ts) small =
        if_fine_weaker (λ qs. AllNamed (λ q. Unit {0}) qs → AllAgain (Pairwise K) (placed_reading (point_reading d b side o) 0 m) (placed_trees (λ i. tree_of) 0 qs) (t ▸ ts) qs) (AreAgain n m (t ▸ ts))
        (placed_reading (point_reading d b side o) 0 m (t ▸ ts)) (λ qs h. some_points n m t ts qs (h (any_names qs)))
        (placed_again (λ q. Unit {0}) K (point_reading d b side o) (λ i. tree_of) point_again 0 m (t ▸ ts) small)

    -- ---- a body

    abbrev body_of_parts : BodyText (Point × Outline) → Trees
    body_of_parts = body_parts_of object actions by b.operation

    abbrev AreLocals : ℕ → Tree → ℕ → Tree → List (List ℕ) → Type 0
    AreLocals i t j u ws = (atom b.operation ≡ t) × (list (name_trees ws) ≡ u) × (locals_reading d b i t j u ≡ fine ws)

    locals_again : (i : ℕ) (t : Tree) (j : ℕ) (u : Tree) → is_of_another d.operations b.operation t ≡ false → IfFine (locals_reading d b i t j u) (AreLocals i t j u)
    locals_again i t j u e =
        if_fine_weaker (λ ws. ((atom b.operation ≡ t) × (list (name_trees ws) ≡ u)) × (locals_reading d b i t j u ≡ fine ws)) (AreLocals i t j u) (locals_reading d b i t j u) (λ ws a. (a.0.0, a.0.1, a.1))
        (with_reading (λ ws. (atom b.operation ≡ t) × (list (name_trees ws) ≡ u)) (locals_reading d b i t j u)
        (both_fine (λ k. atom b.operation ≡ t) (λ ws. list (name_trees ws) ≡ u) (λ ws. (atom b.operation ≡ t) × (list (name_trees ws) ≡ u)) behind_name (use_reading d.operations i t)
        (names_reading 16 (b.call.arguments ++ b.locals) (length b.call.arguments) j u) (due_stood d.operations b.operation i t e)
        (names_stood 16 (b.call.arguments ++ b.locals) (length b.call.arguments) j u) (λ k ws x y. (x, y))))

    abbrev IsBodyAgain : ℕ → ℕ → Trees → BodyText (Point × Outline) → Type 0
    IsBodyAgain n m ts x = Unit {0} → AllAgain SameBody (body_parts d b side o n m) (body_of_parts x) ts x

    body_joined : (n m : ℕ) (op locals : Tree) (ts : Trees) (ws : List (List ℕ)) (qs : List (Point × Outline)) → is_of_another d.operations b.operation op ≡ false
        → AreLocals m op (m + item_count op) locals ws → AreAgain n (m + item_count op + item_count locals) ts qs
        → AllAgain SameBody (body_parts d b side o n m) (body_of_parts (body_of ws qs)) (op ▸ locals ▸ ts) (body_of ws qs)
    unfolding AreAgain
    body_joined n m op locals ts ws qs e a c =
        let at = m + item_count op + item_count locals in
        let whole : AllAgain SameBody (body_parts d b side o n m) (op ▸ locals ▸ row (map tree_of qs)) (op ▸ locals ▸ ts) (body_of ws qs) =
        record {
          alike = (itself op, (itself locals, c.alike));
          kin = (refl, refl, c.kin);
          reads = ap (λ x. cond x (wrong Shape n) (both body_of (locals_reading d b m op (m + item_count op) locals) (points_reading d b side o n at (row (map tree_of qs))))) e ∙ ap₂ (both body_of) a.2 c.reads;
        } in
        subst (λ us. AllAgain SameBody (body_parts d b side o n m) us (op ▸ locals ▸ ts) (body_of ws qs)) (sym (both_trees _ _ _ _ a.0 (both_trees _ _ _ _ a.1 refl))) whole

    body_parts_again : (n m : ℕ) (ts : Trees) → item_count_of_all ts ≤ 4294967296 → IfFine (body_parts d b side o n m ts) (IsBodyAgain n m ts)
    body_parts_again n m none small = tt
    body_parts_again n m (op ▸ none) small = tt
    body_parts_again n m (op ▸ locals ▸ ts) small = at (is_of_another d.operations b.operation op) refl
      where
        at : (c : Bool) → is_of_another d.operations b.operation op ≡ c
            → IfFine (cond c (wrong Shape n) (both body_of (locals_reading d b m op (m + item_count op) locals) (points_reading d b side o n (m + item_count op + item_count locals) ts))) (IsBodyAgain n m (op ▸ locals ▸ ts))
        at true e = tt
        at false e =
            both_fine (AreLocals m op (m + item_count op) locals) (AreAgain n (m + item_count op + item_count locals) ts) (IsBodyAgain n m (op ▸ locals ▸ ts)) body_of
            (locals_reading d b m op (m + item_count op) locals) (points_reading d b side o n (m + item_count op + item_count locals) ts)
            (locals_again m op (m + item_count op) locals e) (points_again n (m + item_count op + item_count locals) ts (omega (arith, small)))
            (λ ws qs a c u. body_joined n m op locals ts ws qs e a c)

    pub body_again : (n : ℕ) (t : Tree) → item_count t ≤ 4294967296
        → IfFine (body_reading d b (beside known names own) o n t)
        (λ x. Unit {0} → Again (AreBehind (codes "body") SameBody) (body_reading d b (beside known names own) o n) (list (atom (codes "body") ▸ body_parts_of object actions by b.operation x)) t x)
    body_again n t small = behind_again (λ x. Unit {0}) SameBody (codes "body") (body_parts d b side o) body_of_parts body_parts_again n t small

-- ---- all bodies

-- the variables of a body
abbrev pub body_variables : Body → List (List ℕ)
body_variables b = b.call.arguments ++ b.locals

abbrev pub spelled_in : List (List ℕ) → Body → Spelled
spelled_in columns b = named_by columns (with_client (body_variables b))

-- the names that a body sees are printed as they are read
pub record IsNamed (d : Declarations) (columns : List (List ℕ)) (object : Object) (actions : List Action) (b : Body) : Type 0 where
  pub coded : AreCodeNames (code_names d.declared b) (body_names d.declared b) (spelled_in columns b) object
  pub known : AreKnown (known_of d) (names_in d b) (spelled_in columns b) object actions
  pub free : AreUnbound (names_in d b)

module _ (d : Declarations) (columns : List (List ℕ)) (object : Object) (actions : List Action) where
  -- the expected body
  abbrev pub due_tree : Option Body → BodyText (Point × Outline) → Tree
  due_tree None x = list none
  due_tree (Some b) x = list (atom (codes "body") ▸ body_parts_of object actions (spelled_in columns b) b.operation x)

  abbrev pub ith_tree : ℕ → BodyText (Point × Outline) → Tree
  ith_tree i x = due_tree (slice_get d.declared.bodies i) x

  module _ (named : (i : ℕ) (b : Body) → slice_get d.declared.bodies i ≡ Some b → IsNamed d columns object actions b) where
    due_again : (i : ℕ) (o : Option Body) → slice_get d.declared.bodies i ≡ o → (n : ℕ) (t : Tree) → item_count t ≤ 4294967296
        → IfFine (due_reading d o i n t) (λ x. Unit {0} → Again (AreBehind (codes "body") SameBody) (due_reading d o i n) (due_tree o x) t x)
    due_again i None e n t small = tt
    due_again i (Some b) e n t small =
        let is = named i b e in body_again (known_of d) (names_in d b) (spelled_in columns b) object actions is.known is.free d.declared b is.coded (own_ways d i) i n t small

    any_texts : (xs : List (BodyText (Point × Outline))) → AllNamed (λ x. Unit {0}) xs
    any_texts [] = tt
    any_texts (x ∷ xs) = (tt, any_texts xs)

    abbrev pub AreBodies : ℕ → ℕ → Trees → List (BodyText (Point × Outline)) → Type 0
    AreBodies n m ts xs = AllAgain (Pairwise (AreBehind (codes "body") SameBody)) (bodies_reading d n m) (placed_trees ith_tree 0 xs) ts xs

    pub bodies_again : (n m : ℕ) (ts : Trees) → item_count_of_all ts ≤ 4294967296 → IfFine (bodies_reading d n m ts) (AreBodies n m ts)
    bodies_again n m ts small = at (nat_lt (tree_count ts) (bodies_due (length d.declared.operations))) refl
      where
        at : (c : Bool) → nat_lt (tree_count ts) (bodies_due (length d.declared.operations)) ≡ c → IfFine (cond c (wrong Shape n) (placed_reading (ith_reading d) 0 m ts)) (AreBodies n m ts)
        at true e = tt
        at false e =
            if_fine_weaker (λ xs. AllNamed (λ x. Unit {0}) xs → AllAgain (Pairwise (AreBehind (codes "body") SameBody)) (placed_reading (ith_reading d) 0 m) (placed_trees ith_tree 0 xs) ts xs) (AreBodies n m ts)
            (placed_reading (ith_reading d) 0 m ts)
            (λ xs h. let a = h (any_texts xs) in record {
              alike = a.alike;
              kin = a.kin;
              reads = ap (λ k. cond (nat_lt k (bodies_due (length d.declared.operations))) (wrong Shape n) (placed_reading (ith_reading d) 0 m (placed_trees ith_tree 0 xs))) (as_many (placed_trees ith_tree 0 xs) ts a.alike)
                  ∙ ap (λ c. cond c (wrong Shape n) (placed_reading (ith_reading d) 0 m (placed_trees ith_tree 0 xs))) e ∙ a.reads;
            })
            (placed_again (λ x. Unit {0}) (AreBehind (codes "body") SameBody) (ith_reading d) ith_tree (λ i n t small. due_again i (slice_get d.declared.bodies i) refl n t small) 0 m ts small)
