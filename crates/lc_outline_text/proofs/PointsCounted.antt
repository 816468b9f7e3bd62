-- The points of bodies assert and do what their texts say.
use Rattle.std.proofs.Common.{◌≡◌, ℕ, ◌+◌, ◌≤◌, Bool, List, [], length, Option, Some, None, refl, arith}
use Rattle.std.specs.Prelude.{codes, slice_get}
use Rattle.lc_sexp.specs.TreeCode.{tree_count}
use Rattle.lc_sexp.specs.Trees.{Tree, Trees, none, ◌▸◌, item_count}
use Rattle.lc_reading.proofs.Holding.{Holds, holds_unit, both_holds, if_holds, holds_weaker}
use Rattle.lc_reading.specs.Readings.{Reading, wrong}
use Rattle.lc_reading.specs.declared.pass.Pass.TheVariants.{Shape}
use Rattle.lc_term.specs.Syntax.{Formula}
use Rattle.lc_text.specs.Formulas.{formula_reading}
use Rattle.lc_text.specs.Names.{Names}
use Rattle.lc_text.specs.Terms.{pair}
use Rattle.lc_reading.specs.Rows.{each_reading}
use Rattle.lc_object.specs.Syntax.{Point}
use Rattle.lc_object_text.proofs.Holding.{Each, placed_holds, form_holds}
use Rattle.lc_object_text.specs.Instructions.{instruction_reading}
use Rattle.lc_object_text.specs.ObjectNames.{Body, within_first, later, points_in, code_names, body_names}
use Rattle.lc_object_text.specs.Points.{Beside, BodyText, is_shaped, point_of, point_name_reading, point_parts, point_reading, points_reading, body_of, locals_reading, is_of_another, body_parts, body_reading}
use Rattle.lc_object_text.specs.Sections.{parts_in, forms_in, some_forms_in}
use Rattle.lc_outline.specs.Development.{Outline}
use Rattle.lc_rider_text.specs.Ons.{ons_reading}
use Rattle.lc_rider_text.specs.declared.edges.Edges.{Edges}
use Rattle.lc_outline_text.specs.Bodies.{names_in, due_reading, ith_reading, bodies_reading}
use Rattle.lc_outline_text.specs.Declarations.{Declarations, known_of, own_ways}
use Rattle.lc_outline_text.specs.Needs.{code_word, edges_of}
use Rattle.lc_outline_text.specs.Points.{formulas_in_reading, outline_of, outline_reading, beside}
use Rattle.lc_outline_text.specs.Sizes.{assert_count, ons_of}
use Rattle.lc_outline_text.proofs.InstructionsCounted.{IsCoded, instruction_said}
use Rattle.lc_outline_text.proofs.RidersCounted.{IsOnOf, ons_said}
use Rattle.lc_outline_text.proofs.RowsCounted.{Alike, Along, placed_along, IsForm, some_alike}
use Rattle.lc_spec_text.proofs.Ways.{each_counted}

-- ---- a point

-- a point NAME INSTR (assert F ..) ON .. of the body b of the o-th operation
pub record IsPointOf (d : Declarations) (b : Body) (o : ℕ) (ts : Trees) (p : Point × Outline) : Type 0 where
  pub operation : p.0.operation ≡ o
  pub asserts : length p.1.asserts ≡ assert_count ts
  pub code : IsCoded (body_names d.declared b) (within_first (later ts)) p.0.instruction
  pub ons : Alike (IsOnOf d o) (ons_of ts) p.1.ons

pub formulas_said : (word : List ℕ) (names : Names) (n : ℕ) (t : Tree) → Holds (λ fs. length fs ≡ tree_count (parts_in word t)) (formulas_in_reading word names n t)
formulas_said word names n t =
    holds_weaker _ (λ fs. length fs ≡ tree_count (parts_in word t)) (formulas_in_reading word names n t) (λ fs h. h.1)
    (form_holds (λ ts (fs : List Formula). length fs ≡ tree_count ts) word (λ n. each_reading (formula_reading names [])) n t (λ n m ts. each_counted (formula_reading names []) m ts))

abbrev IsOutlineOf : Declarations → ℕ → Tree → Trees → Outline → Type 0
IsOutlineOf d o t ts x = (length x.asserts ≡ tree_count (parts_in (codes "assert") t)) × Alike (IsOnOf d o) (forms_in (codes "on") ts) x.ons

outline_said : (d : Declarations) (o : ℕ) (names : Names) (edges : Edges) (i : ℕ) (t : Tree) (m : ℕ) (ts : Trees) → Holds (IsOutlineOf d o t ts) (outline_reading (known_of d) names (own_ways d o) edges i t m ts)
outline_said d o names edges i t m ts =
    both_holds (λ fs. length fs ≡ tree_count (parts_in (codes "assert") t)) (Alike (IsOnOf d o) (forms_in (codes "on") ts)) (IsOutlineOf d o t ts) outline_of (formulas_in_reading (codes "assert") names i t)
    (ons_reading (known_of d) names (own_ways d o) edges m ts) (formulas_said (codes "assert") names i t) (ons_said d o names edges m ts) (λ fs ons h g. (h, g))

-- its code
abbrev IsCodeOf : Declarations → Body → ℕ → Trees → Point → Type 0
IsCodeOf d b o c q = (q.operation ≡ o) × IsCoded (body_names d.declared b) c q.instruction

beside_said : (d : Declarations) (b : Body) (o : ℕ) (name code : Tree) (names : Names) (n : ℕ) (shaped : Bool) (r : Reading Point) → Holds (IsCodeOf d b o (within_first (code ▸ none))) r → (m : ℕ) (ts : Trees)
    → Holds (IsPointOf d b o (name ▸ code ▸ ts)) (beside (known_of d) names (own_ways d o) n code shaped r m ts)
beside_said d b o name code names n shaped r h m none = tt
beside_said d b o name code names n shaped r h m (t ▸ ts) =
    let P = IsPointOf d b o (name ▸ code ▸ t ▸ ts) in
    if_holds P _ (wrong Shape n) _ tt
    (both_holds (IsCodeOf d b o (within_first (code ▸ none))) (IsOutlineOf d o t ts) P pair r (outline_reading (known_of d) names (own_ways d o) (edges_of (code_word code)) m t (m + item_count t) ts) h
    (outline_said d o names (edges_of (code_word code)) m t (m + item_count t) ts) (λ q x g k. record { operation = g.0; asserts = k.0; code = g.1; ons = k.1 }))

abbrev side_of : Declarations → Body → ℕ → Beside (Point × Outline)
side_of d b o = beside (known_of d) (names_in d b) (own_ways d o)

parts_said : (d : Declarations) (b : Body) (o i n m : ℕ) (ts : Trees) → Holds (IsPointOf d b o ts) (point_parts d.declared b (side_of d b o) o i n m ts)
parts_said d b o i n m none = tt
parts_said d b o i n m (name ▸ none) = tt
parts_said d b o i n m (name ▸ code ▸ ts) =
    let names = code_names d.declared b in
    let own = body_names d.declared b in
    let k = m + item_count name in
    let r = instruction_reading names own k code in
    let w = point_name_reading d.declared (b.first + i) n m name in
    beside_said d b o name code (names_in d b) n (is_shaped r) _
    (both_holds (λ w. Unit {0}) (IsCoded own (within_first (code ▸ none))) (IsCodeOf d b o (within_first (code ▸ none))) (point_of o) w r (holds_unit w) (instruction_said names own k code) (λ w i u h. (refl, h)))
    (k + item_count code) ts

-- ---- a body

-- a body OP (LOCAL ..) POINT .. of the o-th operation
abbrev pub IsBodyOf : Declarations → Body → ℕ → Trees → BodyText (Point × Outline) → Type 0
IsBodyOf d b o us x = (1 ≤ length (points_in us)) × Alike (IsPointOf d b o) (points_in us) x.points

abbrev ArePointsOf : Declarations → Body → ℕ → Trees → List (Point × Outline) → Type 0
ArePointsOf d b o ts ps = (1 ≤ length (some_forms_in (codes "point") ts)) × Alike (IsPointOf d b o) (some_forms_in (codes "point") ts) ps

points_said : (d : Declarations) (b : Body) (o n m : ℕ) (ts : Trees) → Holds (ArePointsOf d b o ts) (points_reading d.declared b (side_of d b o) o n m ts)
points_said d b o n m none = tt
points_said d b o n m (t ▸ ts) =
    holds_weaker (Along (IsForm (codes "point") (IsPointOf d b o)) (t ▸ ts)) (ArePointsOf d b o (t ▸ ts)) (points_reading d.declared b (side_of d b o) o n m (t ▸ ts)) (λ ps h. (omega arith, some_alike (codes "point") (IsPointOf d b o) (t ▸ ts) ps h))
    (placed_along (IsForm (codes "point") (IsPointOf d b o)) (point_reading d.declared b (side_of d b o) o)
    (λ i n t. form_holds (IsPointOf d b o) (codes "point") (point_parts d.declared b (side_of d b o) o i) n t (parts_said d b o i)) 0 m (t ▸ ts))

body_parts_said : (d : Declarations) (b : Body) (o n m : ℕ) (us : Trees) → Holds (IsBodyOf d b o us) (body_parts d.declared b (side_of d b o) o n m us)
body_parts_said d b o n m none = tt
body_parts_said d b o n m (op ▸ none) = tt
body_parts_said d b o n m (op ▸ locals ▸ ts) =
    let P = IsBodyOf d b o (op ▸ locals ▸ ts) in
    let r = locals_reading d.declared b m op (m + item_count op) locals in
    if_holds P (is_of_another d.declared.operations b.operation op) (wrong Shape n) _ tt
    (both_holds (λ ws. Unit {0}) (ArePointsOf d b o ts) P body_of r (points_reading d.declared b (side_of d b o) o n (m + item_count op + item_count locals) ts) (holds_unit r)
    (points_said d b o n (m + item_count op + item_count locals) ts) (λ ws ps u h. h))

-- ---- the bodies

-- the body of the i-th operation
abbrev pub IsDue : Declarations → ℕ → Tree → BodyText (Point × Outline) → Type 0
IsDue d i t x = (b : Body) × (slice_get d.declared.bodies i ≡ Some b) × IsBodyOf d b i (parts_in (codes "body") t) x

due_said : (d : Declarations) (i n : ℕ) (t : Tree) (due : Option Body) → slice_get d.declared.bodies i ≡ due → Holds (IsDue d i t) (due_reading d due i n t)
due_said d i n t None e = tt
due_said d i n t (Some b) e =
    holds_weaker _ (IsDue d i t) (body_reading d.declared b (side_of d b i) i n t) (λ x h. (b, e, h.1)) (form_holds (IsBodyOf d b i) (codes "body") (body_parts d.declared b (side_of d b i) i) n t (body_parts_said d b i))

pub bodies_said : (d : Declarations) (n m : ℕ) (ts : Trees) → Holds (Each (IsDue d) 0 ts) (bodies_reading d n m ts)
bodies_said d n m ts =
    if_holds (Each (IsDue d) 0 ts) _ (wrong Shape n) _ tt (placed_holds (IsDue d) (ith_reading d) (λ i n t. due_said d i n t (slice_get d.declared.bodies i) refl) 0 m ts)
