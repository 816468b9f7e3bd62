-- What holds of points with their outlines, if they are read.
use Rattle.std.proofs.Common.{◌≡◌, ℕ, ◌+◌, Bool, true, false, cond, List, [], ◌∷◌, ◌++◌, map, Option, Some, None, length, refl, sym, ap, ◌∙◌, subst}
use Rattle.std.proofs.lemmas.List.{map-append}
use Rattle.std.specs.List.{list_all, list_any}
use Rattle.std.specs.Prelude.{codes, nat_lt, slice_get}
use Rattle.std.proofs.lemmas.Bool.{and_from}
use Rattle.lc_sexp.specs.TreeCode.{tree_count}
use Rattle.lc_sexp.specs.Trees.{Tree, Trees, none, ◌▸◌, item_count}
use Rattle.lc_reading.proofs.Holding.{Holds, holds_unit, both_holds, if_holds, behind_holds, each_holds, and_holds, holds_weaker}
use Rattle.lc_reading.specs.Readings.{Reading, fine, flawed, wrong, both}
use Rattle.lc_reading.specs.declared.pass.Pass.TheVariants.{Shape}
use Rattle.lc_term.specs.Lists.{Every}
use Rattle.lc_term.specs.SystemColumns.{column_count}
use Rattle.lc_text.specs.Formulas.{formula_reading}
use Rattle.lc_text.specs.Terms.{pair}
use Rattle.lc_object.specs.Syntax.{Instr, Point}
use Rattle.lc_object.specs.declared.instr.EdgeKind.{EdgeKind}
use Rattle.lc_object_text.specs.Instructions.{instruction_reading}
use Rattle.lc_object_text.specs.ObjectNames.{Body, bodies_due, code_names, body_names}
use Rattle.lc_object_text.specs.Objects.{points_of}
use Rattle.lc_object_text.specs.Points.{Beside, is_shaped, point_of, point_name_reading, point_parts, point_reading, points_reading, BodyText, body_of, locals_reading, is_of_another, body_parts, body_reading}
use Rattle.lc_object_text.specs.Rows.{cons, placed_reading}
use Rattle.lc_object_text.specs.Sections.{forms_in}
use Rattle.lc_outline.specs.Development.{On, Outline}
use Rattle.lc_outline.specs.Scope.{is_scoped, on_is_scoped, outline_is_scoped}
use Rattle.lc_rider_text.proofs.BesideScoped.{column_total, ons_scoped}
use Rattle.lc_rider_text.proofs.OnsLimited.{IsOnLimited, ons_limited}
use Rattle.lc_rider_text.proofs.ReadsScoped.{variable_total, formula_scoped, beside_in_scope}
use Rattle.lc_rider_text.proofs.RidersKnown.{IsOnKnown, ons_known}
use Rattle.lc_rider_text.specs.Known.{Known, Ways}
use Rattle.lc_rider_text.specs.Ons.{ons_reading}
use Rattle.lc_rider_text.specs.Scopes.{beside_names}
use Rattle.lc_rider_text.specs.declared.edges.Edges.{Edges}
use Rattle.lc_outline_text.proofs.Needed.{IsOfWord, instruction_word, IsMet, AreFound, instruction_is_met, on_found}
use Rattle.lc_outline_text.specs.Bodies.{names_in, due_reading, ith_reading, bodies_reading}
use Rattle.lc_outline_text.specs.Declarations.{Declarations, known_of, own_ways}
use Rattle.lc_outline_text.specs.Developments.{code_of, outlines_of}
use Rattle.lc_outline.specs.EdgeWords.{edge_word}
use Rattle.lc_outline_text.specs.Needs.{code_word, edges_of, acts, lacks_on}
use Rattle.lc_outline_text.specs.Points.{formulas_in_reading, outline_of, outline_reading, beside}
use Rattle.lc_term.proofs.Stores.{Every-append}
use Rattle.lc_outline.proofs.Resolving.{every_weaker}

-- ---- formulas

pub formulas_scoped : (word : List ℕ) (columns : List (List ℕ)) (others : Option (List (List ℕ))) (n : ℕ) (t : Tree)
    → Holds (λ fs. list_all (is_scoped (column_count (length columns)) (variable_total others)) fs ≡ true) (formulas_in_reading word (beside_names columns others) n t)
formulas_scoped word columns others n t =
    let names = beside_names columns others in
    let test = is_scoped (column_count (length columns)) (variable_total others) in
    behind_holds (λ fs. list_all test fs ≡ true) word _ n t
    (λ n m ts. each_holds test (formula_reading names []) (formula_scoped (column_count (length columns)) (variable_total others) names (beside_in_scope columns others)) m ts)

-- ---- a point

-- Its operation has this number, its outline uses only v variables, what is done at its edges is known and within its limits,
-- and an edge that stores has an `on`
pub record IsOutlined (known : Known) (own : Option Ways) (v o : ℕ) (p : Point × Outline) : Type 0 where
  pub operation : p.0.operation ≡ o
  pub scoped : outline_is_scoped (column_total known) v p.1 ≡ true
  pub named : Every (IsOnKnown known own) p.1.ons
  pub limited : Every (IsOnLimited known own) p.1.ons
  pub met : IsMet p.0.instruction p.1.ons

all_kinds : {X : Type 0} (P : EdgeKind → X → Type 0) (r : Reading X) → ((k : EdgeKind) → Holds (P k) r) → Holds (λ x. (k : EdgeKind) → P k x) r
all_kinds P (fine x) h = h
all_kinds P (flawed f) h = tt

abbrev HasOns : Known → Option Ways → Trees → List On → Type 0
HasOns known own ts ons = (Every (IsOnKnown known own) ons × Every (IsOnLimited known own) ons) × AreFound known.actions (forms_in (codes "on") ts) ons

abbrev HasOutline : Known → Option Ways → ℕ → Trees → Outline → Type 0
HasOutline known own v ts o = (outline_is_scoped (column_total known) v o ≡ true) × HasOns known own ts o.ons

outline_holds : (known : Known) (others : Option (List (List ℕ))) (own : Option Ways) (edges : Edges) (i : ℕ) (t : Tree) (m : ℕ) (ts : Trees)
    → Holds (HasOutline known own (variable_total others) ts) (outline_reading known (beside_names known.columns others) own edges i t m ts)
outline_holds known others own edges i t m ts =
    let names = beside_names known.columns others in
    let formula = is_scoped (column_total known) (variable_total others) in
    let on = on_is_scoped (column_total known) (variable_total others) in
    both_holds (λ fs. list_all formula fs ≡ true) (λ ons. (list_all on ons ≡ true) × HasOns known own ts ons) (HasOutline known own (variable_total others) ts) outline_of _ (ons_reading known names own edges m ts)
    (formulas_scoped (codes "assert") known.columns others i t)
    (and_holds (λ ons. list_all on ons ≡ true) (HasOns known own ts) (ons_reading known names own edges m ts) (ons_scoped known others own edges m ts)
    (and_holds (λ ons. Every (IsOnKnown known own) ons × Every (IsOnLimited known own) ons) (AreFound known.actions (forms_in (codes "on") ts)) (ons_reading known names own edges m ts)
    (and_holds (Every (IsOnKnown known own)) (Every (IsOnLimited known own)) (ons_reading known names own edges m ts) (ons_known known names own edges m ts) (ons_limited known names own edges m ts))
    (all_kinds (λ kind ons. list_any (acts known.actions (edge_word kind)) (forms_in (codes "on") ts) ≡ true → _) (ons_reading known names own edges m ts) (λ kind. on_found known names own edges kind m ts))))
    (λ fs ons h g. (and_from (list_all formula fs) (list_all on ons) h g.0, g.1))

never : (o : ℕ) (name : Reading (List ℕ)) (f : _) → Holds (λ q. ⊥) (both (point_of o) name (flawed f))
never o (fine w) f = tt
never o (flawed g) f = tt

of_instruction : (o : ℕ) (name : Reading (List ℕ)) (i : Instr) → Holds (λ q. (q.operation ≡ o) × (q.instruction ≡ i)) (both (point_of o) name (fine i))
of_instruction o (fine w) i = (refl, refl)
of_instruction o (flawed g) i = tt

beside_holds : (known : Known) (others : Option (List (List ℕ))) (own : Option Ways) (n o : ℕ) (code : Tree) (name : Reading (List ℕ)) (r : Reading Instr) → Holds (IsOfWord (code_word code)) r → (m : ℕ) (ts : Trees)
    → Holds (IsOutlined known own (variable_total others) o) (beside known (beside_names known.columns others) own n code (is_shaped r) (both (point_of o) name r) m ts)
beside_holds known others own n o code name r h m none = tt
beside_holds known others own n o code name (flawed f) h m (t ▸ ts) =
    let P = IsOutlined known own (variable_total others) o in
    if_holds P _ (wrong Shape n) _ tt (both_holds (λ q. ⊥) (λ x. Unit {0}) P pair (both (point_of o) name (flawed f)) _ (never o name f) (holds_unit _) (λ q x h g. absurd h))
beside_holds known others own n o code name (fine i) h m (t ▸ ts) = by_test (lacks_on known.actions (code_word code) (forms_in (codes "on") ts)) refl where
  by_test : (c : Bool) → lacks_on known.actions (code_word code) (forms_in (codes "on") ts) ≡ c
      → Holds (IsOutlined known own (variable_total others) o)
      (cond c (wrong Shape n) (both pair (both (point_of o) name (fine i)) (outline_reading known (beside_names known.columns others) own (edges_of (code_word code)) m t (m + item_count t) ts)))
  by_test true e = tt
  by_test false e =
      both_holds (λ q. (q.operation ≡ o) × (q.instruction ≡ i)) (HasOutline known own (variable_total others) ts) (IsOutlined known own (variable_total others) o) pair (both (point_of o) name (fine i)) _
      (of_instruction o name i) (outline_holds known others own (edges_of (code_word code)) m t (m + item_count t) ts)
      (λ q x g k. record {
        operation = g.0;
        scoped = k.0;
        named = k.1.0.0;
        limited = k.1.0.1;
        met = subst (λ j. IsMet j x.ons) (sym g.1) (instruction_is_met known.actions (code_word code) (forms_in (codes "on") ts) x.ons i h e k.1.1);
      })

-- ---- a body

-- a point of the body of the operation of this number
abbrev pub IsPointOf : Declarations → Body → ℕ → Point × Outline → Type 0
IsPointOf d b o p = IsOutlined (known_of d) (own_ways d o) (variable_total (Some (b.call.arguments ++ b.locals))) o p

abbrev side_of : Declarations → Body → ℕ → Beside (Point × Outline)
side_of d b o = beside (known_of d) (names_in d b) (own_ways d o)

parts_outlined : (d : Declarations) (b : Body) (o i n m : ℕ) (ts : Trees) → Holds (IsPointOf d b o) (point_parts d.declared b (side_of d b o) o i n m ts)
parts_outlined d b o i n m none = tt
parts_outlined d b o i n m (name ▸ none) = tt
parts_outlined d b o i n m (name ▸ code ▸ ts) =
    let names = code_names d.declared b in
    let own = body_names d.declared b in
    beside_holds (known_of d) (Some (b.call.arguments ++ b.locals)) (own_ways d o) n o code (point_name_reading d.declared (b.first + i) n m name) (instruction_reading names own (m + item_count name) code)
    (instruction_word names own (m + item_count name) code) (m + item_count name + item_count code) ts

placed_every : {X : Type 0} (P : X → Type 0) (read : ℕ → ℕ → Tree → Reading X) → ((i n : ℕ) (t : Tree) → Holds P (read i n t)) → (i m : ℕ) (ts : Trees) → Holds (Every P) (placed_reading read i m ts)
placed_every P read h i m none = tt
placed_every P read h i m (t ▸ ts) =
    both_holds P (Every P) (Every P) cons (read i m t) _ (h i m t) (placed_every P read h (i + 1) (m + item_count t) ts) (λ x xs p q. (p, q))

points_outlined : (d : Declarations) (b : Body) (o n m : ℕ) (ts : Trees) → Holds (Every (IsPointOf d b o)) (points_reading d.declared b (side_of d b o) o n m ts)
points_outlined d b o n m none = tt
points_outlined d b o n m (t ▸ ts) =
    placed_every (IsPointOf d b o) (point_reading d.declared b (side_of d b o) o)
    (λ i n t. behind_holds (IsPointOf d b o) (codes "point") (point_parts d.declared b (side_of d b o) o i) n t (λ n m ts. parts_outlined d b o i n m ts)) 0 m (t ▸ ts)

body_outlines : (d : Declarations) (b : Body) (o n m : ℕ) (ts : Trees) → Holds (λ x. Every (IsPointOf d b o) x.points) (body_parts d.declared b (side_of d b o) o n m ts)
body_outlines d b o n m none = tt
body_outlines d b o n m (op ▸ none) = tt
body_outlines d b o n m (op ▸ locals ▸ ts) =
    let P : BodyText (Point × Outline) → Type 0 = λ x. Every (IsPointOf d b o) x.points in
    if_holds P (is_of_another d.declared.operations b.operation op) (wrong Shape n) _ tt
    (both_holds (λ ws. Unit {0}) (Every (IsPointOf d b o)) P body_of (locals_reading d.declared b m op (m + item_count op) locals) _
    (holds_unit (locals_reading d.declared b m op (m + item_count op) locals)) (points_outlined d b o n (m + item_count op + item_count locals) ts) (λ ws ps h g. g))

-- the body of the operation of this number, as it is declared
abbrev pub IsBodyOf : Declarations → ℕ → BodyText (Point × Outline) → Type 0
IsBodyOf d o x = (b : Body) × (slice_get d.declared.bodies o ≡ Some b) × Every (IsPointOf d b o) x.points

due_outlined : (d : Declarations) (o n : ℕ) (t : Tree) (due : Option Body) → slice_get d.declared.bodies o ≡ due → Holds (IsBodyOf d o) (due_reading d due o n t)
due_outlined d o n t None e = tt
due_outlined d o n t (Some b) e =
    holds_weaker (λ x. Every (IsPointOf d b o) x.points) (IsBodyOf d o) (body_reading d.declared b (side_of d b o) o n t) (λ x h. (b, e, h))
    (behind_holds (λ x. Every (IsPointOf d b o) x.points) (codes "body") (body_parts d.declared b (side_of d b o) o) n t (λ n m ts. body_outlines d b o n m ts))

abbrev pub AreBodiesOf : Declarations → ℕ → List (BodyText (Point × Outline)) → Type 0
AreBodiesOf d o [] = Unit {0}
AreBodiesOf d o (x ∷ xs) = IsBodyOf d o x × AreBodiesOf d (o + 1) xs

rows_outlined : (d : Declarations) (o m : ℕ) (ts : Trees) → Holds (AreBodiesOf d o) (placed_reading (ith_reading d) o m ts)
rows_outlined d o m none = tt
rows_outlined d o m (t ▸ ts) =
    both_holds (IsBodyOf d o) (AreBodiesOf d (o + 1)) (AreBodiesOf d o) cons (ith_reading d o m t) _ (due_outlined d o m t (slice_get d.declared.bodies o) refl) (rows_outlined d (o + 1) (m + item_count t) ts) (λ x xs h g. (h, g))

pub bodies_outlined : (d : Declarations) (n m : ℕ) (ts : Trees) → Holds (AreBodiesOf d 0) (bodies_reading d n m ts)
bodies_outlined d n m ts =
    if_holds (AreBodiesOf d 0) (nat_lt (tree_count ts) (bodies_due (length d.declared.operations))) (wrong Shape n) _ tt (rows_outlined d 0 m ts)

-- ---- all points

-- a point of an operation's body, as that is declared
abbrev pub IsAPoint : Declarations → Point × Outline → Type 0
IsAPoint d p = (b : Body) × (slice_get d.declared.bodies p.0.operation ≡ Some b) × IsPointOf d b p.0.operation p

abbrev pub all_points : List (BodyText (Point × Outline)) → List (Point × Outline)
all_points [] = []
all_points (x ∷ xs) = x.points ++ all_points xs

a_point : (d : Declarations) (b : Body) (o : ℕ) → slice_get d.declared.bodies o ≡ Some b → (p : Point × Outline) → IsPointOf d b o p → IsAPoint d p
a_point d b o e p h =
    let same = h.operation in
    (b, ap (slice_get d.declared.bodies) same ∙ e, subst (λ k. IsPointOf d b k p) (sym same) h)

pub each_point : (d : Declarations) (o : ℕ) (xs : List (BodyText (Point × Outline))) → AreBodiesOf d o xs → Every (IsAPoint d) (all_points xs)
each_point d o [] h = tt
each_point d o (x ∷ xs) h =
    let b = h.0.0 in
    Every-append (IsAPoint d) x.points (all_points xs) (every_weaker (IsPointOf d b o) (IsAPoint d) (a_point d b o h.0.1) x.points h.0.2) (each_point d (o + 1) xs h.1)

pub code_points : (xs : List (BodyText (Point × Outline))) → points_of (map code_of xs) ≡ map (λ p. p.0) (all_points xs)
code_points [] = refl
code_points (x ∷ xs) = ap (λ qs. map (λ p. p.0) x.points ++ qs) (code_points xs) ∙ sym (map-append (λ (p : Point × Outline). p.0) x.points (all_points xs))

pub outline_points : (xs : List (BodyText (Point × Outline))) → outlines_of xs ≡ map (λ p. p.1) (all_points xs)
outline_points [] = refl
outline_points (x ∷ xs) = ap (λ qs. map (λ p. p.1) x.points ++ qs) (outline_points xs) ∙ sym (map-append (λ (p : Point × Outline). p.1) x.points (all_points xs))
