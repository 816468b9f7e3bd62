-- What reads as bodies with their outlines reads as the code of these bodies.
use Rattle.std.proofs.Common.{◌≡◌, ℕ, ◌+◌, Bool, true, false, cond, List, [], ◌∷◌, map, length, Option, Some, None, refl, ap₂}
use Rattle.std.specs.Prelude.{codes, nat_lt, slice_get}
use Rattle.lc_sexp.specs.TreeCode.{tree_count}
use Rattle.lc_sexp.specs.Trees.{Tree, Trees, atom, list, none, ◌▸◌, item_count}
use Rattle.lc_reading.proofs.Holding.{Holds, both_holds, if_holds}
use Rattle.lc_reading.specs.Readings.{Reading, fine, flawed, wrong, both, behind_reading}
use Rattle.lc_reading.specs.Rows.{each_reading}
use Rattle.lc_reading.specs.Words.{is}
use Rattle.lc_reading.specs.declared.pass.Pass.TheVariants.{Shape}
use Rattle.lc_text.specs.Formulas.{formula_reading}
use Rattle.lc_text.specs.Names.{Names}
use Rattle.lc_object.specs.Syntax.{Point}
use Rattle.lc_object_text.specs.Headed.{nothing_more, headed_reading}
use Rattle.lc_object_text.specs.Instructions.{instruction_reading}
use Rattle.lc_object_text.specs.ObjectNames.{Declared, Body, bodies_due, code_names, body_names}
use Rattle.lc_object_text.specs.Objects.{due_body_reading, ith_body_reading, bodies_reading as code_bodies_reading}
use Rattle.lc_object_text.specs.Points.{Beside, is_shaped, point_of, point_name_reading, point_parts, point_reading, points_reading, body_of, locals_reading, is_of_another, body_parts, point_alone, nothing_of, sides_reading, code_alone}
use Rattle.lc_object_text.specs.Rows.{cons, placed_reading}
use Rattle.lc_outline.specs.Development.{Outline}
use Rattle.lc_rider_text.specs.Known.{Known, Ways}
use Rattle.lc_rider_text.specs.Ons.{on_parts_reading, on_reading, ons_reading}
use Rattle.lc_rider_text.specs.Edges.{without, edge_in}
use Rattle.lc_rider_text.specs.declared.edges.Edges.{Edges}
use Rattle.lc_outline_text.specs.Bodies.{names_in, due_reading, ith_reading, bodies_reading}
use Rattle.lc_outline_text.specs.Declarations.{Declarations, known_of, own_ways}
use Rattle.lc_outline_text.specs.Developments.{code_of}
use Rattle.lc_outline_text.specs.Needs.{code_word, edges_of}
use Rattle.lc_outline_text.specs.Points.{formulas_in_reading, outline_of, outline_reading, beside}
use Rattle.lc_rider_text.proofs.ChoicesKnown.{all_hold}

-- a list that reads so begins with its word
headed : {X : Type 0} (word : List ℕ) (read : ℕ → ℕ → Trees → Reading X) (n : ℕ) (t : Tree) → Holds (λ x. headed_reading word n t ≡ fine tt) (behind_reading word read n t)
headed word read n (atom w) = tt
headed word read n (list none) = tt
headed word read n (list (list us ▸ ts)) = tt
headed {X} word read n (list (atom w ▸ ts)) = by_test (is w word) where
  by_test : (b : Bool) → Holds (λ x. cond b (nothing_more n (n + 2) ts) (wrong Shape n) ≡ fine tt) (cond b (read n (n + 2) ts) (wrong Shape n))
  by_test true = all_hold (λ x. nothing_more n (n + 2) ts ≡ fine tt) (read n (n + 2) ts) (λ x. refl)
  by_test false = tt

one_more : (m : ℕ) (t : Tree) (ts : Trees) (us : List (Unit {0})) → headed_reading (codes "on") m t ≡ fine tt → each_reading (headed_reading (codes "on")) (m + item_count t) ts ≡ fine us
    → each_reading (headed_reading (codes "on")) m (t ▸ ts) ≡ fine (tt ∷ us)
one_more m t ts us h g = ap₂ (both (λ x xs. x ∷ xs)) h g

ons_headed : (known : Known) (names : Names) (own : Option Ways) (edges : Edges) (m : ℕ) (ts : Trees)
    → Holds (λ ons. (us : List (Unit {0})) × (each_reading (headed_reading (codes "on")) m ts ≡ fine us)) (ons_reading known names own edges m ts)
ons_headed known names own edges m none = ([], refl)
ons_headed known names own edges m (t ▸ ts) =
    both_holds (λ on. headed_reading (codes "on") m t ≡ fine tt) (λ ons. (us : List (Unit {0})) × (each_reading (headed_reading (codes "on")) (m + item_count t) ts ≡ fine us))
    (λ ons. (us : List (Unit {0})) × (each_reading (headed_reading (codes "on")) m (t ▸ ts) ≡ fine us)) cons (on_reading known names own edges m t)
    (ons_reading known names own (without edges (edge_in t)) (m + item_count t) ts)
    (headed (codes "on") (on_parts_reading known names own edges) m t) (ons_headed known names own (without edges (edge_in t)) (m + item_count t) ts)
    (λ on ons h g. (tt ∷ g.0, one_more m t ts g.0 h g.1))

-- (assert F ..) ON ..
sides_fine : (n m : ℕ) (t : Tree) (ts : Trees) (us : List (Unit {0})) → headed_reading (codes "assert") m t ≡ fine tt → each_reading (headed_reading (codes "on")) (m + item_count t) ts ≡ fine us
    → sides_reading n m (t ▸ ts) ≡ fine tt
sides_fine n m t ts us h g = ap₂ (both nothing_of) h g

outline_sides : (known : Known) (names : Names) (own : Option Ways) (edges : Edges) (n m : ℕ) (t : Tree) (ts : Trees)
    → Holds (λ o. sides_reading n m (t ▸ ts) ≡ fine tt) (outline_reading known names own edges m t (m + item_count t) ts)
outline_sides known names own edges n m t ts =
    both_holds (λ fs. headed_reading (codes "assert") m t ≡ fine tt) (λ ons. (us : List (Unit {0})) × (each_reading (headed_reading (codes "on")) (m + item_count t) ts ≡ fine us))
    (λ o. sides_reading n m (t ▸ ts) ≡ fine tt) outline_of (formulas_in_reading (codes "assert") names m t) (ons_reading known names own edges (m + item_count t) ts)
    (headed (codes "assert") (λ n. each_reading (formula_reading names [])) m t) (ons_headed known names own edges (m + item_count t) ts) (λ fs ons h g. sides_fine n m t ts g.0 h g.1)

-- ---- a point
point_fine : (r : Reading Point) → Holds (λ q. r ≡ fine q) r
point_fine (fine q) = refl
point_fine (flawed f) = tt

alone_fine : (point : Reading Point) (q : Point) (s : Reading (Unit {0})) → point ≡ fine q → s ≡ fine tt → both point_alone point s ≡ fine q
alone_fine point q s h g = ap₂ (both point_alone) h g

-- what is read beside the code of a point is its code too
abbrev pub IsCode : ℕ → Tree → Bool → Reading Point → ℕ → Trees → Point × Outline → Type 0
IsCode n code shaped point m ts p = code_alone n code shaped point m ts ≡ fine p.0

pub beside_code : (known : Known) (names : Names) (own : Option Ways) (n : ℕ) (code : Tree) (shaped : Bool) (point : Reading Point) (m : ℕ) (ts : Trees)
    → Holds (IsCode n code shaped point m ts) (beside known names own n code shaped point m ts)
beside_code known names own n code shaped point m none = tt
beside_code known names own n code shaped point m (t ▸ ts) =
    if_holds (IsCode n code shaped point m (t ▸ ts)) _ (wrong Shape n) _ tt
    (both_holds (λ q. point ≡ fine q) (λ o. sides_reading n m (t ▸ ts) ≡ fine tt) (IsCode n code shaped point m (t ▸ ts)) (λ x y. (x, y)) point _
    (point_fine point) (outline_sides known names own (edges_of (code_word code)) n m t ts) (λ q o h g. alone_fine point q _ h g))

-- ---- a body

-- what reads with its outline reads as its code: of a way to read beside the code
abbrev pub ReadsCode : Beside (Point × Outline) → Type 0
ReadsCode side = (n : ℕ) (code : Tree) (shaped : Bool) (point : Reading Point) (m : ℕ) (ts : Trees) → Holds (IsCode n code shaped point m ts) (side n code shaped point m ts)

point_code : (d : Declared) (b : Body) (side : Beside (Point × Outline)) → ReadsCode side → (o i n m : ℕ) (ts : Trees) → Holds (λ p. point_parts d b code_alone o i n m ts ≡ fine p.0) (point_parts d b side o i n m ts)
point_code d b side h o i n m none = tt
point_code d b side h o i n m (name ▸ none) = tt
point_code d b side h o i n m (name ▸ code ▸ ts) =
    let instruction = instruction_reading (code_names d b) (body_names d b) (m + item_count name) code in
    h n code (is_shaped instruction) (both (point_of o) (point_name_reading d (b.first + i) n m name) instruction) (m + item_count name + item_count code) ts

-- a list by its word, when another reading of what comes after the word says how it reads
by_word : {X Y : Type 0} (f : X → Y) (word : List ℕ) (read : ℕ → ℕ → Trees → Reading X) (other : ℕ → ℕ → Trees → Reading Y) → ((n m : ℕ) (ts : Trees) → Holds (λ x. other n m ts ≡ fine (f x)) (read n m ts)) → (n : ℕ) (t : Tree)
    → Holds (λ x. behind_reading word other n t ≡ fine (f x)) (behind_reading word read n t)
by_word f word read other h n (atom w) = tt
by_word f word read other h n (list none) = tt
by_word f word read other h n (list (list us ▸ ts)) = tt
by_word f word read other h n (list (atom w ▸ ts)) = by_test (is w word) where
  by_test : (b : Bool) → Holds (λ x. cond b (other n (n + 2) ts) (wrong Shape n) ≡ fine (f x)) (cond b (read n (n + 2) ts) (wrong Shape n))
  by_test true = h n (n + 2) ts
  by_test false = tt

-- items in a row
by_row : {X Y : Type 0} (f : X → Y) (read : ℕ → ℕ → Tree → Reading X) (other : ℕ → ℕ → Tree → Reading Y) → ((i n : ℕ) (t : Tree) → Holds (λ x. other i n t ≡ fine (f x)) (read i n t)) → (i m : ℕ) (ts : Trees)
    → Holds (λ xs. placed_reading other i m ts ≡ fine (map f xs)) (placed_reading read i m ts)
by_row f read other h i m none = refl
by_row f read other h i m (t ▸ ts) =
    both_holds (λ x. other i m t ≡ fine (f x)) (λ xs. placed_reading other (i + 1) (m + item_count t) ts ≡ fine (map f xs)) (λ xs. placed_reading other i m (t ▸ ts) ≡ fine (map f xs)) cons (read i m t) _
    (h i m t) (by_row f read other h (i + 1) (m + item_count t) ts) (λ x xs e g. ap₂ (both cons) e g)

points_code : (d : Declared) (b : Body) (side : Beside (Point × Outline)) → ReadsCode side → (o n m : ℕ) (ts : Trees)
    → Holds (λ ps. points_reading d b code_alone o n m ts ≡ fine (map (λ p. p.0) ps)) (points_reading d b side o n m ts)
points_code d b side h o n m none = tt
points_code d b side h o n m (t ▸ ts) =
    by_row (λ p. p.0) (point_reading d b side o) (point_reading d b code_alone o) (λ i n t. by_word (λ p. p.0) (codes "point") (point_parts d b side o i) (point_parts d b code_alone o i) (point_code d b side h o i) n t) 0 m (t ▸ ts)

pub locals_fine : {X : Type 0} (r : Reading X) → Holds (λ x. r ≡ fine x) r
locals_fine (fine x) = refl
locals_fine (flawed f) = tt

body_code : (d : Declared) (b : Body) (side : Beside (Point × Outline)) → ReadsCode side → (o n m : ℕ) (ts : Trees) → Holds (λ x. body_parts d b code_alone o n m ts ≡ fine (code_of x)) (body_parts d b side o n m ts)
body_code d b side h o n m none = tt
body_code d b side h o n m (op ▸ none) = tt
body_code d b side h o n m (op ▸ locals ▸ ts) = by_test (is_of_another d.operations b.operation op) where
  by_test : (c : Bool) → Holds (λ x. cond c (wrong Shape n) (both body_of (locals_reading d b m op (m + item_count op) locals) (points_reading d b code_alone o n (m + item_count op + item_count locals) ts)) ≡ fine (code_of x))
      (cond c (wrong Shape n) (both body_of (locals_reading d b m op (m + item_count op) locals) (points_reading d b side o n (m + item_count op + item_count locals) ts)))
  by_test true = tt
  by_test false =
      both_holds (λ ws. locals_reading d b m op (m + item_count op) locals ≡ fine ws) (λ ps. points_reading d b code_alone o n (m + item_count op + item_count locals) ts ≡ fine (map (λ p. p.0) ps))
      (λ x. both body_of (locals_reading d b m op (m + item_count op) locals) (points_reading d b code_alone o n (m + item_count op + item_count locals) ts) ≡ fine (code_of x)) body_of _ _
      (locals_fine (locals_reading d b m op (m + item_count op) locals)) (points_code d b side h o n (m + item_count op + item_count locals) ts) (λ ws ps e g. ap₂ (both body_of) e g)

due_code : (d : Declarations) (i n : ℕ) (t : Tree) (o : Option Body) → Holds (λ x. due_body_reading d.declared code_alone o i n t ≡ fine (code_of x)) (due_reading d o i n t)
due_code d i n t None = tt
due_code d i n t (Some b) =
    let side = beside (known_of d) (names_in d b) (own_ways d i) in
    by_word code_of (codes "body") (body_parts d.declared b side i) (body_parts d.declared b code_alone i)
    (body_code d.declared b side (λ n code shaped point m ts. beside_code (known_of d) (names_in d b) (own_ways d i) n code shaped point m ts) i) n t

-- what reads as bodies with their outlines reads as their code
pub bodies_code : (d : Declarations) (n m : ℕ) (ts : Trees) → Holds (λ bs. code_bodies_reading d.declared code_alone n m ts ≡ fine (map code_of bs)) (bodies_reading d n m ts)
bodies_code d n m ts = by_test (nat_lt (tree_count ts) (bodies_due (length d.declared.operations))) where
  by_test : (c : Bool) → Holds (λ bs. cond c (wrong Shape n) (placed_reading (ith_body_reading d.declared code_alone) 0 m ts) ≡ fine (map code_of bs)) (cond c (wrong Shape n) (placed_reading (ith_reading d) 0 m ts))
  by_test true = tt
  by_test false = by_row code_of (ith_reading d) (ith_body_reading d.declared code_alone) (λ i n t. due_code d i n t (slice_get d.declared.bodies i)) 0 m ts
