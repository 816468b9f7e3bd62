-- What the heads of operations, points and bodies have that are read.
use Rattle.std.proofs.Common.{◌≡◌, ℕ, ◌+◌, Bool, true, false, cond, List, [], ◌∷◌, ◌++◌, append_assoc, length, length-append, Option, Some, None, map, arith, refl, sym, ap, ap₂, ◌∙◌}
use Rattle.std.specs.List.{list_any}
use Rattle.std.specs.Prelude.{codes, nat_le, nat_lt, slice_get, take}
use Rattle.lc_base.specs.Limits.{local_limit, point_limit}
use Rattle.lc_sexp.specs.TreeCode.{tree_count}
use Rattle.lc_sexp.specs.Trees.{Tree, Trees, atom, list, none, ◌▸◌, item_count, row}
use Rattle.lc_reading.proofs.Fine.{IfFine, if_fine_unit, if_fine_weaker, cond_fine, both_fine, of_fine}
use Rattle.lc_reading.specs.Listed.{names_among}
use Rattle.lc_reading.specs.Naming.{use_reading}
use Rattle.lc_reading.specs.Readings.{Reading, fine, wrong, both}
use Rattle.lc_reading.specs.Words.{is}
use Rattle.lc_reading.specs.declared.pass.Pass.TheVariants.{Shape}
use Rattle.lc_term.specs.Lists.{Every}
use Rattle.lc_text.specs.Names.{Names}
use Rattle.lc_text.specs.Terms.{pair}
use Rattle.lc_object.specs.Syntax.{Point}
use Rattle.lc_outline.specs.Development.{Outline}
use Rattle.lc_object_text.specs.Declaring.{kth_name_reading, names_reading}
use Rattle.lc_object_text.specs.Instructions.{instruction_reading}
use Rattle.lc_object_text.specs.ObjectNames.{Declared, Body, text_in, first_text, items_within, within_first, later, points_in, code_names, body_names, bodies_due}
use Rattle.lc_object_text.specs.Objects.{Signature}
use Rattle.lc_object_text.specs.Points.{BodyText, is_shaped, point_of, point_name_reading, point_parts, point_reading, points_reading, body_of, behind_name, locals_reading, is_of_another, body_parts, body_reading}
use Rattle.lc_object_text.specs.Rows.{cons, placed_reading}
use Rattle.lc_object_text.specs.Sections.{parts_in}
use Rattle.lc_rider_text.specs.Known.{Known, Ways}
use Rattle.lc_outline_text.specs.Bodies.{names_in, due_reading, ith_reading, bodies_reading}
use Rattle.lc_outline_text.specs.Declarations.{Declarations, known_of, own_ways}
use Rattle.lc_outline_text.specs.Points.{beside}
use Rattle.lc_outline_print.specs.Parts.{name_trees}
use Rattle.lc_outline_print.specs.Specifications.{operation_tree}
use Rattle.lc_outline_text.proofs.Agreed.{EachAfter, IsOperationRead, names_taken}
use Rattle.lc_outline_text.specs.Developments.{signature_seen}
use Rattle.lc_reading.specs.Rows.{second_name}
use Rattle.lc_seq.specs.Specification.{Operation}
use Rattle.lc_text_laws.proofs.Kin.{itself_fine}
use Rattle.lc_text_laws.proofs.Names.{kth_stood, names_stood, due_stood}
use Rattle.lc_text_laws.proofs.Rows.{limited_fine}
use Rattle.lc_text_laws.proofs.Splits.{AreForms, parts_of_all, some_forms, HasParts, has_parts}

text_of : (w : List ℕ) (t : Tree) → atom w ≡ t → text_in t ≡ w
text_of w t e = ap text_in (sym e)

among_names : (ws : List (List ℕ)) → names_among (row (map atom ws)) ≡ ws
among_names [] = refl
among_names (w ∷ ws) = ap (λ vs. w ∷ vs) (among_names ws)

names_within : (ws : List (List ℕ)) (t : Tree) → list (name_trees ws) ≡ t → names_among (items_within t) ≡ ws
names_within ws t e = ap (λ t. names_among (items_within t)) (sym e) ∙ among_names ws

-- items in a row, each at its place with what it reads as
abbrev pub Each : {X : Type 0} → (ℕ → Tree → X → Type 0) → ℕ → Trees → List X → Type 0
Each P i none [] = Unit {0}
Each P i none (x ∷ xs) = ⊥
Each P i (t ▸ ts) [] = ⊥
Each P i (t ▸ ts) (x ∷ xs) = P i t x × Each P (i + 1) ts xs

pub each_placed : {X : Type 0} (P : ℕ → Tree → X → Type 0) (read : ℕ → ℕ → Tree → Reading X) → ((i n : ℕ) (t : Tree) → IfFine (read i n t) (P i t)) → (i m : ℕ) (ts : Trees) → IfFine (placed_reading read i m ts) (Each P i ts)
each_placed P read h i m none = tt
each_placed P read h i m (t ▸ ts) =
    both_fine (P i t) (Each P (i + 1) ts) (Each P i (t ▸ ts)) cons (read i m t) (placed_reading read (i + 1) (m + item_count t) ts) (h i m t) (each_placed P read h (i + 1) (m + item_count t) ts) (λ x xs a b. (a, b))

-- ---- operations

-- NAME (ARG*) ..: the operation at this place
pub record IsSigned (d : Declared) (i : ℕ) (ts : Trees) (s : Signature) : Type 0 where
  pub name : first_text ts ≡ s.name
  pub arguments : names_among (within_first (later ts)) ≡ s.arguments
  pub new : list_any (is s.name) (take i d.operations) ≡ false

abbrev pub IsOperation : Declared → ℕ → Tree → Signature → Type 0
IsOperation d i t s = (ts : Trees) × (t ≡ list (atom (codes "op") ▸ ts)) × IsSigned d i ts s

-- operations that are printed, where all are declared and these are read before them
pub operations_signed : (d : Declared) (columns before : List (List ℕ)) (i : ℕ) (os : List Operation) → length before ≡ i → d.operations ≡ before ++ map (λ (o : Operation). o.name) os
    → EachAfter IsOperationRead second_name before (row (map (operation_tree columns) os)) os → Each (IsOperation d) i (row (map (operation_tree columns) os)) (map signature_seen os)
operations_signed d columns before i [] count all h = tt
operations_signed d columns before i (o ∷ os) count all h =
    let names = map (λ (o : Operation). o.name) os in
    let read : IsOperationRead before (operation_tree columns o) o = h.0 in
    let taken : take i d.operations ≡ before = ap (take i) all ∙ names_taken before (o.name ∷ names) i count in (
      (_, refl, record { name = refl; arguments = among_names o.arguments; new = ap (list_any (is o.name)) taken ∙ read.new }),
      operations_signed d columns (before ++ o.name ∷ []) (i + 1) os (omega (arith, length-append before (o.name ∷ []), count)) (all ∙ sym (append_assoc before (o.name ∷ []) names)) h.1,
    )

pub operation_forms : (columns : List (List ℕ)) (os : List Operation) → AreForms (codes "op") (row (map (operation_tree columns) os))
operation_forms columns [] = tt
operation_forms columns (o ∷ os) = ((_, refl), operation_forms columns os)

pub names_printed : (columns : List (List ℕ)) (os : List Operation) → map first_text (parts_of_all (codes "op") (row (map (operation_tree columns) os))) ≡ map (λ (o : Operation). o.name) os
names_printed columns [] = refl
names_printed columns (o ∷ os) = ap (λ ws. o.name ∷ ws) (names_printed columns os)

-- ---- points

beside_point : (known : Known) (names : Names) (own : Option Ways) (n : ℕ) (code : Tree) (shaped : Bool) (point : Reading Point) (m : ℕ) (ts : Trees) → IfFine (beside known names own n code shaped point m ts) (λ q. point ≡ fine q.0)
beside_point known names own n code shaped point m none = tt
beside_point known names own n code shaped point m (t ▸ ts) =
    cond_fine (λ q. point ≡ fine q.0) _ (wrong Shape n) _ tt (both_fine (λ p. point ≡ fine p) (λ x. Unit {0}) (λ (q : Point × Outline). point ≡ fine q.0) pair point _ (itself_fine point) (if_fine_unit _) (λ p x a b. a))

abbrev pub PointHead : ℕ → Trees → Point × Outline → Type 0
PointHead o ts q = (first_text ts ≡ q.0.name) × (q.0.operation ≡ o)

module _ (d : Declared) (b : Body) (known : Known) (names : Names) (own : Option Ways) (o : ℕ) where
  point_said : (i n m k : ℕ) (name code : Tree) → IfFine (both (point_of o) (point_name_reading d i n m name) (instruction_reading (code_names d b) (body_names d b) k code)) (λ (p : Point). (text_in name ≡ p.name) × (p.operation ≡ o))
  point_said i n m k name code =
      both_fine (λ w. atom w ≡ name) (λ x. Unit {0}) (λ (p : Point). (text_in name ≡ p.name) × (p.operation ≡ o)) (point_of o) (point_name_reading d i n m name)
      (instruction_reading (code_names d b) (body_names d b) k code)
      (limited_fine (λ w. atom w ≡ name) (nat_le point_limit i) n (kth_name_reading d.points i m name) (kth_stood d.points i m name)) (if_fine_unit (instruction_reading (code_names d b) (body_names d b) k code))
      (λ w x a c. (text_of w name a, refl))

  point_heads : (i n m : ℕ) (ts : Trees) → IfFine (point_parts d b (beside known names own) o i n m ts) (PointHead o ts)
  point_heads i n m none = tt
  point_heads i n m (name ▸ none) = tt
  point_heads i n m (name ▸ code ▸ ts) =
      let instruction = instruction_reading (code_names d b) (body_names d b) (m + item_count name) code in
      let point = both (point_of o) (point_name_reading d (b.first + i) n m name) instruction in
      if_fine_weaker (λ (q : Point × Outline). point ≡ fine q.0) (PointHead o (name ▸ code ▸ ts)) (beside known names own n code (is_shaped instruction) point (m + item_count name + item_count code) ts)
      (λ q e. of_fine (λ (p : Point). (text_in name ≡ p.name) × (p.operation ≡ o)) point q.0 (point_said (b.first + i) n m (m + item_count name) name code) e)
      (beside_point known names own n code (is_shaped instruction) point (m + item_count name + item_count code) ts)

  abbrev IsPoint : ℕ → Tree → Point × Outline → Type 0
  IsPoint i t q = HasParts (PointHead o) (codes "point") (point_parts d b (beside known names own) o i) t q

  point_read : (i n : ℕ) (t : Tree) → IfFine (point_reading d b (beside known names own) o i n t) (IsPoint i t)
  point_read i n t = has_parts (PointHead o) (codes "point") (point_parts d b (beside known names own) o i) (point_heads i) n t

  points_read : (n m : ℕ) (ts : Trees) → IfFine (points_reading d b (beside known names own) o n m ts) (Each IsPoint 0 ts)
  points_read n m none = tt
  points_read n m (t ▸ ts) = each_placed IsPoint (point_reading d b (beside known names own) o) point_read 0 m (t ▸ ts)

  are_points : (i : ℕ) (ts : Trees) (qs : List (Point × Outline)) → Each IsPoint i ts qs → AreForms (codes "point") ts
  are_points i none [] h = tt
  are_points i none (q ∷ qs) h = absurd h
  are_points i (t ▸ ts) [] h = absurd h
  are_points i (t ▸ ts) (q ∷ qs) h = ((h.0.0, h.0.1), are_points (i + 1) ts qs h.1)

  labels_are : (i : ℕ) (ts : Trees) (qs : List (Point × Outline)) → Each IsPoint i ts qs → map first_text (parts_of_all (codes "point") ts) ≡ map (λ (p : Point). p.name) (map (λ (q : Point × Outline). q.0) qs)
  labels_are i none [] h = refl
  labels_are i none (q ∷ qs) h = absurd h
  labels_are i (t ▸ ts) [] h = absurd h
  labels_are i (t ▸ ts) (q ∷ qs) h =
      ap₂ (λ w ws. w ∷ ws) (ap (λ t. first_text (parts_in (codes "point") t)) h.0.1 ∙ h.0.2.0) (labels_are (i + 1) ts qs h.1)

  all_own : (i : ℕ) (ts : Trees) (qs : List (Point × Outline)) → Each IsPoint i ts qs → Every (λ (q : Point × Outline). q.0.operation ≡ o) qs
  all_own i none [] h = tt
  all_own i none (q ∷ qs) h = absurd h
  all_own i (t ▸ ts) [] h = absurd h
  all_own i (t ▸ ts) (q ∷ qs) h = (h.0.2.1, all_own (i + 1) ts qs h.1)

-- ---- bodies

-- OP (LOCAL*) POINT+: the body of the operation of this name and number
pub record BodyHead (operation : List ℕ) (o : ℕ) (ts : Trees) (x : BodyText (Point × Outline)) : Type 0 where
  pub name : first_text ts ≡ operation
  pub locals : names_among (within_first (later ts)) ≡ x.locals
  pub labels : map first_text (points_in ts) ≡ map (λ (p : Point). p.name) (map (λ (q : Point × Outline). q.0) x.points)
  pub own : Every (λ (q : Point × Outline). q.0.operation ≡ o) x.points

module _ (d : Declared) (b : Body) (known : Known) (names : Names) (own : Option Ways) (o : ℕ) where
  body_locals : (i : ℕ) (t : Tree) (j : ℕ) (u : Tree) → is_of_another d.operations b.operation t ≡ false → IfFine (locals_reading d b i t j u) (λ ws. (text_in t ≡ b.operation) × (names_among (items_within u) ≡ ws))
  body_locals i t j u e =
      both_fine (λ k. atom b.operation ≡ t) (λ ws. list (name_trees ws) ≡ u) (λ ws. (text_in t ≡ b.operation) × (names_among (items_within u) ≡ ws)) behind_name (use_reading d.operations i t)
      (names_reading local_limit (b.call.arguments ++ b.locals) (length b.call.arguments) j u) (due_stood d.operations b.operation i t e)
      (names_stood local_limit (b.call.arguments ++ b.locals) (length b.call.arguments) j u) (λ k ws x y. (text_of b.operation t x, names_within ws u y))

  body_heads : (n m : ℕ) (ts : Trees) → IfFine (body_parts d b (beside known names own) o n m ts) (BodyHead b.operation o ts)
  body_heads n m none = tt
  body_heads n m (op ▸ none) = tt
  body_heads n m (op ▸ locals ▸ ts) = at (is_of_another d.operations b.operation op) refl
    where
      at : (c : Bool) → is_of_another d.operations b.operation op ≡ c
          → IfFine (cond c (wrong Shape n) (both body_of (locals_reading d b m op (m + item_count op) locals) (points_reading d b (beside known names own) o n (m + item_count op + item_count locals) ts)))
          (BodyHead b.operation o (op ▸ locals ▸ ts))
      at true e = tt
      at false e =
          both_fine (λ ws. (text_in op ≡ b.operation) × (names_among (items_within locals) ≡ ws)) (Each (IsPoint d b known names own o) 0 ts) (BodyHead b.operation o (op ▸ locals ▸ ts)) body_of
          (locals_reading d b m op (m + item_count op) locals) (points_reading d b (beside known names own) o n (m + item_count op + item_count locals) ts)
          (body_locals m op (m + item_count op) locals e) (points_read d b known names own o n (m + item_count op + item_count locals) ts)
          (λ ws qs a c. record {
            name = a.0;
            locals = a.1;
            labels = ap (map first_text) (some_forms (codes "point") ts (are_points d b known names own o 0 ts qs c)) ∙ labels_are d b known names own o 0 ts qs c;
            own = all_own d b known names own o 0 ts qs c;
          })

-- the body at this place
pub record IsText (d : Declarations) (i : ℕ) (t : Tree) (x : BodyText (Point × Outline)) : Type 0 where
  pub body : Body
  pub due : slice_get d.declared.bodies i ≡ Some body
  pub parts : Trees
  pub form : t ≡ list (atom (codes "body") ▸ parts)
  pub head : BodyHead body.operation i parts x

due_read : (d : Declarations) (i : ℕ) (o : Option Body) → slice_get d.declared.bodies i ≡ o → (n : ℕ) (t : Tree) → IfFine (due_reading d o i n t) (IsText d i t)
due_read d i None e n t = tt
due_read d i (Some b) e n t =
    let read = body_parts d.declared b (beside (known_of d) (names_in d b) (own_ways d i)) i in
    if_fine_weaker (HasParts (BodyHead b.operation i) (codes "body") read t) (IsText d i t) (body_reading d.declared b (beside (known_of d) (names_in d b) (own_ways d i)) i n t)
    (λ x h. record { body = b; due = e; parts = h.0; form = h.1; head = h.2 })
    (has_parts (BodyHead b.operation i) (codes "body") read (body_heads d.declared b (known_of d) (names_in d b) (own_ways d i) i) n t)

-- at least as many bodies as are expected, each at its place
pub record AreTexts (d : Declarations) (ts : Trees) (xs : List (BodyText (Point × Outline))) : Type 0 where
  pub each : Each (IsText d) 0 ts xs
  pub enough : nat_lt (tree_count ts) (bodies_due (length d.declared.operations)) ≡ false

pub bodies_read : (d : Declarations) (n m : ℕ) (ts : Trees) → IfFine (bodies_reading d n m ts) (AreTexts d ts)
bodies_read d n m ts = at (nat_lt (tree_count ts) (bodies_due (length d.declared.operations))) refl
  where
    at : (c : Bool) → nat_lt (tree_count ts) (bodies_due (length d.declared.operations)) ≡ c → IfFine (cond c (wrong Shape n) (placed_reading (ith_reading d) 0 m ts)) (AreTexts d ts)
    at true e = tt
    at false e =
        if_fine_weaker (Each (IsText d) 0 ts) (AreTexts d ts) (placed_reading (ith_reading d) 0 m ts) (λ xs h. record { each = h; enough = e })
        (each_placed (IsText d) (ith_reading d) (λ i n t. due_read d i (slice_get d.declared.bodies i) refl n t) 0 m ts)
