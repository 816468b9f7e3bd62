-- What the points of a body that is read name is declared.
use Rattle.std.proofs.Common.{◌≡◌, ℕ, suc, ◌+◌, ◌≤◌, ◌<◌, Bool, true, false, cond, ◌&&◌, ◌||◌, List, [], ◌∷◌, ◌++◌, length, length-append, Option, Some, None, refl, sym, ap, ◌∙◌, subst, arith, IfSome}
use Rattle.std.proofs.lemmas.Bool.Decides.{nat_tests}
use Rattle.std.specs.Prelude.{option_map, codes, nat_lt, nat_le}
use Rattle.std.specs.List.{list_any}
use Rattle.std.proofs.lemmas.Bool.{and_from}
use Rattle.lc_lemmas.proofs.Booleans.{true_unless_other}
use Rattle.lc_base.specs.NameText.{is_name}
use Rattle.lc_base.specs.Limits.{local_limit, point_limit}
use Rattle.lc_sexp.specs.Parts.{fits, form_fit}
use Rattle.lc_sexp.specs.TreeCode.{tree_count}
use Rattle.lc_sexp.specs.Trees.{Tree, Trees, atom, list, none, ◌▸◌, item_count}
use Rattle.lc_text.proofs.ReadHolds.{Kept, OfUsable}
use Rattle.lc_reading.proofs.Holding.{Holds, both_holds, if_holds, holds_unit, holds_weaker}
use Rattle.lc_reading.proofs.Words.{is-true}
use Rattle.lc_reading.specs.Listed.{place_of, names_among}
use Rattle.lc_reading.specs.Naming.{use_reading, known}
use Rattle.lc_reading.specs.Readings.{fine, wrong, both}
use Rattle.lc_reading.specs.Reserved.{is_system_column}
use Rattle.lc_reading.specs.Words.{is, is_long}
use Rattle.lc_reading.specs.declared.pass.Pass.TheVariants.{Shape, Bound}
use Rattle.lc_text.specs.declared.scope.ColumnUse.TheVariants.{Misplaced, Hidden, Undeclared}
use Rattle.lc_object.specs.Syntax.{Point}
use Rattle.lc_object.specs.WellFormed.{is_code_variable, is_code_term, is_code_formula, are_code_formulas}
use Rattle.lc_object_text.proofs.CodeHolds.{IsTerm, NoColumn, IsFormula, AreFormulas, Scope, Fits, instruction_holds}
use Rattle.lc_object_text.proofs.Holding.{limited_below, Each, placed_holds, form_holds, names_hold}
use Rattle.lc_reading.proofs.Places.{place_below}
use Rattle.lc_object_text.specs.Declaring.{kth_name_reading, names_reading}
use Rattle.lc_object_text.specs.Instructions.{instruction_reading}
use Rattle.lc_object_text.specs.ObjectNames.{Declared, Body, text_in, first_text, items_within, within_first, later, column_use, variable_of, code_names, body_names}
use Rattle.lc_object_text.specs.Points.{point_of, point_name_reading, point_parts, point_reading, points_reading, BodyText, body_of, behind_name, locals_reading, is_of_another, body_parts, body_reading, point_alone, sides_reading, code_alone}
use Rattle.lc_object_text.specs.Sections.{parts_in}

-- the variables of a body: its arguments from 2 on, then its locals, and how many there are
abbrev pub first_local : Body → ℕ
first_local b = 2 + length b.call.arguments

abbrev pub variables_in : Body → ℕ
variables_in b = 2 + length b.call.arguments + length b.locals

-- the names of a body's code
hidden : (b : Bool) → OfUsable NoColumn (cond b Misplaced Hidden)
hidden true = tt
hidden false = tt

absent : (b : Bool) → OfUsable NoColumn (cond b Hidden Undeclared)
absent true = tt
absent false = tt

not_usable : (a c : ℕ) (system : Bool) (o : Option ℕ) → OfUsable NoColumn (column_use a c system o)
not_usable a c system (Some k) = hidden (nat_le a k && nat_lt k c)
not_usable a c system None = absent system

placed_variable : (count : ℕ) (o : Option ℕ) → ((k : ℕ) → o ≡ Some k → k < count) → IfSome (option_map (λ k. 2 + k) o) (λ k. is_code_variable (2 + count) k ≡ true)
placed_variable count None h = tt
placed_variable count (Some k) h = and_from (nat_lt 0 (2 + k)) (nat_lt (2 + k) (2 + count)) (grind (arith, nat_tests)) (let below = h k refl in grind (arith, nat_tests))

self_variable : (count : ℕ) (b : Bool) (o : Option ℕ) → IfSome o (λ k. is_code_variable (2 + count) k ≡ true) → IfSome (cond b (Some 1) o) (λ k. is_code_variable (2 + count) k ≡ true)
self_variable count true o h = and_from (nat_lt 0 1) (nat_lt 1 (2 + count)) refl (grind (arith, nat_tests))
self_variable count false o h = h

if_same : {P Q : ℕ → Type 0} (o : Option ℕ) → ((k : ℕ) → P k → Q k) → IfSome o P → IfSome o Q
if_same None f h = tt
if_same (Some k) f h = f k h

variable_known : (b : Body) (w : List ℕ) → IfSome (variable_of b w) (λ k. is_code_variable (variables_in b) k ≡ true)
variable_known b w =
    let names = b.call.arguments ++ b.locals in
    let size : 2 + length names ≡ variables_in b = omega (arith, length-append b.call.arguments b.locals) in
    if_same (variable_of b w) (λ k h. subst (λ n. is_code_variable n k ≡ true) size h)
    (self_variable (length names) (is w (codes "self")) (option_map (λ k. 2 + k) (place_of names w)) (placed_variable (length names) (place_of names w) (λ k e. place_below names w k e)))

code_terms : (d : Declared) (b : Body) → Kept (code_names d b) (IsTerm (variables_in b)) NoColumn (IsFormula (variables_in b)) (AreFormulas (variables_in b))
code_terms d b =
    let n = variables_in b in
    record {
      plain = λ extra. refl;
      variables = variable_known b;
      columns = λ w. not_usable d.abstracts d.auxiliaries (is_system_column w) (place_of d.columns w);
      numbers = λ z. refl;
      sums = λ t u h g. and_from (is_code_term n t) (is_code_term n u) h g;
      differences = λ t u h g. and_from (is_code_term n t) (is_code_term n u) h g;
      multiples = λ z t h. h;
      reads = λ c t h g. absurd h;
      orders = λ t u h g. and_from (is_code_term n t) (is_code_term n u) h g;
      equations = λ t u h g. and_from (is_code_term n t) (is_code_term n u) h g;
      negations = λ f h. h;
      conjunctions = λ fs h. h;
      disjunctions = λ fs h. h;
      implications = λ f g h k. and_from (is_code_formula n f) (is_code_formula n g) h k;
      no_parts = refl;
      more_parts = λ f fs h g. and_from (is_code_formula n f) (are_code_formulas n fs) h g;
    }

-- targets
pub shifted_target : (m r : ℕ) (o : Option ℕ) → option_map (λ k. m + k) o ≡ Some r → (k : ℕ) × (o ≡ Some k) × (r ≡ m + k)
shifted_target m r None e = cc
shifted_target m r (Some k) e = (k, refl, let same : m + k ≡ r = cc in sym same)

-- the name at a place is the name that is placed there
same_place : (vs : List (List ℕ)) (v w : List ℕ) (k : ℕ) → place_of vs v ≡ Some k → place_of vs w ≡ Some k → v ≡ w
same_place [] v w k e f = cc
same_place (u ∷ vs) v w k e f = by_first (is v u) (is w u) refl refl k (place_of vs v) (place_of vs w) (λ m g h. same_place vs v w m g h) e f where
  by_first : (a b : Bool) → a ≡ is v u → b ≡ is w u → (k : ℕ) (o p : Option ℕ) → ((m : ℕ) → o ≡ Some m → p ≡ Some m → v ≡ w) → cond a (Some 0) (option_map suc o) ≡ Some k → cond b (Some 0) (option_map suc p) ≡ Some k → v ≡ w
  by_first true true g h k o p later e f = is-true v u (sym g) ∙ sym (is-true w u (sym h))
  by_first true false g h k o None later e f = cc
  by_first true false g h k o (Some m) later e f = absurd (let zero_is : 0 ≡ k = cc in let next : suc m ≡ k = cc in omega arith)
  by_first false true g h k None p later e f = cc
  by_first false true g h k (Some m) p later e f = absurd (let zero_is : 0 ≡ k = cc in let next : suc m ≡ k = cc in omega arith)
  by_first false false g h k None p later e f = cc
  by_first false false g h k (Some m) None later e f = cc
  by_first false false g h k (Some m) (Some j) later e f =
      let a : suc m ≡ k = cc in
      let b : suc j ≡ k = cc in
      let same : j ≡ m = omega arith in later m refl (ap Some same)

body_scope : (d : Declared) (b : Body) → Scope (code_names d b) (body_names d b) (first_local b) (variables_in b)
body_scope d b = record {
  terms = code_terms d b;
  targets = λ w r e.
      let c = shifted_target (2 + length b.call.arguments) r (place_of b.locals w) e in
      let below : c.0 < length b.locals = place_below b.locals w c.0 c.1 in
      (omega (arith, c.2), omega (arith, c.2, below));
  one = λ v w r e f.
      let c = shifted_target (2 + length b.call.arguments) r (place_of b.locals v) e in
      let g = shifted_target (2 + length b.call.arguments) r (place_of b.locals w) f in
      let same : g.0 ≡ c.0 = omega (arith, c.2, g.2) in
      same_place b.locals v w c.0 c.1 (g.1 ∙ ap Some same);
}

-- a point of the operation of this number, whose instruction names what is declared
abbrev pub IsPointOf : Declared → Body → ℕ → Point → Type 0
IsPointOf d b k q = (q.operation ≡ k) × Fits (body_names d b) (first_local b) (variables_in b) q.instruction

-- the i-th of its body; an object has no more than 256
abbrev IsPlaced : Declared → Body → ℕ → ℕ → Point → Type 0
IsPlaced d b k i q = (b.first + i < point_limit) × IsPointOf d b k q

point_parts_hold : (d : Declared) (b : Body) (k i n m : ℕ) (ts : Trees) → Holds (IsPlaced d b k i) (point_parts d b code_alone k i n m ts)
point_parts_hold d b k i n m none = tt
point_parts_hold d b k i n m (name ▸ none) = tt
point_parts_hold d b k i n m (name ▸ code ▸ ts) =
    let F = Fits (body_names d b) (first_local b) (variables_in b) in
    let instruction = instruction_reading (code_names d b) (body_names d b) (m + item_count name) code in
    let sides = sides_reading n (m + item_count name + item_count code) ts in
    both_holds (IsPlaced d b k i) (λ u. Unit {0}) (IsPlaced d b k i) point_alone _ sides
    (both_holds (λ w. b.first + i < point_limit) F (IsPlaced d b k i) (point_of k) (point_name_reading d (b.first + i) n m name) instruction
    (limited_below point_limit (b.first + i) n (kth_name_reading d.points (b.first + i) m name))
    (instruction_holds (code_names d b) (body_names d b) (first_local b) (variables_in b) (body_scope d b) (m + item_count name) code) (λ w x h g. (h, (refl, g))))
    (holds_unit sides) (λ q u h g. h)

-- a point that is read
abbrev pub IsPoint : Declared → Body → ℕ → ℕ → Tree → Point → Type 0
IsPoint d b k i t q = (form_fit (codes "point") t ≡ fits (parts_in (codes "point") t)) × IsPlaced d b k i q

point_holds : (d : Declared) (b : Body) (k i n : ℕ) (t : Tree) → Holds (IsPoint d b k i t) (point_reading d b code_alone k i n t)
point_holds d b k i n t = form_holds (λ ts q. IsPlaced d b k i q) (codes "point") (point_parts d b code_alone k i) n t (point_parts_hold d b k i)

-- the points of a body, at least one
abbrev pub ArePoints : Declared → Body → ℕ → Trees → List Point → Type 0
ArePoints d b k ts qs = (1 ≤ tree_count ts) × Each (IsPoint d b k) 0 ts qs

points_hold : (d : Declared) (b : Body) (k n m : ℕ) (ts : Trees) → Holds (ArePoints d b k ts) (points_reading d b code_alone k n m ts)
points_hold d b k n m none = tt
points_hold d b k n m (t ▸ ts) =
    holds_weaker (Each (IsPoint d b k) 0 (t ▸ ts)) (ArePoints d b k (t ▸ ts)) (points_reading d b code_alone k n m (t ▸ ts)) (λ qs h. (omega arith, h))
    (placed_holds (IsPoint d b k) (point_reading d b code_alone k) (point_holds d b k) 0 m (t ▸ ts))

pub placed_among : (names : List (List ℕ)) (w : List ℕ) (k : ℕ) → place_of names w ≡ Some k → list_any (is w) names ≡ true
placed_among [] w k e = absurd (cc)
placed_among (v ∷ names) w k e = by_first (is w v) (place_of names w) (λ j. placed_among names w j) e where
  by_first : (b : Bool) (o : Option ℕ) → ((j : ℕ) → o ≡ Some j → list_any (is w) names ≡ true) → cond b (Some 0) (option_map suc o) ≡ Some k → (b || list_any (is w) names) ≡ true
  by_first true o f e = refl
  by_first false None f e = absurd (cc)
  by_first false (Some j) f e = f j refl

due_name : (names : List (List ℕ)) (due : List ℕ) (n : ℕ) (t : Tree) → is_of_another names due t ≡ false → Holds (λ k. text_in t ≡ due) (use_reading names n t)
due_name names due n (list us) h = tt
due_name names due n (atom w) h = if_holds (λ k. w ≡ due) (is_name w) (known n w (place_of names w)) (wrong Shape n) (at_place (place_of names w) refl) tt where
  at_place : (o : Option ℕ) → place_of names w ≡ o → Holds (λ k. w ≡ due) (known n w o)
  at_place None e = tt
  at_place (Some k) e = if_holds (λ j. w ≡ due) (is_long w) (wrong Bound n) (fine k) tt (is-true w due (true_unless_other (list_any (is w) names) (is w due) (placed_among names w k e) h))

-- what is read of the body of an operation, whose parts these are
pub record IsBody (d : Declared) (b : Body) (k : ℕ) (us : Trees) (text : BodyText Point) : Type 0 where
  pub due : first_text us ≡ b.operation
  pub locals : length text.locals ≡ length (names_among (within_first (later us)))
  pub few : length text.locals ≤ local_limit
  pub points : ArePoints d b k (later (later us)) text.points

body_parts_hold : (d : Declared) (b : Body) (k n m : ℕ) (us : Trees) → Holds (IsBody d b k us) (body_parts d b code_alone k n m us)
body_parts_hold d b k n m none = tt
body_parts_hold d b k n m (op ▸ none) = tt
body_parts_hold d b k n m (op ▸ locals ▸ ts) = by_test (is_of_another d.operations b.operation op) refl where
  Named : List (List ℕ) → Type 0
  Named ws = (length ws ≡ length (names_among (items_within locals))) × (length ws ≤ local_limit)

  by_test : (c : Bool) → is_of_another d.operations b.operation op ≡ c
      → Holds (IsBody d b k (op ▸ locals ▸ ts)) (cond c (wrong Shape n) (both body_of (locals_reading d b m op (m + item_count op) locals) (points_reading d b code_alone k n (m + item_count op + item_count locals) ts)))
  by_test true e = tt
  by_test false e =
      both_holds (λ ws. (text_in op ≡ b.operation) × Named ws) (ArePoints d b k ts) (IsBody d b k (op ▸ locals ▸ ts)) body_of (locals_reading d b m op (m + item_count op) locals)
      (points_reading d b code_alone k n (m + item_count op + item_count locals) ts)
      (both_holds (λ j. text_in op ≡ b.operation) Named (λ ws. (text_in op ≡ b.operation) × Named ws) behind_name (use_reading d.operations m op)
      (names_reading local_limit (b.call.arguments ++ b.locals) (length b.call.arguments) (m + item_count op) locals) (due_name d.operations b.operation m op e)
      (names_hold local_limit (b.call.arguments ++ b.locals) (length b.call.arguments) (m + item_count op) locals) (λ j ws h g. (h, g)))
      (points_hold d b k n (m + item_count op + item_count locals) ts)
      (λ ws qs h g. record { due = h.0; locals = h.1.0; few = h.1.1; points = g })

-- a body of an operation, and its parts
abbrev pub IsBodyAt : Declared → Body → ℕ → Tree → BodyText Point → Type 0
IsBodyAt d b k t text = (form_fit (codes "body") t ≡ fits (parts_in (codes "body") t)) × IsBody d b k (parts_in (codes "body") t) text

pub body_holds : (d : Declared) (b : Body) (k n : ℕ) (t : Tree) → Holds (IsBodyAt d b k t) (body_reading d b code_alone k n t)
body_holds d b k n t = form_holds (IsBody d b k) (codes "body") (body_parts d b code_alone k) n t (body_parts_hold d b k)
