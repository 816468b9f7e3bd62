-- A file that says a development has its forms, and each of its parts reads as a part of the development.
use Rattle.std.proofs.Common.{◌≡◌, ℕ, ◌+◌, Bool, true, false, cond, List, [], Some, None, refl, sym, ap, ap₂, ◌∙◌, subst}
use Rattle.std.specs.Prelude.{codes, nat_lt}
use Rattle.lc_base.specs.Limits.{condition_limit}
use Rattle.lc_sexp.specs.Parts.{fits, misshapen}
use Rattle.lc_sexp.specs.Trees.{Tree, Trees, atom, list, none, ◌▸◌, item_count, item_count_of_all}
use Rattle.lc_reading.proofs.Fine.{of_fine}
use Rattle.lc_reading.proofs.Words.{is-true}
use Rattle.lc_reading.specs.Naming.{name_reading}
use Rattle.lc_reading.specs.Readings.{Reading, fine, flawed, both, ended}
use Rattle.lc_reading.specs.Rows.{each_reading}
use Rattle.lc_reading.specs.Words.{is}
use Rattle.lc_term.specs.Syntax.{Formula}
use Rattle.lc_text.specs.Terms.{pair}
use Rattle.lc_seq.specs.Specification.{Column, Specification}
use Rattle.lc_spec_text.specs.Specifications as Q
use Rattle.lc_action.specs.Action.{Action}
use Rattle.lc_tie.specs.Tie.{Conjunct}
use Rattle.lc_object.specs.Syntax.{Point}
use Rattle.lc_outline.specs.Development.{Outline, Development}
use Rattle.lc_object_text.specs.Objects as O
use Rattle.lc_object_text.specs.Objects.{ArrayText, array_reading, first_reading}
use Rattle.lc_object_text.specs.Points.{BodyText}
use Rattle.lc_object_text.specs.Rows.{placed_reading}
use Rattle.lc_object_text.specs.Sections.{Items, Sections, behind_first, behind_lists, behind_forms, items_of_fit, items_in, sections_of}
use Rattle.lc_rider_text.specs.Actions.{action_reading}
use Rattle.lc_rider_text.specs.Columns.{column_reading}
use Rattle.lc_rider_text.specs.Conjuncts.{conjunct_reading}
use Rattle.lc_rider_text.specs.Scopes.{beside_names}
use Rattle.lc_outline_text.specs.Bodies.{bodies_reading}
use Rattle.lc_outline_text.specs.Declarations.{Declarations, declarations_of, known_of}
use Rattle.lc_outline_text.specs.Developments.{Parts, specification_reading, tables_reading, object_reading, second_form_reading, development_of, forms_reading, file_reading}
use Rattle.lc_outline_text.specs.Points.{formulas_in_reading}
use Rattle.lc_outline_text.specs.Sides.{sides_of, auxiliaries_reading, actions_reading, invariant_reading, conditions_reading, sides_reading}
use Rattle.lc_outline_text.specs.Sizes.{condition_count}
use Rattle.lc_outline_print.specs.Developments.{followed}
use Rattle.lc_text_laws.proofs.Splits.{IsForm, trees_are_split, is_form, lists_behind}
use Rattle.lc_text_laws.proofs.Whole.{File, IsFormed, forms_of_file, items, object_at, arrays_at, auxiliaries_at, actions_at, invariant_at, idle_at, named_reading, words_reading, acting_reading, holding_reading, bodies_read, object_by, parts_reading}
use Rattle.lc_outline_text.proofs.LimitsHold.{limited_parts}

-- ---- the parts of what is fine

pub record BothParts {X Y Z : Type 0} (f : X → Y → Z) (r : Reading X) (q : Reading Y) (z : Z) : Type 0 where
  pub first : X
  pub second : Y
  pub first_is : r ≡ fine first
  pub second_is : q ≡ fine second
  pub made : f first second ≡ z

pub both_parts : {X Y Z : Type 0} (f : X → Y → Z) (r : Reading X) (q : Reading Y) (z : Z) → both f r q ≡ fine z → BothParts f r q z
both_parts f (fine x) (fine y) z e = record { first = x; second = y; first_is = refl; second_is = refl; made = cc }
both_parts f (fine x) (flawed h) z e = absurd (cc)
both_parts f (flawed g) (fine y) z e = absurd (cc)
both_parts f (flawed g) (flawed h) z e = absurd (cc)

ended_parts : {X : Type 0} (m : ℕ) (ts : Trees) (r : Reading X) (x : X) → ended m ts r ≡ fine x → (ts ≡ none) × (r ≡ fine x)
ended_parts m none r x e = (refl, e)
ended_parts m (t ▸ ts) (fine y) x e = absurd (cc)
ended_parts m (t ▸ ts) (flawed f) x e = absurd (cc)

-- ---- the forms

record HasSections (d : Declarations) (s : Sections) (n : ℕ) : Type 0 where
  name : List ℕ
  named : first_reading (name_reading None []) n s.object.number s.object.trees ≡ fine name
  columns : List Column
  auxiliaries : first_reading (auxiliaries_reading d) n s.auxiliaries.number s.auxiliaries.trees ≡ fine columns
  conditions : List Conjunct × List Formula
  holding : conditions_reading d n s.invariant.number s.invariant.trees ≡ fine conditions

has_sections : (d : Declarations) (s : Sections) (n : ℕ) (p : Parts) → object_reading d s n ≡ fine p → HasSections d s n
has_sections d s n p e =
    let whole = both_parts pair (tables_reading d s n) (bodies_reading d n s.bodies.number s.bodies.trees) p e in
    let tables = both_parts pair (O.tables_reading d.declared s n) (sides_reading d s n) whole.first whole.first_is in
    let own = both_parts O.tables_of (O.arrays_reading d.declared s n) (O.auxiliaries_reading d.declared s n) tables.first tables.first_is in
    let named = both_parts pair (first_reading (name_reading None []) n s.object.number s.object.trees) _ own.first own.first_is in
    let sides = both_parts sides_of (actions_reading d s n) (conditions_reading d n s.invariant.number s.invariant.trees) tables.second tables.second_is in
    let acting = both_parts pair (first_reading (auxiliaries_reading d) n s.auxiliaries.number s.auxiliaries.trees) _ sides.first sides.first_is in
    record { name = named.first; named = named.first_is; columns = acting.first; auxiliaries = acting.first_is; conditions = sides.second; holding = sides.second_is }

record TwoForms (d : Declarations) (s : Sections) (ts : Trees) : Type 0 where
  spec : Tree
  object : Tree
  same : ts ≡ spec ▸ object ▸ none
  sections : HasSections d s (0 + item_count spec)

two_forms : (d : Declarations) (s : Sections) (ts : Trees) (D : Development) → forms_reading d s 0 ts ≡ fine D → TwoForms d s ts
two_forms d s none D e = absurd (cc)
two_forms d s (t ▸ none) D e =
    let whole = both_parts development_of (specification_reading d 0 t) (second_form_reading d s (0 + item_count t) none) D e in
    let no = whole.second_is in
    absurd (cc)
two_forms d s (t ▸ u ▸ ts) D e =
    let whole = both_parts development_of (specification_reading d 0 t) (second_form_reading d s (0 + item_count t) (u ▸ ts)) D e in
    let last = ended_parts (0 + item_count t + item_count u) ts (object_reading d s (0 + item_count t)) whole.second whole.second_is in
    record { spec = t; object = u; same = ap (λ ts. t ▸ u ▸ ts) last.0; sections = has_sections d s (0 + item_count t) whole.second last.1 }

abbrev object_form : Tree → Trees → Tree
object_form name rest = list (atom (codes "object") ▸ name ▸ rest)

IsObject : Tree → Type 0
IsObject u = (name : Tree) × (rest : Trees) × (u ≡ object_form name rest)

object_found : {X : Type 0} (read : ℕ → Tree → Reading X) (n m : ℕ) (u : Tree) (x : X) → first_reading read n (items_in (codes "object") m u).number (items_in (codes "object") m u).trees ≡ fine x → IsObject u
unfolding IsObject
object_found read n m (atom w) x e = absurd (cc)
object_found read n m (list none) x e = absurd (cc)
object_found read n m (list (list us ▸ ts)) x e = absurd (cc)
object_found {X} read n m (list (atom w ▸ ts)) x e = at (is w (codes "object")) ts refl e
  where
    at : (b : Bool) (ts : Trees) → is w (codes "object") ≡ b
        → first_reading read n (items_of_fit m (cond b (fits ts) misshapen)).number (items_of_fit m (cond b (fits ts) misshapen)).trees ≡ fine x → IsObject (list (atom w ▸ ts))
    at true none same e = absurd (cc)
    at true (t ▸ ts) same e = (t, ts, ap (λ v. list (atom v ▸ t ▸ ts)) (is-true w (codes "object") same))
    at false ts same e = absurd (cc)

record HasAuxiliaries (ts : Trees) : Type 0 where
  first : Tree
  others : Trees
  same : ts ≡ first ▸ others
  form : IsForm (codes "aux") first

auxiliaries_found : (d : Declarations) (n m : ℕ) (ts : Trees) (cs : List Column) → first_reading (auxiliaries_reading d) n m ts ≡ fine cs → HasAuxiliaries ts
auxiliaries_found d n m none cs e = absurd (cc)
auxiliaries_found d n m (t ▸ ts) cs e =
    record { first = t; others = ts; same = refl; form = of_fine (λ (cs : List Column). IsForm (codes "aux") t) (auxiliaries_reading d m t) cs (is_form (codes "aux") (λ n. placed_reading (column_reading d.declared.columns d.declared.auxiliaries) 0) m t) e }

record HasConditions (ts : Trees) : Type 0 where
  invariant : Tree
  idle : Tree
  bodies : Trees
  same : ts ≡ invariant ▸ idle ▸ bodies
  form : IsForm (codes "invariant") invariant

conditions_found : (d : Declarations) (n m : ℕ) (ts : Trees) (x : List Conjunct × List Formula) → conditions_reading d n m ts ≡ fine x → HasConditions ts
conditions_found d n m none x e = absurd (cc)
conditions_found d n m (t ▸ none) x e = absurd (cc)
conditions_found d n m (t ▸ u ▸ ts) x e =
    let both = both_parts pair (invariant_reading d m t) (formulas_in_reading (codes "idle") (beside_names d.declared.columns (Some [])) (m + item_count t) u) x e in
    record { invariant = t; idle = u; bodies = ts; same = refl; form = of_fine (λ (cs : List Conjunct). IsForm (codes "invariant") t) (invariant_reading d m t) both.first (is_form (codes "invariant") (λ n. each_reading (conjunct_reading (beside_names d.declared.columns None))) m t) both.first_is }

pub record HasForms (ts : Trees) : Type 0 where
  pub file : File
  pub same : ts ≡ forms_of_file file
  pub formed : IsFormed file

object_formed : (d : Declarations) (n : ℕ) (t name : Tree) (rest : Trees) → HasSections d (sections_of (t ▸ object_form name rest ▸ none)) n → HasForms (t ▸ object_form name rest ▸ none)
object_formed d n t name rest h =
    let k = 0 + item_count t + 2 + item_count name in
    let arrays = trees_are_split (codes "array") rest in
    let behind_arrays : behind_lists (codes "array") k rest ≡ items (k + item_count_of_all arrays.own) arrays.others =
    ap (behind_lists (codes "array") k) arrays.same ∙ lists_behind (codes "array") k arrays.own arrays.others arrays.forms arrays.stop in
    let aux = auxiliaries_found d n (k + item_count_of_all arrays.own) arrays.others h.columns (subst (λ (i : Items). first_reading (auxiliaries_reading d) n i.number i.trees ≡ fine h.columns) behind_arrays h.auxiliaries) in
    let m = k + item_count_of_all arrays.own + item_count aux.first in
    let actions = trees_are_split (codes "action") aux.others in
    let behind_actions : behind_forms (codes "action") (behind_first (behind_lists (codes "array") k rest)) ≡ items (m + item_count_of_all actions.own) actions.others =
    ap (λ (i : Items). behind_forms (codes "action") (behind_first i)) (behind_arrays ∙ ap (items (k + item_count_of_all arrays.own)) aux.same)
    ∙ ap (behind_lists (codes "action") m) actions.same ∙ lists_behind (codes "action") m actions.own actions.others actions.forms actions.stop in
    let conditions = conditions_found d n (m + item_count_of_all actions.own) actions.others h.conditions
    (subst (λ (i : Items). conditions_reading d n i.number i.trees ≡ fine h.conditions) behind_actions h.holding) in
    record {
      file = record { spec = t; name = name; arrays = arrays.own; auxiliaries = aux.first; actions = actions.own; invariant = conditions.invariant; idle = conditions.idle; bodies = conditions.bodies };
      same =
          ap (λ ts. t ▸ object_form name ts ▸ none)
          (arrays.same ∙ ap (followed arrays.own) (aux.same ∙ ap (λ ts. aux.first ▸ ts) (actions.same ∙ ap (followed actions.own) conditions.same)));
      formed = record { arrays = arrays.forms; auxiliaries = aux.form; actions = actions.forms; invariant = conditions.form };
    }

either_form : (d : Declarations) (n : ℕ) (t u : Tree) → IsObject u → HasSections d (sections_of (t ▸ u ▸ none)) n → HasForms (t ▸ u ▸ none)
unfolding IsObject
either_form d n t u o h =
    subst (λ u. HasForms (t ▸ u ▸ none)) (sym o.2) (object_formed d n t o.0 o.1 (subst (λ u. HasSections d (sections_of (t ▸ u ▸ none)) n) o.2 h))

pub has_forms : (ts : Trees) (D : Development) → file_reading ts ≡ fine D → HasForms ts
has_forms ts D e =
    let within = limited_parts (nat_lt condition_limit (condition_count (declarations_of ts) (sections_of ts))) 0 (forms_reading (declarations_of ts) (sections_of ts) 0 ts) D e in
    let d = declarations_of ts in
    let two = two_forms d (sections_of ts) ts D within.1 in
    let sections = subst (λ us. HasSections d (sections_of us) (0 + item_count two.spec)) two.same two.sections in
    subst HasForms (sym two.same)
    (either_form d (0 + item_count two.spec) two.spec two.object (object_found (name_reading None []) (0 + item_count two.spec) (0 + item_count two.spec) two.object sections.name sections.named) sections)

-- ---- what the parts read as

pub record Values : Type 0 where
  pub specification : Specification
  pub name : List ℕ
  pub arrays : List ArrayText
  pub names : List (List ℕ)
  pub auxiliaries : List Column
  pub actions : List Action
  pub conjuncts : List Conjunct
  pub idle : List Formula
  pub bodies : List (BodyText (Point × Outline))

pub record AreValues (d : Declarations) (x : File) (v : Values) : Type 0 where
  pub specification : Q.specification_reading d.declared.columns 0 x.spec ≡ fine v.specification
  pub name : name_reading None [] (object_at x + 2) x.name ≡ fine v.name
  pub arrays : placed_reading (array_reading d.declared) 0 (arrays_at x) x.arrays ≡ fine v.arrays
  pub words : words_reading d x ≡ fine v.names
  pub auxiliaries : auxiliaries_reading d (auxiliaries_at x) x.auxiliaries ≡ fine v.auxiliaries
  pub actions : placed_reading (action_reading (known_of d)) 0 (actions_at x) x.actions ≡ fine v.actions
  pub conjuncts : invariant_reading d (invariant_at x) x.invariant ≡ fine v.conjuncts
  pub idle : formulas_in_reading (codes "idle") (beside_names d.declared.columns (Some [])) (idle_at x) x.idle ≡ fine v.idle
  pub bodies : bodies_read d x ≡ fine v.bodies

-- the parts of an object
abbrev pub object_of_values : Values → Parts
object_of_values v = ((O.tables_of (v.name, v.arrays) v.names, sides_of (v.auxiliaries, v.actions) (v.conjuncts, v.idle)), v.bodies)

abbrev pub development_made : Values → Development
development_made v = development_of v.specification (object_of_values v)

-- values that are read make the development
pub made_of_values : (d : Declarations) (x : File) (v : Values) → AreValues d x v → parts_reading d x ≡ fine (development_made v)
made_of_values d x v a =
    ap₂ (both development_of) a.specification
    (ap₂ (both pair)
    (ap₂ (both pair) (ap₂ (both O.tables_of) (ap₂ (both pair) a.name a.arrays) a.words) (ap₂ (both sides_of) (ap₂ (both pair) a.auxiliaries a.actions) (ap₂ (both pair) a.conjuncts a.idle)))
    a.bodies)

pub record HasValues (d : Declarations) (x : File) (D : Development) : Type 0 where
  pub values : Values
  pub are : AreValues d x values
  pub made : development_made values ≡ D

pub has_values : (d : Declarations) (x : File) (D : Development) → parts_reading d x ≡ fine D → HasValues d x D
has_values d x D e =
    let whole = both_parts development_of (specification_reading d 0 x.spec) (object_by (named_reading d x) (words_reading d x) (acting_reading d x) (holding_reading d x) (bodies_read d x)) D e in
    let object = both_parts pair (both pair (both O.tables_of (named_reading d x) (words_reading d x)) (both sides_of (acting_reading d x) (holding_reading d x))) (bodies_read d x) whole.second whole.second_is in
    let tables = both_parts pair (both O.tables_of (named_reading d x) (words_reading d x)) (both sides_of (acting_reading d x) (holding_reading d x)) object.first object.first_is in
    let own = both_parts O.tables_of (named_reading d x) (words_reading d x) tables.first tables.first_is in
    let named = both_parts pair (name_reading None [] (object_at x + 2) x.name) (placed_reading (array_reading d.declared) 0 (arrays_at x) x.arrays) own.first own.first_is in
    let sides = both_parts sides_of (acting_reading d x) (holding_reading d x) tables.second tables.second_is in
    let acting = both_parts pair (auxiliaries_reading d (auxiliaries_at x) x.auxiliaries) (placed_reading (action_reading (known_of d)) 0 (actions_at x) x.actions) sides.first sides.first_is in
    let holding = both_parts pair (invariant_reading d (invariant_at x) x.invariant) (formulas_in_reading (codes "idle") (beside_names d.declared.columns (Some [])) (idle_at x) x.idle) sides.second sides.second_is in
    record {
      values = record {
        specification = whole.first;
        name = named.first;
        arrays = named.second;
        names = own.second;
        auxiliaries = acting.first;
        actions = acting.second;
        conjuncts = holding.first;
        idle = holding.second;
        bodies = object.second;
      };
      are = record {
        specification = whole.first_is;
        name = named.first_is;
        arrays = named.second_is;
        words = own.second_is;
        auxiliaries = acting.first_is;
        actions = acting.second_is;
        conjuncts = holding.first_is;
        idle = holding.second_is;
        bodies = object.second_is;
      };
      made =
          ap (development_of whole.first)
          (ap₂ (λ a b. (a, b))
          (ap₂ (λ a b. (a, b)) (ap (λ p. O.tables_of p own.second) named.made ∙ own.made) (ap₂ sides_of acting.made holding.made ∙ sides.made) ∙ tables.made)
          refl ∙ object.made) ∙ whole.made;
    }
