-- A development that is read is within its limits.
use Rattle.std.proofs.Common.{◌≡◌, ℕ, ◌+◌, ◌≤◌, Bool, true, false, ◌&&◌, None, List, [], length, refl, sym, ap, subst, arith}
use Rattle.std.specs.Prelude.{codes, nat_le, nat_lt, slice_get, Result, Ok, Err, IfOk}
use Rattle.std.proofs.lemmas.Bool.{and_from, le-leb}
use Rattle.lc_lemmas.proofs.Numbers.{at_most_from_test}
use Rattle.lc_base.specs.Limits.{action_limit, column_limit, condition_limit}
use Rattle.lc_sexp.specs.Trees.{Tree, Trees, none, ◌▸◌, item_count}
use Rattle.lc_reading.proofs.Holding.{Holds, holds_of_fine, holds_unit, holds_weaker, both_holds, ended_holds, and_holds}
use Rattle.lc_reading.specs.Naming.{name_reading}
use Rattle.lc_reading.specs.Readings.{Reading, fine, flawed, limited}
use Rattle.lc_reading.specs.declared.flaw.ReadFault.{ReadFault}
use Rattle.lc_text.specs.Terms.{pair}
use Rattle.lc_action.specs.Action.{Action}
use Rattle.lc_seq.specs.Specification.{Column, Specification}
use Rattle.lc_object_text.specs.ObjectNames.{abstracts_in, declared_in_sections}
use Rattle.lc_object_text.specs.Objects as O
use Rattle.lc_object_text.specs.Rows.{lists_reading}
use Rattle.lc_object_text.specs.Sections.{Sections, behind_first, parts_in, sections_of}
use Rattle.lc_outline.specs.Development.{Development, first_system}
use Rattle.lc_outline.specs.Limits.{outlines_are_limited, is_limited}
use Rattle.lc_outline.specs.PartsView.{parts_view}
use Rattle.lc_outline.specs.Sizes.{sizes_of, count}
use Rattle.lc_outline.specs.declared.parts.Parts as P
use Rattle.lc_rider_text.specs.Actions.{action_reading}
use Rattle.lc_outline_text.proofs.Agreed.{IsSpecificationSaid, specification_said}
use Rattle.lc_outline_text.proofs.Assembled.{SpecificationHolds, specification_of_text, ObjectHolds, object_of_text, fits_declared, first_auxiliary}
use Rattle.lc_outline_text.proofs.ColumnsFew.{HaveFew, arrays_few, AreFewBehind, auxiliaries_few, actions_few}
use Rattle.lc_outline_text.proofs.Fitting.{outlines_limited}
use Rattle.lc_outline_text.proofs.Outlined.{all_points}
use Rattle.lc_outline_text.proofs.WholeCounted.{forms_sized}
use Rattle.lc_outline_text.specs.Bodies.{bodies_reading}
use Rattle.lc_outline_text.specs.Declarations.{Declarations, known_of, declarations_in, declarations_of}
use Rattle.lc_outline_text.specs.Developments.{Parts, specification_reading, tables_reading, object_reading, second_form_reading, development_of, forms_reading, file_reading}
use Rattle.lc_outline_text.specs.Sides.{Sides, sides_of, actions_reading, conditions_reading, sides_reading}
use Rattle.lc_outline_text.specs.Sizes.{condition_count}
use Rattle.lc_outline_text.specs.Views.{IsFileRead}

-- ---- columns and actions

abbrev HasFew : Specification → Type 0
HasFew q = length q.columns ≤ column_limit

specification_few : (t : Tree) (d : Declarations) (n : ℕ) → Holds HasFew (specification_reading d n t)
specification_few t d n =
    holds_weaker _ HasFew (specification_reading d n t) (λ q h. (let said : IsSpecificationSaid (parts_in (codes "spec") t) q = h.1 in said.few)) (specification_said d.declared.columns n t)

abbrev AreSidesFew : Declarations → Sides → Type 0
AreSidesFew d x = AreFewBehind d.declared.auxiliaries x.auxiliaries × (length x.actions ≤ action_limit)

abbrev AreActionsFew : Declarations → List Column × List Action → Type 0
AreActionsFew d p = AreFewBehind d.declared.auxiliaries p.0 × (length p.1 ≤ action_limit)

sides_few : (d : Declarations) (s : Sections) (n : ℕ) → Holds (AreSidesFew d) (sides_reading d s n)
sides_few d s n =
    let actions = behind_first s.auxiliaries in
    let listed = lists_reading (codes "action") (action_reading (known_of d)) 0 actions.number actions.trees in
    let conditions = conditions_reading d n s.invariant.number s.invariant.trees in
    both_holds (AreActionsFew d) (λ c. Unit {0}) (AreSidesFew d) sides_of (actions_reading d s n) conditions
    (both_holds (AreFewBehind d.declared.auxiliaries) (λ actions. length actions ≤ action_limit) (AreActionsFew d) pair _ listed (auxiliaries_few d n s.auxiliaries.number s.auxiliaries.trees)
    (holds_weaker (λ actions. 0 ≤ action_limit → 0 + length actions ≤ action_limit) (λ actions. length actions ≤ action_limit) listed (λ actions h. let all = h (omega arith) in omega (arith, all))
    (actions_few (known_of d) 0 actions.number actions.trees)) (λ columns actions h g. (h, g)))
    (holds_unit conditions) (λ p c h u. h)

abbrev AreArraysFew : Sections → List O.ArrayText → Type 0
AreArraysFew s arrays = HaveFew (length (abstracts_in s)) arrays

tables_few : (s : Sections) (n : ℕ) → Holds (λ (tables : O.Tables). AreArraysFew s tables.arrays) (O.tables_reading (declared_in_sections s) s n)
tables_few s n =
    let d = declared_in_sections s in
    let name = O.first_reading (name_reading None []) n s.object.number s.object.trees in
    let arrays = lists_reading (codes "array") (O.array_reading d) 0 s.arrays.number s.arrays.trees in
    both_holds (λ (named : List ℕ × List O.ArrayText). AreArraysFew s named.1) (λ ws. Unit {0}) (λ (tables : O.Tables). AreArraysFew s tables.arrays) O.tables_of (O.arrays_reading d s n) (O.auxiliaries_reading d s n)
    (both_holds (λ w. Unit {0}) (AreArraysFew s) (λ (named : List ℕ × List O.ArrayText). AreArraysFew s named.1) pair name arrays (holds_unit name)
    (arrays_few d (length (abstracts_in s)) 0 s.arrays.number s.arrays.trees (λ j. let e : 0 + j ≡ j = omega arith in ap (slice_get d.spans) e)) (λ w arrays u h. h))
    (holds_unit (O.auxiliaries_reading d s n)) (λ named ws h u. h)

abbrev IsObjectFew : Sections → Parts → Type 0
IsObjectFew s o = AreArraysFew s o.0.0.arrays × AreSidesFew (declarations_in s) o.0.1

object_few : (s : Sections) (n : ℕ) → Holds (IsObjectFew s) (object_reading (declarations_in s) s n)
object_few s n =
    let d = declarations_in s in
    let HasTables : O.Tables × Sides → Type 0 = λ x. AreArraysFew s x.0.arrays × AreSidesFew d x.1 in
    let bodies = bodies_reading d n s.bodies.number s.bodies.trees in
    both_holds HasTables (λ bs. Unit {0}) (IsObjectFew s) pair (tables_reading d s n) bodies
    (both_holds (λ (tables : O.Tables). AreArraysFew s tables.arrays) (AreSidesFew d) HasTables pair (O.tables_reading d.declared s n) (sides_reading d s n) (tables_few s n) (sides_few d s n) (λ tables sides h g. (h, g)))
    (holds_unit bodies) (λ x bs h u. h)

-- ---- the whole

-- it is within all limits but that of conditions
record IsWithin (D : Development) : Type 0 where
  columns : first_system D ≤ column_limit
  actions : length D.actions ≤ action_limit
  outlines : outlines_are_limited D.specification.operations D.object.points D.outlines ≡ true

within_of : (s : Sections) (q : Specification) (o : Parts) → SpecificationHolds s q × HasFew q → ObjectHolds s o × IsObjectFew s o → IsWithin (development_of q o)
within_of s q o h g =
    let d = declarations_in s in
    let first = first_auxiliary s q o h.0 g.0 in
    let same = h.0.columns in
    let declared = h.0.fit.abstracts in
    let concretes = g.1.0 (omega (arith, declared, same, h.1)) in
    let all = g.1.1.0 (omega (arith, first, concretes, same, declared)) in
    record {
      columns = omega (arith, first, all);
      actions = g.1.1.1;
      outlines = outlines_limited d (development_of q o) (all_points o.1) (fits_declared s q o h.0 g.0);
    }

second_few : (s : Sections) (n : ℕ) (ts : Trees) → Holds (λ o. ObjectHolds s o × IsObjectFew s o) (second_form_reading (declarations_in s) s n ts)
second_few s n none = tt
second_few s n (t ▸ ts) =
    let r = object_reading (declarations_in s) s n in
    ended_holds (λ o. ObjectHolds s o × IsObjectFew s o) (n + item_count t) ts r (and_holds (ObjectHolds s) (IsObjectFew s) r (object_of_text s n) (object_few s n))

forms_few : (ts : Trees) → Holds IsWithin (forms_reading (declarations_of ts) (sections_of ts) 0 ts)
forms_few none = tt
forms_few (t ▸ none) =
    let r = specification_reading (declarations_of (t ▸ none)) 0 t in
    both_holds (λ p. Unit {0}) (λ o. ⊥) IsWithin development_of r _ (holds_unit r) tt (λ p o h g. absurd g)
forms_few (t ▸ u ▸ ts) =
    let s = sections_of (t ▸ u ▸ ts) in
    let d = declarations_of (t ▸ u ▸ ts) in
    let r = specification_reading d 0 t in
    both_holds (λ q. SpecificationHolds s q × HasFew q) (λ o. ObjectHolds s o × IsObjectFew s o) IsWithin development_of r (second_form_reading (declarations_in s) s (0 + item_count t) (u ▸ ts))
    (and_holds (SpecificationHolds s) HasFew r (specification_of_text t u ts) (specification_few t d 0)) (second_few s (0 + item_count t) (u ▸ ts)) (within_of s)

-- what is read within a limit
pub limited_parts : {X : Type 0} (b : Bool) (n : ℕ) (r : Reading X) (x : X) → limited b n r ≡ fine x → (b ≡ false) × (r ≡ fine x)
limited_parts true n (fine y) x e = absurd (cc)
limited_parts true n (flawed f) x e = absurd (cc)
limited_parts false n r x e = (refl, e)

-- the development that a file says is within its limits
says_limited : (ts : Trees) (D : Development) → file_reading ts ≡ fine D → is_limited D ≡ true
says_limited ts D e =
    let forms = forms_reading (declarations_of ts) (sections_of ts) 0 ts in
    let text = condition_count (declarations_of ts) (sections_of ts) in
    let read = limited_parts (nat_lt condition_limit text) 0 forms D e in
    let few = holds_of_fine IsWithin forms D (forms_few ts) read.1 in
    let conditions : count (sizes_of D) ≤ condition_limit = subst (λ k. k ≤ condition_limit) (sym (forms_sized ts D read.1)) (at_most_from_test text condition_limit read.0) in
    let a = nat_le (first_system D) column_limit in
    let b = nat_le (length D.actions) action_limit in
    let c = outlines_are_limited D.specification.operations D.object.points D.outlines in
    and_from (a && b && c) (nat_le (count (sizes_of D)) condition_limit)
    (and_from (a && b) c (and_from a b (le-leb (first_system D) column_limit few.columns) (le-leb (length D.actions) action_limit few.actions)) few.outlines)
    (le-leb (count (sizes_of D)) condition_limit conditions)

pub read_limited : (ts : Trees) (result : Result P.Parts ReadFault) → IsFileRead ts result → IfOk result (λ parts. is_limited (parts_view parts) ≡ true)
read_limited ts (Ok parts) h = says_limited ts (parts_view parts) h
read_limited ts (Err f) h = tt
