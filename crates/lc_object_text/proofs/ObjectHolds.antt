-- An object that a file reads as is well-formed.
use Rattle.std.proofs.Common.{◌≡◌, ℕ, zero, suc, ◌+◌, ◌≤◌, true, List, [], ◌∷◌, length, map, None, refl, sym, ap, ◌∙◌, subst, arith}
use Rattle.std.proofs.lemmas.List.{length-map}
use Rattle.std.specs.Prelude.{codes, nat_le}
use Rattle.std.specs.List.{list_all}
use Rattle.std.proofs.lemmas.Bool.{le-leb}
use Rattle.lc_lemmas.proofs.Booleans.{and_six}
use Rattle.lc_base.specs.Limits.{operation_limit, point_limit}
use Rattle.lc_sexp.specs.Parts.{fits, form_fit}
use Rattle.lc_sexp.specs.TreeCode.{tree_count}
use Rattle.lc_sexp.specs.Trees.{Tree, Trees, none, ◌▸◌, item_count}
use Rattle.lc_text.specs.Terms.{pair}
use Rattle.lc_reading.proofs.Holding.{Holds, holds_of_fine, both_holds, ended_holds, holds_unit, holds_weaker}
use Rattle.lc_reading.specs.Naming.{name_reading}
use Rattle.lc_reading.specs.Readings.{fine}
use Rattle.lc_object.specs.Syntax.{Operation, Point, Object}
use Rattle.lc_object.specs.WellFormed.{is_array, is_point, are_operations, are_apart, is_object}
use Rattle.lc_object_text.proofs.ArrayHolds.{AreArrays, arrays_hold, concretes_counted, HaveSpans, spans_have}
use Rattle.lc_object_text.proofs.BodiesHold.{AreBodies, bodies_hold, AreOperationsOf, ArePoints, bodies_fit}
use Rattle.lc_object_text.proofs.Holding.{each_counted, each_few, each_form, parts_of_all, some_forms, parts_counted}
use Rattle.lc_object_text.proofs.ObjectChecks.{BodiesAre, arrays_are, spans_are_apart, bodies_are}
use Rattle.lc_object_text.proofs.SignatureHolds.{IsOperation, AreOperations, columns_behind, IsSpecification, specification_holds}
use Rattle.lc_object_text.specs.ObjectNames.{Declared, Body, Call, first_text, later, call_of, names_of_columns, parts_in_first, points_in, bodies_due, bodies_from, abstracts_in, arrays_in, operations_in, spans_from, declared_in, declared_in_sections}
use Rattle.lc_object_text.specs.Objects.{SpecificationText, Tables, tables_of, first_reading, array_reading, arrays_reading, auxiliaries_reading, tables_reading, bodies_reading, object_reading, specification_reading, second_form_reading, operations_from, points_of, object_of, file_reading}
use Rattle.lc_object_text.specs.Points.{BodyText, code_alone}
use Rattle.lc_object_text.specs.Rows.{lists_reading}
use Rattle.lc_object_text.specs.Sections.{parts_in, Sections, items_of_fit, items_in, behind_item, behind_first, sections_of}

-- what is read of a specification and of an object with these sections
pub record SpecificationFits (d : Declared) (s : Sections) (text : SpecificationText) : Type 0 where
  pub abstracts : length text.abstracts ≡ length (abstracts_in s)
  pub operations : AreOperations d s.operations.trees text.signatures

abbrev pub ObjectFits : Declared → Sections → Tables × List (BodyText Point) → Type 0
ObjectFits d s object = AreArrays (arrays_in s) object.0.arrays × AreBodies d s.bodies.trees object.1

pub names_counted : (ts : Trees) → length (names_of_columns ts) ≡ tree_count ts
names_counted none = refl
names_counted (t ▸ ts) = ap suc (names_counted ts)

pub columns_counted : (ts : Trees) → length (names_of_columns (parts_in_first (codes "abstract") ts)) ≡ columns_behind ts
columns_counted none = refl
columns_counted (t ▸ ts) = names_counted (parts_in (codes "abstract") t)

pub behind_one : (n : ℕ) (ts : Trees) → (behind_item n ts).trees ≡ later ts
behind_one n none = refl
behind_one n (t ▸ ts) = refl

pub behind_two : (n : ℕ) (ts : Trees) → (behind_first (behind_item n ts)).trees ≡ later (later ts)
behind_two n none = refl
behind_two n (t ▸ ts) = behind_one (n + item_count t) ts

pub specification_fits : (t u : Tree) (ts : Trees) (text : SpecificationText) → form_fit (codes "spec") t ≡ fits (parts_in (codes "spec") t) → IsSpecification (declared_in (t ▸ u ▸ ts)) (parts_in (codes "spec") t) text
    → SpecificationFits (declared_in (t ▸ u ▸ ts)) (sections_of (t ▸ u ▸ ts)) text
specification_fits t u ts text fit h =
    let s = sections_of (t ▸ u ▸ ts) in
    let d = declared_in (t ▸ u ▸ ts) in
    let us = parts_in (codes "spec") t in
    let items : items_in (codes "spec") 0 t ≡ record { number = 2; trees = us } = ap (items_of_fit 0) fit in
    let abstracts : s.abstracts.trees ≡ later us = ap (λ i. (behind_first i).trees) items ∙ behind_one 2 us in
    let operations : s.operations.trees ≡ later (later us) = ap (λ i. (behind_first (behind_first i)).trees) items ∙ behind_two 2 us in
    record {
      abstracts = h.abstracts ∙ sym (columns_counted (later us)) ∙ ap (λ vs. length (names_of_columns (parts_in_first (codes "abstract") vs))) (sym abstracts);
      operations = subst (λ vs. AreOperations d vs text.signatures) (sym operations) h.operations;
    }

pub tables_hold : (d : Declared) (s : Sections) (n : ℕ) → Holds (λ (tables : Tables). AreArrays (arrays_in s) tables.arrays) (tables_reading d s n)
tables_hold d s n =
    let name = first_reading (name_reading None []) n s.object.number s.object.trees in
    both_holds (λ named. AreArrays (arrays_in s) named.1) (λ ws. Unit {0}) (λ (tables : Tables). AreArrays (arrays_in s) tables.arrays) tables_of (arrays_reading d s n) (auxiliaries_reading d s n)
    (both_holds (λ w. Unit {0}) (AreArrays (arrays_in s)) (λ named. AreArrays (arrays_in s) named.1) pair name (lists_reading (codes "array") (array_reading d) 0 s.arrays.number s.arrays.trees)
    (holds_unit name) (arrays_hold d 0 s.arrays.number s.arrays.trees) (λ w arrays u h. h))
    (holds_unit (auxiliaries_reading d s n)) (λ named ws h u. h)

pub object_holds : (d : Declared) (s : Sections) (n : ℕ) → Holds (ObjectFits d s) (object_reading d s code_alone n)
object_holds d s n =
    both_holds (λ (tables : Tables). AreArrays (arrays_in s) tables.arrays) (AreBodies d s.bodies.trees) (ObjectFits d s) pair (tables_reading d s n) (bodies_reading d code_alone n s.bodies.number s.bodies.trees)
    (tables_hold d s n) (bodies_hold d n s.bodies.number s.bodies.trees) (λ tables bodies h g. (h, g))

all_due : (n : ℕ) → 1 ≤ n → bodies_due n ≡ n
all_due zero h = absurd (omega (arith, h))
all_due (suc n) h = refl

bodies_counted : (names : List (List ℕ)) (calls : List Call) (k p n : ℕ) (ts : Trees) → length (bodies_from names calls k p n ts) ≤ n
bodies_counted names calls k p zero ts = omega arith
bodies_counted names calls k p (suc n) none = omega arith
bodies_counted names calls k p (suc n) (t ▸ ts) = omega (arith, bodies_counted names calls (k + 1) (p + length (points_in (parts_in (codes "body") t))) n ts)

operations_counted : (bs : List Body) (os : List Operation) → AreOperationsOf bs os → length os ≡ length bs
operations_counted [] [] h = refl
operations_counted [] (o ∷ os) h = absurd h
operations_counted (b ∷ bs) [] h = absurd h
operations_counted (b ∷ bs) (o ∷ os) h = ap suc (operations_counted bs os h.1)

-- the code of an object fits what is declared
pub record CodeFits (d : Declared) (operations : List Operation) (points : List Point) : Type 0 where
  pub operations_fit : AreOperationsOf d.bodies operations
  pub points_fit : ArePoints d 0 0 d.bodies points
  pub few : length operations ≤ operation_limit

pub code_fits : (s : Sections) (text : SpecificationText) (object : Tables × List (BodyText Point)) → SpecificationFits (declared_in_sections s) s text → ObjectFits (declared_in_sections s) s object
    → CodeFits (declared_in_sections s) (operations_from 0 text.signatures object.1) (points_of object.1)
code_fits s text object h g =
    let d = declared_in_sections s in
    let os = s.operations.trees in
    let ts = s.bodies.trees in
    let forms = each_form (IsOperation d) (codes "op") (λ i t x p. p.0) 0 os text.signatures h.operations.1 in
    let ops : operations_in s ≡ parts_of_all (codes "op") os = some_forms (codes "op") os forms in
    let count : length (operations_in s) ≡ tree_count os = ap length ops ∙ parts_counted (codes "op") os in
    let due : bodies_due (length (operations_in s)) ≡ tree_count os = all_due (length (operations_in s)) (omega (arith, count, h.operations.0)) ∙ count in
    let names : length d.operations ≡ length (operations_in s) = length-map (operations_in s) first_text in
    let enough : bodies_due (length (operations_in s)) ≤ tree_count ts = subst (λ n. bodies_due n ≤ tree_count ts) names g.1.0 in
    let size = each_counted (IsOperation d) 0 os text.signatures h.operations.1 in
    let room : 0 + length text.signatures ≤ operation_limit = each_few (IsOperation d) operation_limit (λ i t x p. p.1.below) 0 os text.signatures (omega arith) h.operations.1 in
    let fit = bodies_fit d [] [] [] 0 0 (bodies_due (length (operations_in s))) os ts text.signatures object.1 (ap (map first_text) ops) (ap (map call_of) ops) refl refl refl refl due enough (omega arith) h.operations.1 g.1.1 in
    record {
      operations_fit = fit.0;
      points_fit = fit.1;
      few = omega (arith, operations_counted d.bodies (operations_from 0 text.signatures object.1) fit.0, bodies_counted d.operations d.calls 0 0 (bodies_due (length (operations_in s))) ts, due, size, room);
    }

pub object_is : (s : Sections) (text : SpecificationText) (object : Tables × List (BodyText Point)) → SpecificationFits (declared_in_sections s) s text → ObjectFits (declared_in_sections s) s object
    → is_object (object_of text object) ≡ true
object_is s text object h g =
    let d = declared_in_sections s in
    let o = object_of text object in
    let c : CodeFits d o.operations o.points = code_fits s text object h g in
    let spans : HaveSpans d.spans o.arrays = subst (λ n. HaveSpans (spans_from n (arrays_in s)) o.arrays) h.abstracts (spans_have (length text.abstracts) (arrays_in s) object.0.arrays g.0) in
    let all : BodiesAre o 0 0 o.operations o.points = bodies_are o d spans 0 0 d.bodies o.operations o.points [] [] refl refl refl refl refl c.operations_fit c.points_fit in
    and_six (are_apart o.arrays) (nat_le (length o.operations) operation_limit) (nat_le (length o.points) point_limit) (list_all (is_array o) o.arrays) (are_operations o 0 o.operations) (list_all (is_point o) o.points)
    (spans_are_apart d.abstracts (arrays_in s) o.arrays spans) (le-leb (length o.operations) operation_limit c.few) (le-leb (length o.points) point_limit (omega (arith, all.few)))
    (arrays_are o d.abstracts (arrays_in s) o.arrays spans (omega (arith, h.abstracts)) (omega (arith, h.abstracts, concretes_counted (arrays_in s) object.0.arrays g.0))) all.operations all.points

file_holds : (ts : Trees) → Holds (λ o. is_object o ≡ true) (file_reading ts)
file_holds none = tt
file_holds (t ▸ none) =
    both_holds (λ text. Unit {0}) (λ (object : Tables × List (BodyText Point)). ⊥) (λ o. is_object o ≡ true) object_of (specification_reading (declared_in (t ▸ none)) 0 t) _
    (holds_unit (specification_reading (declared_in (t ▸ none)) 0 t)) tt (λ text object u h. absurd h)
file_holds (t ▸ u ▸ ts) =
    let s = sections_of (t ▸ u ▸ ts) in
    let d = declared_in (t ▸ u ▸ ts) in
    let m = 0 + item_count t in
    both_holds (SpecificationFits d s) (ObjectFits d s) (λ o. is_object o ≡ true) object_of (specification_reading d 0 t) (second_form_reading d s m (u ▸ ts))
    (holds_weaker (λ text. (form_fit (codes "spec") t ≡ fits (parts_in (codes "spec") t)) × IsSpecification d (parts_in (codes "spec") t) text) (SpecificationFits d s) (specification_reading d 0 t)
    (λ text h. specification_fits t u ts text h.0 h.1) (specification_holds d 0 t))
    (ended_holds (ObjectFits d s) (m + item_count u) ts (object_reading d s code_alone m) (object_holds d s m)) (object_is s)

-- what a file reads as is an object
pub is_well_formed : (ts : Trees) (o : Object) → file_reading ts ≡ fine o → is_object o ≡ true
is_well_formed ts o e = holds_of_fine (λ o. is_object o ≡ true) (file_reading ts) o (file_holds ts) e
