-- A development that is read is resolved.
use Rattle.std.proofs.Common.{◌≡◌, ℕ, zero, suc, ◌+◌, ◌≤◌, ◌<◌, true, ◌==◌, List, [], ◌∷◌, ◌++◌, map, length, length-append, refl, sym, ap, ◌∙◌, subst, arith}
use Rattle.std.proofs.lemmas.List.{length-map}
use Rattle.std.specs.List.{list_all}
use Rattle.std.specs.Prelude.{codes, nat_lt}
use Rattle.std.proofs.lemmas.Bool.{and_from, eq-eqb}
use Rattle.lc_lemmas.proofs.Booleans.{left_true}
use Rattle.lc_base.specs.Limits.{condition_limit}
use Rattle.lc_sexp.specs.Parts.{fits, form_fit}
use Rattle.lc_sexp.specs.TreeCode.{tree_count}
use Rattle.lc_sexp.specs.Trees.{Tree, Trees, none, ◌▸◌, item_count}
use Rattle.lc_reading.proofs.Holding.{Holds, holds_of_fine, holds_unit, both_holds, ended_holds, limited_holds, holds_weaker, and_holds}
use Rattle.lc_reading.specs.Readings.{fine, limited}
use Rattle.lc_text.specs.Terms.{pair}
use Rattle.lc_object.specs.Syntax.{Point}
use Rattle.lc_object.specs.WellFormed.{is_object}
use Rattle.lc_object_text.proofs.ArrayHolds.{columns_count, concretes_counted}
use Rattle.lc_object_text.proofs.BodiesHold.{AreBodies}
use Rattle.lc_object_text.proofs.Holding.{each_counted, each_form, parts_of_all, some_forms, parts_counted}
use Rattle.lc_object_text.proofs.ObjectHolds.{SpecificationFits, ObjectFits, names_counted, specification_fits, object_holds, code_fits, object_is, behind_two}
use Rattle.lc_object_text.proofs.SignatureHolds.{IsOperation}
use Rattle.lc_object_text.specs.ObjectNames.{first_text, later, names_of_columns, columns_of_arrays, bodies_due, abstracts_in, arrays_in, auxiliaries_in, operations_in, declared_in_sections}
use Rattle.lc_object_text.specs.Objects as O
use Rattle.lc_object_text.specs.Points.{BodyText, code_alone}
use Rattle.lc_object_text.specs.Sections.{items_of_fit, behind_first, parts_in, some_forms_in, Sections, sections_of}
use Rattle.lc_outline.specs.Development.{Development, first_system, invariant_of}
use Rattle.lc_outline.specs.Resolved.{are_matched, action_is_resolved, edge_is_resolved, is_resolved}
use Rattle.lc_outline.specs.Scope.{is_scoped, column_total, outlines_are_scoped}
use Rattle.lc_object.specs.Edges.{edges}
use Rattle.lc_term.specs.SystemColumns.{column_count}
use Rattle.lc_seq.specs.SpecView.{column_of, operations_of}
use Rattle.lc_seq.specs.Specification.{Specification, operation_is_resolved, names_differ}
use Rattle.lc_seq.specs.TextView.{specification_of}
use Rattle.lc_seq.specs.declared.specification.TextSpec.{TextSpec}
use Rattle.lc_spec_text.proofs.Resolved.{specification_resolved}
use Rattle.lc_spec_text.specs.Specifications as Q
use Rattle.lc_outline_text.proofs.Agreed.{IsSpecificationSaid, IsOperationSaid, specification_said, operations_are_said, operations_seen, AllBranch, all_branch, operations_are_matched, has_some_branches, AllGo, all_go, go_counted, goes_at}
use Rattle.lc_outline_text.proofs.Fitting.{Fits, actions_resolved, outlines_scoped, edges_resolved}
use Rattle.lc_outline_text.proofs.ObjectOf.{IsObjectOf, object_reading_holds}
use Rattle.lc_outline_text.proofs.Outlined.{AreBodiesOf, bodies_outlined, all_points, each_point, code_points, outline_points}
use Rattle.lc_outline_text.proofs.Own.{own_there}
use Rattle.lc_outline_text.proofs.SidesHold.{AreSides, sides_hold}
use Rattle.lc_outline_text.specs.Bodies.{bodies_reading}
use Rattle.lc_outline_text.specs.Declarations.{Declarations, declarations_in, declarations_of}
use Rattle.lc_outline_text.specs.Developments.{Parts, specification_reading, signature_seen, text_seen, tables_reading, object_reading, second_form_reading, code_of, development_of, forms_reading, file_reading}
use Rattle.lc_outline_text.specs.Sides.{Sides, sides_reading}
use Rattle.lc_outline_text.specs.Sizes.{condition_count}
use Rattle.lc_outline_text.proofs.CodeAlone.{locals_fine}

-- ---- the specification

-- what is read of a specification fits what is declared, also as its object sees it
pub record SpecificationHolds (s : Sections) (q : Specification) : Type 0 where
  pub fit : SpecificationFits (declared_in_sections s) s (text_seen q)
  pub columns : length (text_seen q).abstracts ≡ length q.columns
  operations : AllBranch q.operations
  pub goes : AllGo (operations_in s) q.operations

-- where its operations are
operations_there : (t u : Tree) (ts : Trees) → form_fit (codes "spec") t ≡ fits (parts_in (codes "spec") t) → (sections_of (t ▸ u ▸ ts)).operations.trees ≡ later (later (parts_in (codes "spec") t))
operations_there t u ts fit = ap (λ f. (behind_first (behind_first (items_of_fit 0 f))).trees) fit ∙ behind_two 2 (parts_in (codes "spec") t)

pub specification_of_text : (t u : Tree) (ts : Trees) → Holds (SpecificationHolds (sections_of (t ▸ u ▸ ts))) (specification_reading (declarations_of (t ▸ u ▸ ts)) 0 t)
specification_of_text t u ts =
    let s = sections_of (t ▸ u ▸ ts) in
    let d = declared_in_sections s in
    let us = parts_in (codes "spec") t in
    let os = later (later us) in
    holds_weaker (λ q. (form_fit (codes "spec") t ≡ fits us) × IsSpecificationSaid us q) (SpecificationHolds s) (Q.specification_reading d.columns 0 t)
    (λ q h.
    (let g : IsSpecificationSaid us q = h.1 in
    let said = operations_are_said [] 0 os q.operations g.operations in
    let there = operations_there t u ts h.0 in
    let forms = some_forms (codes "op") os (each_form IsOperationSaid (codes "op") (λ i t q p. p.0) 0 os q.operations said) in
    let names : d.operations ≡ map first_text (parts_of_all (codes "op") os) = ap (map first_text) (ap (some_forms_in (codes "op")) there ∙ forms) in
    let abstracts = length-map q.columns (λ c. c.name) in
    record {
      fit =
          specification_fits t u ts (text_seen q) h.0 (record {
            abstracts = abstracts ∙ g.columns;
            operations = (g.some, operations_seen d [] 0 os q.operations refl names g.operations);
          });
      columns = abstracts;
      operations = all_branch 0 os q.operations said;
      goes = subst (λ vs. AllGo (some_forms_in (codes "op") vs) q.operations) (sym there) (all_go os q.operations said);
    }))
    (specification_said d.columns 0 t)

-- ---- the object

pub record ObjectHolds (s : Sections) (p : Parts) : Type 0 where
  pub fit : ObjectFits (declared_in_sections s) s (p.0.0, map code_of p.1)
  sides : AreSides (declarations_in s) s p.0.1
  bodies : AreBodiesOf (declarations_in s) 0 p.1

abbrev HaveOutlines : Sections → Parts → Type 0
HaveOutlines s p = AreSides (declarations_in s) s p.0.1 × AreBodiesOf (declarations_in s) 0 p.1

outlines_read : (s : Sections) (n : ℕ) → Holds (HaveOutlines s) (object_reading (declarations_in s) s n)
outlines_read s n =
    let d = declarations_in s in
    both_holds (λ (x : O.Tables × Sides). AreSides d s x.1) (AreBodiesOf d 0) (HaveOutlines s) pair (tables_reading d s n) (bodies_reading d n s.bodies.number s.bodies.trees)
    (both_holds (λ x. Unit {0}) (AreSides d s) (λ (x : O.Tables × Sides). AreSides d s x.1) pair (O.tables_reading d.declared s n) (sides_reading d s n) (holds_unit (O.tables_reading d.declared s n)) (sides_hold d s n) (λ a b h g. g))
    (bodies_outlined d n s.bodies.number s.bodies.trees) (λ a b h g. (h, g))

pub object_of_text : (s : Sections) (n : ℕ) → Holds (ObjectHolds s) (object_reading (declarations_in s) s n)
object_of_text s n =
    let d = declarations_in s in
    let r = object_reading d s n in
    holds_weaker (λ p. IsObjectOf d s n p × HaveOutlines s p) (ObjectHolds s) r
    (λ p h. record { fit = holds_of_fine (ObjectFits d.declared s) (O.object_reading d.declared s code_alone n) (p.0.0, map code_of p.1) (object_holds d.declared s n) h.0; sides = h.1.0; bodies = h.1.1 })
    (and_holds (IsObjectOf d s n) (HaveOutlines s) r (object_reading_holds d s n) (outlines_read s n))

-- ---- counts

due_enough : (n m : ℕ) → bodies_due n ≤ m → n ≤ m
due_enough zero m h = omega arith
due_enough (suc n) m h = h

-- as many operations as are declared
operations_counted : (s : Sections) (q : Specification) → SpecificationFits (declared_in_sections s) s (text_seen q) → length q.operations ≡ length (declared_in_sections s).operations
operations_counted s q h =
    let text = text_seen q in
    let d = declared_in_sections s in
    let os = s.operations.trees in
    let forms = each_form (IsOperation d) (codes "op") (λ i t x p. p.0) 0 os text.signatures h.operations.1 in
    sym (length-map q.operations signature_seen) ∙ each_counted (IsOperation d) 0 os text.signatures h.operations.1 ∙ sym (parts_counted (codes "op") os) ∙ sym (ap length (some_forms (codes "op") os forms)) ∙ sym (length-map (operations_in s) first_text)

-- and a body for each
enough_bodies : (s : Sections) (bs : List (BodyText Point)) → AreBodies (declared_in_sections s) s.bodies.trees bs → length (declared_in_sections s).operations ≤ length bs
enough_bodies s bs h =
    let d = declared_in_sections s in
    subst (λ n. length d.operations ≤ n) (sym (each_counted _ 0 s.bodies.trees bs h.1)) (due_enough (length d.operations) (tree_count s.bodies.trees) h.0)

array_columns : (forms : List Trees) → length (columns_of_arrays forms) ≡ columns_count forms
array_columns [] = refl
array_columns (ts ∷ forms) = omega (arith, length-append (names_of_columns (later ts)) (columns_of_arrays forms), names_counted (later ts), array_columns forms)

-- the columns that are declared
pub first_auxiliary : (s : Sections) (q : Specification) (o : Parts) → SpecificationHolds s q → ObjectHolds s o → length q.columns + length (O.concretes_of o.0.0.arrays) ≡ (declared_in_sections s).auxiliaries
first_auxiliary s q o h g =
    omega (arith, length-append (abstracts_in s) (columns_of_arrays (arrays_in s)), h.columns, h.fit.abstracts, array_columns (arrays_in s), concretes_counted (arrays_in s) o.0.0.arrays g.fit.0)

all_columns : (s : Sections) (q : Specification) (o : Parts) → SpecificationHolds s q → ObjectHolds s o → first_system (development_of q o) ≡ length (declared_in_sections s).columns
all_columns s q o h g =
    let first = first_auxiliary s q o h g in
    omega (arith, first, g.sides.auxiliaries, length-append (abstracts_in s ++ columns_of_arrays (arrays_in s)) (auxiliaries_in s))

-- ---- the whole

pub fits_declared : (s : Sections) (q : Specification) (o : Parts) → SpecificationHolds s q → ObjectHolds s o → Fits (declarations_in s) (development_of q o) (all_points o.1)
fits_declared s q o h g =
    let d = declarations_in s in
    let bs = map code_of o.1 in
    let counted = operations_counted s q h.fit in
    let code = code_fits s (text_seen q) (o.0.0, bs) h.fit g.fit in
    record {
      points = code_points o.1;
      outlines = outline_points o.1;
      known = each_point d 0 o.1 g.bodies;
      operations = code.operations_fit;
      matched = operations_are_matched 0 bs q.operations (subst (λ n. n ≤ length bs) (sym counted) (enough_bodies s bs g.fit.1)) h.operations;
      counted = go_counted d.operations q.operations h.goes ∙ sym (length-map d.operations first_text);
      goes = λ k few. goes_at d.operations q.operations k h.goes (omega (arith, few, length-map d.operations first_text));
      own = λ k few. own_there s (text_seen q) (o.0.0, bs) h.fit g.fit k few;
      branched = λ k few. has_some_branches q.operations k h.operations (subst (λ n. k < n) (sym counted) few);
      columns = all_columns s q o h g;
      auxiliaries = first_auxiliary s q o h g;
      actions = g.sides.actions;
    }

-- its object is one, and it is resolved where its specification is
abbrev pub IsSound : Development → Type 0
IsSound D = (is_object D.object ≡ true) × (list_all (operation_is_resolved (length D.specification.columns)) D.specification.operations ≡ true → is_resolved D ≡ true)

whole_resolved : (s : Sections) (q : Specification) (o : Parts) → SpecificationHolds s q → ObjectHolds s o → list_all (operation_is_resolved (length q.columns)) q.operations ≡ true → is_object (development_of q o).object ≡ true
    → is_resolved (development_of q o) ≡ true
whole_resolved s q o h g spec object =
    let d = declarations_in s in
    let D = development_of q o in
    let ps = all_points o.1 in
    let fit = fits_declared s q o h g in
    let code = and_from _ (are_matched D.object.operations D.specification.operations)
    (and_from _ (length D.object.abstracts == length D.specification.columns) (and_from (is_object D.object) (list_all (operation_is_resolved (length D.specification.columns)) D.specification.operations) object spec)
    (eq-eqb (length D.object.abstracts) (length D.specification.columns) h.columns)) fit.matched in
    let within = sym (ap column_count fit.columns) in
    let sides = and_from _ (outlines_are_scoped D D.object.points D.outlines) (and_from (list_all (is_scoped (column_total D) 1) (invariant_of D)) (list_all (is_scoped (column_total D) 2) D.idle)
    (subst (λ n. list_all (is_scoped n 1) (invariant_of D) ≡ true) within g.sides.invariant) (subst (λ n. list_all (is_scoped n 2) D.idle ≡ true) within g.sides.idle)) (outlines_scoped d D ps fit) in
    and_from _ (list_all (edge_is_resolved D) (edges D.object)) (and_from _ (list_all (action_is_resolved D) D.actions) (and_from _ _ code sides) (actions_resolved d D ps fit)) (edges_resolved d D ps fit)

resolved_of : (s : Sections) (q : Specification) (o : Parts) → SpecificationHolds s q → ObjectHolds s o → IsSound (development_of q o)
resolved_of s q o h g =
    let object : is_object (development_of q o).object ≡ true = object_is s (text_seen q) (o.0.0, map code_of o.1) h.fit g.fit in
    (object, λ spec. whole_resolved s q o h g spec object)

seconds_hold : (s : Sections) (n : ℕ) (ts : Trees) → Holds (ObjectHolds s) (second_form_reading (declarations_in s) s n ts)
seconds_hold s n none = tt
seconds_hold s n (t ▸ ts) = ended_holds (ObjectHolds s) (n + item_count t) ts (object_reading (declarations_in s) s n) (object_of_text s n)

sound : (ts : Trees) → Holds IsSound (forms_reading (declarations_of ts) (sections_of ts) 0 ts)
sound none = tt
sound (t ▸ none) =
    both_holds (λ p. Unit {0}) (λ o. ⊥) IsSound development_of (specification_reading (declarations_of (t ▸ none)) 0 t) _ (holds_unit (specification_reading (declarations_of (t ▸ none)) 0 t)) tt (λ p o h g. absurd g)
sound (t ▸ u ▸ ts) =
    let s = sections_of (t ▸ u ▸ ts) in
    both_holds (SpecificationHolds s) (ObjectHolds s) IsSound development_of (specification_reading (declarations_of (t ▸ u ▸ ts)) 0 t) (second_form_reading (declarations_in s) s (0 + item_count t) (u ▸ ts))
    (specification_of_text t u ts) (seconds_hold s (0 + item_count t) (u ▸ ts)) (resolved_of s)

pub object_is_one : (ts : Trees) (D : Development) → forms_reading (declarations_of ts) (sections_of ts) 0 ts ≡ fine D → is_object D.object ≡ true
object_is_one ts D e = (holds_of_fine IsSound (forms_reading (declarations_of ts) (sections_of ts) 0 ts) D (sound ts) e).0

pub development_is_resolved : (ts : Trees) (D : Development) → forms_reading (declarations_of ts) (sections_of ts) 0 ts ≡ fine D → list_all (operation_is_resolved (length D.specification.columns)) D.specification.operations ≡ true → is_resolved D ≡ true
development_is_resolved ts D e spec = (holds_of_fine IsSound (forms_reading (declarations_of ts) (sections_of ts) 0 ts) D (sound ts) e).1 spec

-- a specification is, by its type
pub text_is_resolved : (q : TextSpec) → list_all (operation_is_resolved (length (specification_of q).columns)) (specification_of q).operations ≡ true
text_is_resolved q =
    let operations = operations_of q.operations.items in
    subst (λ n. list_all (operation_is_resolved n) operations ≡ true) (sym (length-map q.columns.items column_of)) (left_true (list_all (operation_is_resolved (length q.columns.items)) operations) (names_differ operations) q.is_resolved)

-- ---- what a file says

abbrev IsSpecified : Development → Type 0
IsSpecified D = list_all (operation_is_resolved (length D.specification.columns)) D.specification.operations ≡ true

specified : (d : Declarations) (s : Sections) (n : ℕ) (ts : Trees) → Holds IsSpecified (forms_reading d s n ts)
specified d s n none = tt
specified d s n (t ▸ ts) =
    both_holds (λ (q : Specification). list_all (operation_is_resolved (length q.columns)) q.operations ≡ true) (λ o. Unit {0}) IsSpecified development_of (specification_reading d n t)
    (second_form_reading d s (n + item_count t) ts) (specification_resolved d.declared.columns n t) (holds_unit (second_form_reading d s (n + item_count t) ts)) (λ q o h u. h)

-- the development that forms say is resolved
pub forms_resolved : (ts : Trees) (D : Development) → forms_reading (declarations_of ts) (sections_of ts) 0 ts ≡ fine D → is_resolved D ≡ true
forms_resolved ts D read =
    development_is_resolved ts D read (holds_of_fine IsSpecified (forms_reading (declarations_of ts) (sections_of ts) 0 ts) D (specified (declarations_of ts) (sections_of ts) 0 ts) read)

-- the same for a file
pub says_resolved : (ts : Trees) (D : Development) → file_reading ts ≡ fine D → is_resolved D ≡ true
says_resolved ts D e =
    let forms = forms_reading (declarations_of ts) (sections_of ts) 0 ts in
    let within = nat_lt condition_limit (condition_count (declarations_of ts) (sections_of ts)) in
    forms_resolved ts D (holds_of_fine (λ (E : Development). forms ≡ fine E) (limited within 0 forms) D (limited_holds (λ (E : Development). forms ≡ fine E) within 0 forms (locals_fine forms)) e)
