-- The sizes of a development come to as many conditions as are counted from the forms that say it.
use Rattle.std.proofs.Common.{◌≡◌, ℕ, ◌+◌, ◌*◌, ◌≤◌, List, ◌++◌, map, length, append_assoc, sym, ap, ap₂, ◌∙◌, subst, arith}
use Rattle.std.proofs.lemmas.List.{length-map}
use Rattle.std.specs.Prelude.{codes, slice_get, sum_by}
use Rattle.lc_sexp.specs.Parts.{fits, form_fit}
use Rattle.lc_sexp.specs.TreeCode.{tree_count}
use Rattle.lc_sexp.specs.Trees.{Tree, Trees, none, ◌▸◌, item_count}
use Rattle.lc_reading.proofs.Holding.{Holds, holds_of_fine, holds_unit, both_holds, ended_holds, holds_weaker, and_holds}
use Rattle.lc_reading.specs.Readings.{fine}
use Rattle.lc_text.specs.Terms.{pair}
use Rattle.lc_term.specs.Lists.{concat_map, concat_places}
use Rattle.lc_seq.specs.Specification.{Operation, Specification}
use Rattle.lc_spec_text.specs.Specifications as Q
use Rattle.lc_object.specs.Edges.{edges}
use Rattle.lc_object.specs.Syntax.{Point}
use Rattle.lc_object_text.proofs.ArrayHolds.{HaveSpans, spans_have}
use Rattle.lc_object_text.proofs.Holding.{Each}
use Rattle.lc_object_text.specs.ObjectNames.{first_text, later, call_of, parts_in_first, names_of_columns, columns_of_arrays, spans_from, bodies_due, abstracts_in, arrays_in, auxiliaries_in, operations_in, declared_in_sections}
use Rattle.lc_object_text.specs.Objects as O
use Rattle.lc_object_text.specs.Sections.{Sections, items_of_fit, items_in, behind_first, parts_in, some_forms_in, sections_of}
use Rattle.lc_outline.specs.Development.{Development, Outline}
use Rattle.lc_outline.specs.Sizes.{edge_count, edge_sizes, assert_sizes, count, sizes_of}
use Rattle.lc_outline_text.proofs.Assembled.{SpecificationHolds, specification_of_text, ObjectHolds, object_of_text, fits_declared}
use Rattle.lc_outline_text.proofs.Fitting.{matched_below}
use Rattle.lc_outline_text.proofs.Outlined.{all_points}
use Rattle.lc_outline_text.specs.Bodies.{bodies_reading}
use Rattle.lc_outline_text.specs.Declarations.{Declarations, declarations_in, declarations_of}
use Rattle.lc_outline_text.specs.Developments.{specification_reading, text_seen, Parts, tables_reading, object_reading, second_form_reading, development_of, forms_reading}
use Rattle.lc_outline_text.specs.Sides.{Sides, sides_reading}
use Rattle.lc_outline_text.specs.Sizes.{Totals, totals_of, condition_count}
use Rattle.lc_outline_text.proofs.ArraysCounted.{array_said}
use Rattle.lc_outline_text.proofs.BodiesCounted.{code_in, point_asserts, ArePlaced, bodies_are_placed, bodies_counted}
use Rattle.lc_outline_text.proofs.BranchesCounted.{IsOperationOf, own_names, AreOperationsOf, specification_said}
use Rattle.lc_outline_text.proofs.EdgesCounted.{Meets}
use Rattle.lc_outline_text.proofs.MarksCounted.{in_order_said, by_name_said}
use Rattle.lc_outline_text.proofs.PointsCounted.{IsDue, bodies_said}
use Rattle.lc_outline_text.proofs.RowsCounted.{Alike, alike_length}
use Rattle.lc_outline_text.proofs.SidesCounted.{IsActionOf, AreSidesOf, sides_said, acted_said}
use Rattle.lc_outline_text.proofs.SumsCounted.{over, point_edges, edges_sum, places_sum, points_stand}
use Rattle.lc_outline_text.proofs.UpdatesCounted.{Leads, own_names_lead}
use Rattle.lc_object_text.proofs.ObjectHolds.{behind_one, behind_two}

-- ---- the specification

-- its operations are those of the section
abbrev IsSpecified : Sections → Specification → Type 0
IsSpecified s q = Alike (IsOperationOf (declared_in_sections s).columns) (operations_in s) q.operations

operations_said : (t u : Tree) (ts : Trees) (qs : List Operation) → form_fit (codes "spec") t ≡ fits (parts_in (codes "spec") t) → AreOperationsOf (parts_in (codes "spec") t) qs
    → Alike (IsOperationOf (declared_in_sections (sections_of (t ▸ u ▸ ts))).columns) (operations_in (sections_of (t ▸ u ▸ ts))) qs
operations_said t u ts qs fit h =
    let s = sections_of (t ▸ u ▸ ts) in
    let d = declared_in_sections s in
    let us = parts_in (codes "spec") t in
    let items : items_in (codes "spec") 0 t ≡ record { number = 2; trees = us } = ap (items_of_fit 0) fit in
    let abstracts : s.abstracts.trees ≡ later us = ap (λ i. (behind_first i).trees) items ∙ behind_one 2 us in
    let operations : s.operations.trees ≡ later (later us) = ap (λ i. (behind_first (behind_first i)).trees) items ∙ behind_two 2 us in
    let others = columns_of_arrays (arrays_in s) ++ auxiliaries_in s in
    let all : abstracts_in s ++ others ≡ d.columns = sym (append_assoc (abstracts_in s) (columns_of_arrays (arrays_in s)) (auxiliaries_in s)) in
    let own : abstracts_in s ≡ own_names us = ap (λ ts. names_of_columns (parts_in_first (codes "abstract") ts)) abstracts in
    let first : Leads (own_names us) d.columns = subst (λ ws. Leads ws d.columns) own (subst (Leads (abstracts_in s)) all (own_names_lead (abstracts_in s) others)) in
    subst (λ ts. Alike (IsOperationOf d.columns) (some_forms_in (codes "op") ts) qs) (sym operations) (h d.columns first)

specified : (t u : Tree) (ts : Trees) → Holds (IsSpecified (sections_of (t ▸ u ▸ ts))) (specification_reading (declarations_of (t ▸ u ▸ ts)) 0 t)
specified t u ts =
    let s = sections_of (t ▸ u ▸ ts) in
    let d = declared_in_sections s in
    holds_weaker (λ (q : Specification). (form_fit (codes "spec") t ≡ fits (parts_in (codes "spec") t)) × AreOperationsOf (parts_in (codes "spec") t) q.operations) (IsSpecified s)
    (Q.specification_reading d.columns 0 t) (λ q h. operations_said t u ts q.operations h.0 h.1) (specification_said d.columns 0 t)

-- ---- the object

abbrev ArePartsOf : Sections → Parts → Type 0
ArePartsOf s o = AreSidesOf (declarations_in s) s o.0.1 × Each (IsDue (declarations_in s)) 0 s.bodies.trees o.1

parts_said : (s : Sections) (n : ℕ) → Holds (ArePartsOf s) (object_reading (declarations_in s) s n)
parts_said s n =
    let d = declarations_in s in
    let HasSides : O.Tables × Sides → Type 0 = λ x. AreSidesOf d s x.1 in
    both_holds HasSides (Each (IsDue d) 0 s.bodies.trees) (ArePartsOf s) pair (tables_reading d s n) (bodies_reading d n s.bodies.number s.bodies.trees)
    (both_holds (λ x. Unit {0}) (AreSidesOf d s) HasSides pair (O.tables_reading d.declared s n) (sides_reading d s n) (holds_unit (O.tables_reading d.declared s n)) (sides_said d s n) (λ x y u h. h))
    (bodies_said d n s.bodies.number s.bodies.trees) (λ x y h g. (h, g))

-- ---- the whole

abbrev IsSpecification : Sections → Specification → Type 0
IsSpecification s q = SpecificationHolds s q × IsSpecified s q

abbrev IsObject : Sections → Parts → Type 0
IsObject s o = ObjectHolds s o × ArePartsOf s o

module _ (s : Sections) (q : Specification) (o : Parts) (h : IsSpecification s q) (g : IsObject s o) where
  abbrev d : Declarations
  d = declarations_in s

  abbrev D : Development
  D = development_of q o

  abbrev n : Totals
  n = totals_of d s

  abbrev ps : List (Point × Outline)
  ps = all_points o.1

  meets : Meets d D n
  meets =
      let fit = fits_declared s q o h.0 g.0 in
      let sides = g.1.0 in
      let actions = alike_length (IsActionOf d.declared.columns) d.actions D.actions sides.actions in
      let spans : HaveSpans d.declared.spans D.object.arrays =
      subst (λ k. HaveSpans (spans_from k (arrays_in s)) D.object.arrays) h.0.fit.abstracts (spans_have (length (text_seen q).abstracts) (arrays_in s) o.0.0.arrays g.0.fit.0) in
      record {
        invariant = length-map D.conjuncts (λ c. c.formula) ∙ sides.invariant;
        idle = sides.idle;
        actions = omega (arith, actions);
        columns = fit.columns;
        own = λ o r is. omega (arith, fit.counted, matched_below D.object.operations D.specification.operations o r fit.matched is);
        agrees = record {
          own = fit.own;
          in_order = in_order_said d D fit.columns (length-map d.operations first_text) h.0.goes h.1;
          by_name = by_name_said d D fit.columns (length-map d.operations first_text) h.0.goes h.1;
          acted = acted_said d D.actions sides.actions;
        };
        arrays = array_said d.declared D.object.arrays spans;
      }

  placed_all : ArePlaced d 0 0 d.declared.bodies s.bodies.trees o.1
  placed_all =
      let ops = operations_in s in
      let few : bodies_due (length ops) ≤ tree_count s.bodies.trees = subst (λ k. bodies_due k ≤ tree_count s.bodies.trees) (length-map ops first_text) g.0.fit.1.0 in
      bodies_are_placed d (map first_text ops) (map call_of ops) 0 0 (bodies_due (length ops)) s.bodies.trees o.1 g.1.1 few (λ j. let e : 0 + j ≡ j = omega arith in ap (slice_get d.declared.bodies) e)

  sized : count (sizes_of D) ≡ condition_count d s
  sized =
      let fit = fits_declared s q o h.0 g.0 in
      let always = meets.invariant in
      let idle = meets.idle in
      let bodies = bodies_counted d D n meets 0 0 d.declared.bodies D.object.operations s.bodies.trees o.1 fit.operations placed_all (points_stand D ps fit.points fit.outlines)
      (λ j. let e : 0 + j ≡ j = omega arith in ap (slice_get D.object.operations) e) in
      let passes : sum_by edge_count (concat_map (edge_sizes D) (edges D.object)) ≡ over (point_edges D) 0 (code_in ps) = edges_sum D 0 D.object.points ∙ ap (over (point_edges D) 0) fit.points in
      let stays : sum_by (λ m. m * (length D.actions + 2)) (concat_places (assert_sizes D) 0 D.object.points) ≡ over (point_asserts D) 0 (code_in ps) =
      places_sum (λ m. m * (length D.actions + 2)) (assert_sizes D) 0 D.object.points ∙ ap (over (point_asserts D) 0) fit.points in
      let rest : length D.idle * (length D.actions + 2) ≡ n.idle * n.actions = ap₂ (λ a b. a * b) idle meets.actions in
      omega (arith, always, idle, bodies, passes, stays, rest)

-- ---- the forms of a file

abbrev IsSized : Trees → Development → Type 0
IsSized ts D = count (sizes_of D) ≡ condition_count (declarations_of ts) (sections_of ts)

second_said : (s : Sections) (n : ℕ) (ts : Trees) → Holds (IsObject s) (second_form_reading (declarations_in s) s n ts)
second_said s n none = tt
second_said s n (t ▸ ts) =
    let r = object_reading (declarations_in s) s n in
    ended_holds (IsObject s) (n + item_count t) ts r (and_holds (ObjectHolds s) (ArePartsOf s) r (object_of_text s n) (parts_said s n))

forms_said : (ts : Trees) → Holds (IsSized ts) (forms_reading (declarations_of ts) (sections_of ts) 0 ts)
forms_said none = tt
forms_said (t ▸ none) =
    let r = specification_reading (declarations_of (t ▸ none)) 0 t in
    both_holds (λ p. Unit {0}) (λ o. ⊥) (IsSized (t ▸ none)) development_of r _ (holds_unit r) tt (λ p o h g. absurd g)
forms_said (t ▸ u ▸ ts) =
    let s = sections_of (t ▸ u ▸ ts) in
    let r = specification_reading (declarations_of (t ▸ u ▸ ts)) 0 t in
    both_holds (IsSpecification s) (IsObject s) (IsSized (t ▸ u ▸ ts)) development_of r (second_form_reading (declarations_in s) s (0 + item_count t) (u ▸ ts))
    (and_holds (SpecificationHolds s) (IsSpecified s) r (specification_of_text t u ts) (specified t u ts)) (second_said s (0 + item_count t) (u ▸ ts)) (sized s)

-- as many as are counted from the text
pub forms_sized : (ts : Trees) (D : Development) → forms_reading (declarations_of ts) (sections_of ts) 0 ts ≡ fine D → count (sizes_of D) ≡ condition_count (declarations_of ts) (sections_of ts)
forms_sized ts D e = holds_of_fine (IsSized ts) (forms_reading (declarations_of ts) (sections_of ts) 0 ts) D (forms_said ts) e
