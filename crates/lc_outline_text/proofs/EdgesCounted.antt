-- The edges of a point have as many conditions as are counted from its text.
use Rattle.std.proofs.Common.{◌≡◌, ℕ, zero, suc, ◌+◌, ◌<◌, true, false, cond, List, [], ◌∷◌, ◌++◌, map, length, append-nil, Some, None, refl, sym, ap, ap₂, ◌∙◌, subst, arith}
use Rattle.std.proofs.lemmas.List.{length-map}
use Rattle.std.proofs.lemmas.List.Sums.{sum_by-cons}
use Rattle.std.specs.Prelude.{codes, slice_get, slice_index_or, sum_by}
use Rattle.lc_sexp.specs.Trees.{Trees}
use Rattle.lc_reading.proofs.Places.{place_below}
use Rattle.lc_reading.specs.Listed.{place_of}
use Rattle.lc_term.specs.Syntax.{Term, Not, And, formulas}
use Rattle.lc_term.specs.Lists.{concat_map}
use Rattle.lc_term.specs.SystemColumns.{pend}
use Rattle.lc_object.specs.Edges.{Edge, array_columns, reads, row_updates, row_facts, row_sums, edges_at}
use Rattle.lc_object.specs.Syntax as S
use Rattle.lc_object.specs.Syntax.{Instr, Operation, Point}
use Rattle.lc_object.specs.declared.instr.EdgeKind.{EdgeKind}
use Rattle.lc_object.specs.declared.instr.EdgeKind.TheVariants.{Next, Then, Else}
use Rattle.lc_object_text.proofs.BodyHolds.{shifted_target}
use Rattle.lc_object_text.specs.ObjectNames.{Body, first_text, within_first, later, row_at, body_names}
use Rattle.lc_outline.specs.Development.{Development, Outline, first_system, invariant_of, asserts_in, asserts_at, ons_in, on_for, on_at, asserts_to, in_operation, in_body}
use Rattle.lc_outline.specs.Sizes.{columns_of, EdgeSize, way_count, edge_count, columns_acted, rider_ways, returned, ended_columns, edge_size, edge_sizes}
use Rattle.lc_outline.specs.Development.{riders_in}
use Rattle.lc_outline_text.specs.Declarations.{Declarations}
use Rattle.lc_outline.specs.EdgeWords.{edge_word}
use Rattle.lc_outline_text.specs.Needs.{goes_next, branches_off}
use Rattle.lc_outline_text.specs.Sizes as Z
use Rattle.lc_outline_text.specs.Sizes.{Totals, assert_count, ons_of, count_at, reached, text_at, asked_behind, columns_written, edge_conditions, on_of, point_conditions}
use Rattle.lc_outline_text.proofs.InstructionsCounted.{IsCoded}
use Rattle.lc_outline_text.proofs.PointsCounted.{IsPointOf}
use Rattle.lc_outline_text.proofs.RidersCounted.{Agrees, on_found, edge_counted}
use Rattle.lc_outline_text.proofs.RowsCounted.{Alike}
use Rattle.lc_outline_text.proofs.SumsCounted.{point_edges, sum_one, sum_two, IsThere, Stand, point_is_there}

-- a development has these totals, and the columns that are declared
pub record Meets (d : Declarations) (D : Development) (n : Totals) : Type 0 where
  pub invariant : length (invariant_of D) ≡ n.invariant
  pub idle : length D.idle ≡ n.idle
  pub actions : length D.actions + 2 ≡ n.actions
  pub columns : first_system D ≡ length d.declared.columns
  pub own : (o : ℕ) (q : Operation) → slice_get D.object.operations o ≡ Some q → o < length d.declared.operations
  pub agrees : Agrees d D
  pub arrays : (w : List ℕ) (a width : ℕ) → row_at d.declared.spans (place_of d.declared.arrays w) ≡ Some (a, width)
      → (array_columns D.object a ≡ Z.array_columns d.declared w) × (length (Z.array_columns d.declared w) ≡ width)

-- ---- labels

-- the assertions at the point of this number
pub asserts_there : (D : Development) (p k : ℕ) (x : Point × Outline) → slice_get D.outlines p ≡ Some x.1 → length x.1.asserts ≡ k → length (asserts_at D p) ≡ k
asserts_there D p k x e h = ap (λ o. length (asserts_in o)) e ∙ h

counted_at : (d : Declarations) (b : Body) (o : ℕ) (fs : List Trees) (xs : List (Point × Outline)) (k : ℕ) → Alike (IsPointOf d b o) fs xs → k < length fs
    → (x : Point × Outline) × (slice_get xs k ≡ Some x) × (length x.1.asserts ≡ slice_index_or (map assert_count fs) k 0)
counted_at d b o [] xs k h few = absurd (omega (arith, few))
counted_at d b o (f ∷ fs) [] k h few = absurd h
counted_at d b o (f ∷ fs) (x ∷ xs) zero h few = (x, refl, h.0.asserts)
counted_at d b o (f ∷ fs) (x ∷ xs) (suc k) h few = counted_at d b o fs xs k h.1 (omega (arith, few))

-- as many as its text has
pub asserts_counted : (d : Declarations) (D : Development) (b : Body) (o p : ℕ) (fs : List Trees) (xs : List (Point × Outline)) (k : ℕ) → Alike (IsPointOf d b o) fs xs → Stand D p xs → k < length fs
    → length (asserts_at D (p + k)) ≡ slice_index_or (map assert_count fs) k 0
asserts_counted d D b o p fs xs k h all few =
    let (x, at, count) = counted_at d b o fs xs k h few in
    asserts_there D (p + k) (slice_index_or (map assert_count fs) k 0) x (point_is_there D p xs k x all at).outline count

-- a label leads to a point of the same body
abbrev pub Leads : Declarations → Development → Body → List ℕ → Type 0
Leads d D b asserts = (w : List ℕ) (l : ℕ) → (body_names d.declared b).label w ≡ Some l → length (asserts_at D l) ≡ reached b asserts w

pub labels_lead : (d : Declarations) (D : Development) (b : Body) (o : ℕ) (fs : List Trees) (xs : List (Point × Outline)) → b.labels ≡ map first_text fs → Alike (IsPointOf d b o) fs xs → Stand D b.first xs
    → Leads d D b (map assert_count fs)
labels_lead d D b o fs xs names h all w l e =
    let (k, at, is) = shifted_target b.first l (place_of b.labels w) e in
    let few : k < length fs = subst (λ m. k < m) (ap length names ∙ length-map fs first_text) (place_below b.labels w k at) in
    ap (λ m. length (asserts_at D m)) is ∙ asserts_counted d D b o b.first fs xs k h all few ∙ ap (count_at (map assert_count fs)) (sym at)

-- ---- rows

row_columns : (cs : List ℕ) (t : Term) (vs : List Term) → length cs ≡ length vs → columns_of (row_updates cs t vs) ≡ cs
row_columns [] t vs e = refl
row_columns (c ∷ cs) t [] e = absurd (omega (arith, e))
row_columns (c ∷ cs) t (v ∷ vs) e = ap (λ l. c ∷ l) (row_columns cs t vs (omega (arith, e)))

added : (cs : List ℕ) (t : Term) (ds : List Term) → length cs ≡ length ds → length (row_sums cs t ds) ≡ length ds
added [] t [] e = refl
added [] t (d ∷ ds) e = absurd (omega (arith, e))
added (c ∷ cs) t [] e = absurd (omega (arith, e))
added (c ∷ cs) t (d ∷ ds) e = ap suc (added cs t ds (omega (arith, e)))

-- ---- a point

module _ (d : Declarations) (D : Development) (n : Totals) (meets : Meets d D n) (b : Body) (o : ℕ) (q : Operation) (is : slice_get D.object.operations o ≡ Some q) (asserts : List ℕ) (lead : Leads d D b asserts) where
  abbrev asked_at : Edge → ℕ
  asked_at e = returned e.next + (length (invariant_of D) + length (asserts_to D e.next))

  abbrev columns_at : Edge → List ℕ
  columns_at e = columns_of e.updates ++ ended_columns (first_system D) e.next

  abbrev sized : Edge → List EdgeSize
  sized e = edge_size D o e ∷ []

  -- an edge by the text of its point
  edge_same : (p : ℕ) (x : Point × Outline) (ts : Trees) → IsPointOf d b o ts x → IsThere D p x → (e : Edge) (kind : EdgeKind) → e.point ≡ p → e.kind ≡ kind → (asked : ℕ) (cs : List ℕ) → asked_at e ≡ asked → columns_at e ≡ cs
      → sum_by edge_count (edge_sizes D e) ≡ edge_conditions d o (on_of (edge_word kind) (ons_of ts)) asked cs
  edge_same p x ts said at e kind here of asked cs same stored =
      let point : slice_get D.object.points e.point ≡ Some x.0 = ap (slice_get D.object.points) here ∙ at.code in
      let operation : slice_get D.object.operations x.0.operation ≡ Some q = ap (slice_get D.object.operations) said.operation ∙ is in
      let sizes : edge_sizes D e ≡ edge_size D o e ∷ [] =
      ap (in_body D.object (λ k operation. edge_size D k e ∷ [])) point ∙ ap₂ (λ k x. in_operation (λ k operation. edge_size D k e ∷ []) k x) said.operation operation in
      let on : on_at D e.point e.kind ≡ on_for x.1.ons kind = ap₂ (on_at D) here of ∙ ap (λ x. on_for (ons_in x) kind) at.outline in
      let alone : sum_by edge_count (edge_size D o e ∷ []) ≡ edge_count (edge_size D o e) = (let sum = sum_by-cons edge_count (edge_size D o e) [] in omega (arith, sum)) in
      ap (sum_by edge_count) sizes ∙ alone
      ∙ ap (λ x. way_count (columns_acted D x) (map (rider_ways D o) (riders_in x)) (asked_at e) (columns_at e)) on
      ∙ ap₂ (way_count (columns_acted D (on_for x.1.ons kind)) (map (rider_ways D o) (riders_in (on_for x.1.ons kind)))) same stored
      ∙ edge_counted d o D meets.agrees (meets.own o q is) (on_of (edge_word kind) (ons_of ts)) (on_for x.1.ons kind) (on_found d o kind (ons_of ts) x.1.ons said.ons) asked cs

  -- ---- instructions

  -- the conditions of an edge, and of a point, whose instruction has this word
  abbrev kind_with : Trees → List ℕ → EdgeKind → ℕ
  kind_with ts w kind =
      edge_conditions d o (on_of (edge_word kind) (ons_of ts)) (asked_behind n b asserts w kind (within_first (later ts))) (columns_written d.declared w kind (within_first (later ts)))

  abbrev point_with : Trees → List ℕ → ℕ
  point_with ts w = cond (goes_next w) (kind_with ts w Next) 0 + cond (branches_off w) (kind_with ts w Then + kind_with ts w Else) 0

  -- how many are asked after an edge that leads to a point
  asked_behind_label : (w : List ℕ) (l : ℕ) → (body_names d.declared b).label w ≡ Some l → 0 + (length (invariant_of D) + length (asserts_at D l)) ≡ n.invariant + reached b asserts w
  asked_behind_label w l e =
      let behind = lead w l e in
      let always = meets.invariant in omega (arith, behind, always)

  row_written : (w : List ℕ) (a : ℕ) (t : Term) (vs : List Term) → row_at d.declared.spans (place_of d.declared.arrays w) ≡ Some (a, length vs) → columns_of (row_updates (array_columns D.object a) t vs) ++ [] ≡ Z.array_columns d.declared w
  row_written w a t vs e =
      let (columns, wide) = meets.arrays w a (length vs) e in
      append-nil (columns_of (row_updates (array_columns D.object a) t vs)) ∙ ap (λ cs. columns_of (row_updates cs t vs)) columns ∙ row_columns (Z.array_columns d.declared w) t vs wide

  row_added : (w : List ℕ) (a : ℕ) (t : Term) (ds : List Term) → row_at d.declared.spans (place_of d.declared.arrays w) ≡ Some (a, length ds)
      → columns_of (row_updates (array_columns D.object a) t (row_sums (array_columns D.object a) t ds)) ++ [] ≡ Z.array_columns d.declared w
  row_added w a t ds e =
      let (columns, wide) = meets.arrays w a (length ds) e in
      let long : length (array_columns D.object a) ≡ length ds = ap length columns ∙ wide in
      let sums = row_sums (array_columns D.object a) t ds in
      row_written w a t sums (e ∙ ap (λ k. Some (a, k)) (sym (added (array_columns D.object a) t ds long)))

  module _ (p : ℕ) (x : Point × Outline) (ts : Trees) (said : IsPointOf d b o ts x) (at : IsThere D p x) where
    abbrev parts : Trees
    parts = within_first (later ts)

    abbrev total : List Edge → ℕ
    total es = sum_by edge_count (concat_map (edge_sizes D) es)

    alone : (w : List ℕ) (e : Edge) → sum_by edge_count (edge_sizes D e) ≡ kind_with ts w Next → goes_next w ≡ true → branches_off w ≡ false → first_text parts ≡ w → total (e ∷ []) ≡ point_conditions d n o b asserts ts
    alone w e h goes off word =
        let one = sum_one edge_count (edge_sizes D) e in
        let sum : total (e ∷ []) ≡ kind_with ts w Next + 0 = omega (arith, one, h) in
        sum ∙ ap₂ (λ g c. cond g (kind_with ts w Next) 0 + cond c (kind_with ts w Then + kind_with ts w Else) 0) (sym goes) (sym off) ∙ ap (point_with ts) (sym word)

    two : (w : List ℕ) (e f : Edge) → sum_by edge_count (edge_sizes D e) ≡ kind_with ts w Then → sum_by edge_count (edge_sizes D f) ≡ kind_with ts w Else → goes_next w ≡ false → branches_off w ≡ true → first_text parts ≡ w
        → total (e ∷ f ∷ []) ≡ point_conditions d n o b asserts ts
    two w e f h g goes off word =
        let both = sum_two edge_count (edge_sizes D) e f in
        let sum : total (e ∷ f ∷ []) ≡ 0 + (kind_with ts w Then + kind_with ts w Else) = omega (arith, both, h, g) in
        sum ∙ ap₂ (λ g c. cond g (kind_with ts w Next) 0 + cond c (kind_with ts w Then + kind_with ts w Else) 0) (sym goes) (sym off) ∙ ap (point_with ts) (sym word)

    by_code : (i : Instr) → IsCoded (body_names d.declared b) parts i → total (edges_at D.object p i) ≡ point_conditions d n o b asserts ts
    by_code (S.Load a t rs l) c =
        let e : Edge = record { point = p; kind = Next; facts = []; targets = rs; values = reads (array_columns D.object a) t; updates = []; next = Some l; replies = [] } in
        alone (codes "load") e (edge_same p x ts said at e Next refl refl _ [] (asked_behind_label (text_at 4 parts) l c.1) refl) refl refl c.0
    by_code (S.Store a t vs l) c =
        let e : Edge = record { point = p; kind = Next; facts = []; targets = []; values = []; updates = row_updates (array_columns D.object a) t vs; next = Some l; replies = [] } in
        alone (codes "store") e (edge_same p x ts said at e Next refl refl _ _ (asked_behind_label (text_at 4 parts) l c.2) (row_written (text_at 1 parts) a t vs c.1)) refl refl c.0
    by_code (S.Cas a t old new l m) c =
        let facts = row_facts (array_columns D.object a) t old in
        let e : Edge = record { point = p; kind = Then; facts = facts; targets = []; values = []; updates = row_updates (array_columns D.object a) t new; next = Some l; replies = [] } in
        let f : Edge = record { point = p; kind = Else; facts = Not (And (formulas facts)) ∷ []; targets = []; values = []; updates = []; next = Some m; replies = [] } in
        two (codes "cas") e f (edge_same p x ts said at e Then refl refl _ _ (asked_behind_label (text_at 5 parts) l c.2) (row_written (text_at 1 parts) a t new c.1))
        (edge_same p x ts said at f Else refl refl _ [] (asked_behind_label (text_at 6 parts) m c.3) refl) refl refl c.0
    by_code (S.Set rs vs l) c =
        let e : Edge = record { point = p; kind = Next; facts = []; targets = rs; values = vs; updates = []; next = Some l; replies = [] } in
        alone (codes "set") e (edge_same p x ts said at e Next refl refl _ [] (asked_behind_label (text_at 2 parts) l c.1) refl) refl refl c.0
    by_code (S.Faa a t rs ds l) c =
        let columns = array_columns D.object a in
        let e : Edge =
        record { point = p; kind = Next; facts = []; targets = rs; values = reads columns t; updates = row_updates columns t (row_sums columns t ds); next = Some l; replies = [] } in
        alone (codes "faa") e (edge_same p x ts said at e Next refl refl _ _ (asked_behind_label (text_at 5 parts) l c.2) (row_added (text_at 1 parts) a t ds c.1)) refl refl c.0
    by_code (S.If g l m) c =
        let e : Edge = record { point = p; kind = Then; facts = g ∷ []; targets = []; values = []; updates = []; next = Some l; replies = [] } in
        let f : Edge = record { point = p; kind = Else; facts = Not g ∷ []; targets = []; values = []; updates = []; next = Some m; replies = [] } in
        two (codes "if") e f (edge_same p x ts said at e Then refl refl _ [] (asked_behind_label (text_at 2 parts) l c.1) refl)
        (edge_same p x ts said at f Else refl refl _ [] (asked_behind_label (text_at 3 parts) m c.2) refl) refl refl c.0
    by_code (S.Return vs) c =
        let e : Edge = record { point = p; kind = Next; facts = []; targets = []; values = []; updates = []; next = None; replies = vs } in
        let invariant = meets.invariant in
        let idle = meets.idle in
        let asked : 1 + (length (invariant_of D) + length D.idle) ≡ n.invariant + (1 + n.idle) = omega (arith, invariant, idle) in
        alone (codes "return") e (edge_same p x ts said at e Next refl refl _ _ asked (ap (λ m. pend m ∷ []) meets.columns)) refl refl c

    -- as many as are counted from its text
    pub point_counted : point_edges D p x.0 ≡ point_conditions d n o b asserts ts
    point_counted = by_code x.0.instruction said.code
