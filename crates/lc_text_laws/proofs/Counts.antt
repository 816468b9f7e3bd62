-- Files that differ in their formulas alone declare the same names, and have as many conditions.
use Rattle.std.proofs.Common.{◌≡◌, ℕ, zero, suc, ◌+◌, ◌*◌, cond, List, [], ◌∷◌, ◌++◌, length, map, Option, Some, None, refl, sym, ap, ap₂, ◌∙◌, subst}
use Rattle.std.specs.List.{fold}
use Rattle.std.specs.Prelude.{codes, slice_get, sum, sum_by}
use Rattle.lc_sexp.specs.TreeCode.{tree_count}
use Rattle.lc_sexp.specs.Trees.{Tree, Trees, atom, list, none, ◌▸◌}
use Rattle.lc_reading.specs.Listed.{place_of, names_among}
use Rattle.lc_object.specs.declared.instr.EdgeKind.{EdgeKind}
use Rattle.lc_object.specs.declared.instr.EdgeKind.TheVariants.{Next, Then, Else}
use Rattle.lc_object_text.specs.ObjectNames.{Declared, Body, Call, first_text, within_first, later, call_named, name_at, points_in, body_of, bodies_from, bodies_due, labels_of_bodies, columns_of_arrays, spans_from, call_of, abstracts_in, arrays_in, auxiliaries_in, operations_in, declared_in_sections}
use Rattle.lc_object_text.specs.Sections.{Sections, parts_in, parts_of_fit, forms_in, some_forms_in}
use Rattle.lc_outline_text.specs.Declarations.{Declarations, parameter_count, ways_in, known_of, or_nothing, form_at}
use Rattle.lc_outline.specs.EdgeWords.{edge_word}
use Rattle.lc_outline_text.specs.Needs.{goes_next, branches_off}
use Rattle.lc_outline.specs.Sizes.{way_count}
use Rattle.lc_outline_text.specs.Sizes.{Totals, columns_stored, columns_acted, all_ways, edge_conditions, on_of, assert_count, ons_of, count_at, asked_behind, columns_written, kind_conditions, point_conditions, body_conditions, bodies_conditions, totals_of, condition_count}
use Rattle.lc_text_laws.proofs.Actions.{SameAction}
use Rattle.lc_text_laws.proofs.Kin.{Pairwise, AreBehind}
use Rattle.lc_text_laws.proofs.Points.{SamePoint, SameBody}
use Rattle.lc_text_laws.proofs.Splits.{AreForms, form_fits, parts_of_all, forms_of, some_forms}
use Rattle.lc_text_laws.proofs.Whole.{File, IsFormed, behind_auxiliaries, sections_in_file, declared_in_file, stops_arrays, stops_actions}

-- ---- the parts of lists, pair by pair

abbrev pub PairsOf : (Trees → Trees → Type 0) → List Trees → List Trees → Type 0
PairsOf R [] [] = Unit {0}
PairsOf R (ts ∷ xs) (us ∷ ys) = R ts us × PairsOf R xs ys
PairsOf R [] (us ∷ ys) = ⊥
PairsOf R (ts ∷ xs) [] = ⊥

parts_behind : (word : List ℕ) (t : Tree) (ts : Trees) → t ≡ list (atom word ▸ ts) → parts_in word t ≡ ts
parts_behind word t ts e = ap (parts_in word) e ∙ ap parts_of_fit (form_fits word ts)

module _ (word : List ℕ) (R : Trees → Trees → Type 0) where
  pub parts_related : (t u : Tree) → AreBehind word R t u → R (parts_in word t) (parts_in word u)
  parts_related t u k =
      subst (λ ts. R ts (parts_in word u)) (sym (parts_behind word t k.first k.first_is)) (subst (R k.first) (sym (parts_behind word u k.second k.second_is)) k.related)

  pub pairs_of : (ts us : Trees) → Pairwise (AreBehind word R) ts us → PairsOf R (parts_of_all word ts) (parts_of_all word us)
  pairs_of none none h = tt
  pairs_of (t ▸ ts) (u ▸ us) h = (parts_related t u h.0, pairs_of ts us h.1)
  pairs_of none (u ▸ us) h = absurd h
  pairs_of (t ▸ ts) none h = absurd h

  pub first_forms : (ts us : Trees) → Pairwise (AreBehind word R) ts us → AreForms word ts
  first_forms none none h = tt
  first_forms (t ▸ ts) (u ▸ us) h = ((h.0.first, h.0.first_is), first_forms ts us h.1)
  first_forms none (u ▸ us) h = absurd h
  first_forms (t ▸ ts) none h = absurd h

  second_forms : (ts us : Trees) → Pairwise (AreBehind word R) ts us → AreForms word us
  second_forms none none h = tt
  second_forms (t ▸ ts) (u ▸ us) h = ((h.0.second, h.0.second_is), second_forms ts us h.1)
  second_forms none (u ▸ us) h = absurd h
  second_forms (t ▸ ts) none h = absurd h

  pub some_pairs : (ts us : Trees) → Pairwise (AreBehind word R) ts us → PairsOf R (some_forms_in word ts) (some_forms_in word us)
  some_pairs ts us h =
      subst (λ xs. PairsOf R xs (some_forms_in word us)) (sym (some_forms word ts (first_forms ts us h)))
      (subst (PairsOf R (parts_of_all word ts)) (sym (some_forms word us (second_forms ts us h))) (pairs_of ts us h))

-- what is the same for each
pub same_of_each : {X : Type 0} (R : Trees → Trees → Type 0) (f : Trees → X) → ((ts us : Trees) → R ts us → f ts ≡ f us) → (xs ys : List Trees) → PairsOf R xs ys → map f xs ≡ map f ys
same_of_each R f k [] [] h = refl
same_of_each R f k (ts ∷ xs) (us ∷ ys) h = ap₂ (λ x xs. x ∷ xs) (k ts us h.0) (same_of_each R f k xs ys h.1)
same_of_each R f k [] (us ∷ ys) h = absurd h
same_of_each R f k (ts ∷ xs) [] h = absurd h

as_long : (R : Trees → Trees → Type 0) (xs ys : List Trees) → PairsOf R xs ys → length xs ≡ length ys
as_long R [] [] h = refl
as_long R (ts ∷ xs) (us ∷ ys) h = ap suc (as_long R xs ys h.1)
as_long R [] (us ∷ ys) h = absurd h
as_long R (ts ∷ xs) [] h = absurd h

-- ---- bodies declare the same

same_points : (ts us : Trees) → SameBody ts us → PairsOf SamePoint (points_in ts) (points_in us)
same_points ts us h = some_pairs (codes "point") SamePoint (later (later ts)) (later (later us)) h.2

abbrev the_body : List ℕ → ℕ → Call → List (List ℕ) → List (List ℕ) → Body
the_body operation first call locals labels = record { operation = operation; first = first; call = call; locals = locals; labels = labels }

same_body : (names : List (List ℕ)) (calls : List Call) (k p : ℕ) (ts us : Trees) → SameBody ts us → body_of names calls k p ts ≡ body_of names calls k p us
same_body names calls k p ts us h =
    ap (λ w. the_body (name_at names k) p (call_named names calls w) (names_among (within_first (later ts))) (map first_text (points_in ts))) h.0
    ∙ ap (λ xs. the_body (name_at names k) p (call_named names calls (first_text us)) (names_among xs) (map first_text (points_in ts))) h.1
    ∙ ap (the_body (name_at names k) p (call_named names calls (first_text us)) (names_among (within_first (later us))))
    (same_of_each SamePoint first_text (λ ts us r. r.0) (points_in ts) (points_in us) (same_points ts us h))

same_bodies : (names : List (List ℕ)) (calls : List Call) (k p n : ℕ) (ts us : Trees) → Pairwise (AreBehind (codes "body") SameBody) ts us → bodies_from names calls k p n ts ≡ bodies_from names calls k p n us
same_bodies names calls k p zero ts us h = refl
same_bodies names calls k p (suc n) none none h = refl
same_bodies names calls k p (suc n) (t ▸ ts) (u ▸ us) h =
    let r = parts_related (codes "body") SameBody t u h.0 in
    let points = as_long SamePoint _ _ (same_points (parts_in (codes "body") t) (parts_in (codes "body") u) r) in
    ap₂ (λ b bs. b ∷ bs) (same_body names calls k p (parts_in (codes "body") t) (parts_in (codes "body") u) r)
    (ap (λ m. bodies_from names calls (k + 1) (p + m) n ts) points ∙ same_bodies names calls (k + 1) (p + length (points_in (parts_in (codes "body") u))) n ts us h.1)
same_bodies names calls k p (suc n) none (u ▸ us) h = absurd h
same_bodies names calls k p (suc n) (t ▸ ts) none h = absurd h

-- ---- conditions, if actions differ in their guards alone

abbrev pub with_actions : Declarations → List Trees → Declarations
with_actions d forms = record { declared = d.declared; actions = forms; operations = d.operations }

module _ (d : Declarations) (xs ys : List Trees) (same : PairsOf SameAction xs ys) where
  abbrev d₁ : Declarations
  d₁ = with_actions d xs

  abbrev d₂ : Declarations
  d₂ = with_actions d ys

  names_same : map first_text xs ≡ map first_text ys
  names_same = same_of_each SameAction first_text (λ ts us r. r.0) xs ys same

  pub known_same : known_of d₁ ≡ known_of d₂
  known_same =
      ap₂ (λ (names : List (List ℕ)) (counts : List ℕ). record {
        columns = d.declared.columns;
        auxiliaries = d.declared.auxiliaries;
        operations = d.declared.operations;
        ways = map ways_in d.operations;
        actions = names;
        parameters = counts;
      }) names_same (same_of_each SameAction parameter_count (λ ts us r. ap tree_count r.1) xs ys same)

  updates_same : (fs bs : List Trees) (k : ℕ) → PairsOf SameAction fs bs → later (later (later (or_nothing (slice_get fs k)))) ≡ later (later (later (or_nothing (slice_get bs k))))
  updates_same [] [] k h = refl
  updates_same (ts ∷ fs) (us ∷ bs) zero h = h.0.2
  updates_same (ts ∷ fs) (us ∷ bs) (suc k) h = updates_same fs bs k h.1
  updates_same [] (us ∷ bs) k h = absurd h
  updates_same (ts ∷ fs) [] k h = absurd h

  placed_updates : (o : Option ℕ) → later (later (later (form_at xs o))) ≡ later (later (later (form_at ys o)))
  placed_updates None = refl
  placed_updates (Some k) = updates_same xs ys k same

  acted_same : (w : List ℕ) → columns_acted d₁ w ≡ columns_acted d₂ w
  acted_same w =
      ap (columns_stored d.declared.columns)
      (ap (λ names. later (later (later (form_at xs (place_of names w))))) names_same ∙ placed_updates (place_of (map first_text ys) w))

  edge_same : (o : ℕ) (on : Option Trees) (asked : ℕ) (columns : List ℕ) → edge_conditions d₁ o on asked columns ≡ edge_conditions d₂ o on asked columns
  edge_same o None asked columns = refl
  edge_same o (Some ts) asked columns = ap (λ stored. way_count (Some stored) (all_ways d₁ o (later ts)) asked columns) (acted_same (first_text (within_first ts)))

  abbrev kind_by : Declarations → Totals → ℕ → Body → List ℕ → Trees → List Trees → EdgeKind → ℕ
  kind_by e n o b asserts code ons kind =
      edge_conditions e o (on_of (edge_word kind) ons) (asked_behind n b asserts (first_text code) kind code) (columns_written d.declared (first_text code) kind code)

  kind_same : (n : Totals) (o : ℕ) (b : Body) (asserts : List ℕ) (ts us : Trees) (kind : EdgeKind) → SamePoint ts us → kind_conditions d₁ n o b asserts ts kind ≡ kind_conditions d₂ n o b asserts us kind
  kind_same n o b asserts ts us kind r =
      ap₂ (λ code ons. kind_by d₁ n o b asserts code (forms_in (codes "on") ons) kind) r.1 r.3
      ∙ edge_same o (on_of (edge_word kind) (ons_of us)) _ _

  abbrev by_edges : List ℕ → ℕ → ℕ → ℕ → ℕ
  by_edges w next holds fails = (cond (goes_next w) next 0) + (cond (branches_off w) (holds + fails) 0)

  point_same : (n : Totals) (o : ℕ) (b : Body) (asserts : List ℕ) (ts us : Trees) → SamePoint ts us → point_conditions d₁ n o b asserts ts ≡ point_conditions d₂ n o b asserts us
  point_same n o b asserts ts us r =
      let next = kind_same n o b asserts ts us Next r in
      let holds = kind_same n o b asserts ts us Then r in
      let fails = kind_same n o b asserts ts us Else r in
      ap (λ code. by_edges (first_text code) (kind_conditions d₁ n o b asserts ts Next) (kind_conditions d₁ n o b asserts ts Then) (kind_conditions d₁ n o b asserts ts Else)) r.1
      ∙ ap (λ m. by_edges (first_text (within_first (later us))) m (kind_conditions d₁ n o b asserts ts Then) (kind_conditions d₁ n o b asserts ts Else)) next
      ∙ ap₂ (by_edges (first_text (within_first (later us))) (kind_conditions d₂ n o b asserts us Next)) holds fails

  points_from : (n : Totals) (o : ℕ) (b : Body) (asserts : List ℕ) (m : ℕ) (fs gs : List Trees) → PairsOf SamePoint fs gs
      → fold (λ m ts. m + point_conditions d₁ n o b asserts ts) m fs ≡ fold (λ m ts. m + point_conditions d₂ n o b asserts ts) m gs
  points_from n o b asserts m [] [] h = refl
  points_from n o b asserts m (ts ∷ fs) (us ∷ gs) h =
      ap (λ k. fold (λ m ts. m + point_conditions d₁ n o b asserts ts) (m + k) fs) (point_same n o b asserts ts us h.0)
      ∙ points_from n o b asserts (m + point_conditions d₂ n o b asserts us) fs gs h.1
  points_from n o b asserts m [] (us ∷ gs) h = absurd h
  points_from n o b asserts m (ts ∷ fs) [] h = absurd h

  points_same : (n : Totals) (o : ℕ) (b : Body) (asserts : List ℕ) (fs gs : List Trees) → PairsOf SamePoint fs gs → sum_by (point_conditions d₁ n o b asserts) fs ≡ sum_by (point_conditions d₂ n o b asserts) gs
  points_same n o b asserts fs gs h = points_from n o b asserts 0 fs gs h

  abbrev body_by : Totals → List ℕ → ℕ → ℕ
  body_by n asserts points = n.invariant + count_at asserts (Some 0) + points + sum asserts * n.actions

  body_same : (n : Totals) (o : ℕ) (b : Body) (ts us : Trees) → SameBody ts us → body_conditions d₁ n o b ts ≡ body_conditions d₂ n o b us
  body_same n o b ts us r =
      let pairs = same_points ts us r in
      let counts = same_of_each SamePoint assert_count (λ ts us r. r.2) (points_in ts) (points_in us) pairs in
      ap (λ asserts. body_by n asserts (sum_by (point_conditions d₁ n o b asserts) (points_in ts))) counts
      ∙ ap (body_by n (map assert_count (points_in us))) (points_same n o b (map assert_count (points_in us)) (points_in ts) (points_in us) pairs)

  bodies_same : (n : Totals) (o : ℕ) (bs : List Body) (ts us : Trees) → Pairwise (AreBehind (codes "body") SameBody) ts us → bodies_conditions d₁ n o bs ts ≡ bodies_conditions d₂ n o bs us
  bodies_same n o [] ts us h = refl
  bodies_same n o (b ∷ bs) none none h = refl
  bodies_same n o (b ∷ bs) (t ▸ ts) (u ▸ us) h =
      ap₂ (λ m k. m + k) (body_same n o b (parts_in (codes "body") t) (parts_in (codes "body") u) (parts_related (codes "body") SameBody t u h.0)) (bodies_same n (suc o) bs ts us h.1)
  bodies_same n o (b ∷ bs) none (u ▸ us) h = absurd h
  bodies_same n o (b ∷ bs) (t ▸ ts) none h = absurd h

-- ---- files

-- the file y differs from x in formulas alone
pub record IsKin (x y : File) : Type 0 where
  pub actions : Pairwise (AreBehind (codes "action") SameAction) y.actions x.actions
  pub invariant : tree_count (parts_in (codes "invariant") y.invariant) ≡ tree_count (parts_in (codes "invariant") x.invariant)
  pub idle : tree_count (parts_in (codes "idle") y.idle) ≡ tree_count (parts_in (codes "idle") x.idle)
  pub bodies : Pairwise (AreBehind (codes "body") SameBody) y.bodies x.bodies

-- the file with these in place of its own
abbrev pub replaced : File → Trees → Tree → Tree → Trees → File
replaced x actions invariant idle bodies = record {
  spec = x.spec;
  name = x.name;
  arrays = x.arrays;
  auxiliaries = x.auxiliaries;
  actions = actions;
  invariant = invariant;
  idle = idle;
  bodies = bodies;
}

pub arrays_found : (x : File) → IsFormed x → arrays_in (sections_in_file x) ≡ parts_of_all (codes "array") x.arrays
arrays_found x formed = forms_of (codes "array") x.arrays (x.auxiliaries ▸ behind_auxiliaries x) formed.arrays (stops_arrays x formed)

pub actions_found : (x : File) → IsFormed x → (declared_in_file x).actions ≡ parts_of_all (codes "action") x.actions
actions_found x formed = forms_of (codes "action") x.actions (x.invariant ▸ x.idle ▸ x.bodies) formed.actions (stops_actions x formed)

module _ (x : File) (actions : Trees) (invariant idle : Tree) (bodies : Trees) where
  abbrev y : File
  y = replaced x actions invariant idle bodies

  module _ (formed : IsFormed x) (formed_too : IsFormed y) (kin : IsKin x y) where
    abbrev s : Sections
    s = sections_in_file x

    abbrev declared_by_parts : List Trees → List Body → Declared
    declared_by_parts arrays bs = record {
      columns = (abstracts_in s ++ columns_of_arrays arrays) ++ auxiliaries_in s;
      abstracts = length (abstracts_in s);
      auxiliaries = length (abstracts_in s ++ columns_of_arrays arrays);
      arrays = map first_text arrays;
      spans = spans_from (length (abstracts_in s)) arrays;
      operations = map first_text (operations_in s);
      calls = map call_of (operations_in s);
      points = labels_of_bodies bs;
      bodies = bs;
    }

    declared_same : declared_in_sections (sections_in_file y) ≡ declared_in_sections s
    declared_same =
        let names = map first_text (operations_in s) in
        let calls = map call_of (operations_in s) in
        ap₂ declared_by_parts (arrays_found y formed_too ∙ sym (arrays_found x formed)) (same_bodies names calls 0 0 (bodies_due (length (operations_in s))) bodies x.bodies kin.bodies)

    abbrev forms₁ : List Trees
    forms₁ = parts_of_all (codes "action") actions

    abbrev forms₂ : List Trees
    forms₂ = parts_of_all (codes "action") x.actions

    same_actions : PairsOf SameAction forms₁ forms₂
    same_actions = pairs_of (codes "action") SameAction actions x.actions kin.actions

    -- what the file declares is what that one declares, with its own actions
    pub declarations_same : declared_in_file y ≡ with_actions (declared_in_file x) forms₁
    declarations_same =
        ap₂ (λ (d : Declared) (forms : List Trees). record { declared = d; actions = forms; operations = operations_in s }) declared_same (actions_found y formed_too)

    its_own : with_actions (declared_in_file x) forms₂ ≡ declared_in_file x
    its_own = ap (with_actions (declared_in_file x)) (sym (actions_found x formed))

    pub known_kin : known_of (with_actions (declared_in_file x) forms₁) ≡ known_of (declared_in_file x)
    known_kin = known_same (declared_in_file x) forms₁ forms₂ same_actions ∙ ap known_of its_own

    abbrev totals : ℕ → ℕ → ℕ → Totals
    totals m n k = record { invariant = m; idle = n; actions = 2 + k }

    abbrev count_by : Declarations → Totals → Trees → ℕ
    count_by d n ts = n.invariant + n.idle + bodies_conditions d n 0 d.declared.bodies ts + n.idle * n.actions

    totals_same : totals_of (with_actions (declared_in_file x) forms₁) (sections_in_file y) ≡ totals_of (with_actions (declared_in_file x) forms₂) s
    totals_same =
        ap₂ (λ m n. totals m n (length forms₁)) kin.invariant kin.idle
        ∙ ap (totals (tree_count (parts_in (codes "invariant") x.invariant)) (tree_count (parts_in (codes "idle") x.idle))) (as_long SameAction forms₁ forms₂ same_actions)

    -- as many conditions
    pub counts_same : condition_count (declared_in_file y) (sections_in_file y) ≡ condition_count (declared_in_file x) s
    counts_same =
        let d = declared_in_file x in
        let n = totals_of (with_actions d forms₂) s in
        ap (λ d. condition_count d (sections_in_file y)) declarations_same
        ∙ ap (λ n. count_by (with_actions d forms₁) n bodies) totals_same
        ∙ ap (λ m. n.invariant + n.idle + m + n.idle * n.actions) (bodies_same d forms₁ forms₂ same_actions n 0 d.declared.bodies bodies x.bodies kin.bodies)
        ∙ ap (λ d. condition_count d s) its_own
