-- The conditions of paths, one after another, and of an edge in its body.
use Rattle.std.proofs.Common.{◌≡◌, ℕ, suc, ◌+◌, ◌<◌, Option, Some, None, List, [], ◌∷◌, ◌++◌, map, take, length, get_or, sym, ap, ◌∙◌, arith, append_assoc, append-nil, add-zero}
use Rattle.std.specs.Prelude.{option_map, slice_get}
use Rattle.std.proofs.lemmas.List.{map-append, take_more, length-map, length-take-le}
use Rattle.lc_term.specs.Lists.{concat_map, concat_places}
use Rattle.lc_table.specs.NodeTables.{Table}
use Rattle.lc_term.specs.Syntax.{Formula}
use Rattle.lc_table.specs.Tables.{formulas_in}
use Rattle.lc_seq.specs.Specification as Q
use Rattle.lc_object.specs.Syntax.{Operation, Point, Object}
use Rattle.lc_object.specs.Edges.{Edge}
use Rattle.lc_outline.specs.Development.{Development, first_system, invariant_of, riders_in, in_body, in_operation, asserts_to}
use Rattle.lc_rider.specs.Rider.{Rider}
use Rattle.lc_rider.specs.Paths.{Path, paths, edge_variables, path_start}
use Rattle.lc_cond.specs.Conditions as S
use Rattle.lc_cond.specs.Conditions.{path_conditions, edge_conditions_in, at_end, conditions_of, on_path}
use Rattle.lc_cond.specs.Scenes.{IsSceneOf, on_in, duty_conditions, outcome_conditions, path_conditions_in, reply_conditions, on_conditions_in, told_in, development_in, code_in}
use Rattle.lc_cond.specs.declared.scene.Scene.{Scene}
use Rattle.lc_term.proofs.Lists.{joined_last}

pub concat_places-snoc : {A B : Type 0} (f : ℕ → A → List B) (k : ℕ) (xs : List A) (y : A) → concat_places f k (xs ++ y ∷ []) ≡ concat_places f k xs ++ f (k + length xs) y
concat_places-snoc f k [] y = append-nil (f k y) ∙ ap (λ n. f n y) (sym (add-zero k))
concat_places-snoc f k (x ∷ xs) y =
    let e : suc k + length xs ≡ k + length (x ∷ xs) = omega arith in
    ap (λ l. f k x ++ l) (concat_places-snoc f (suc k) xs y ∙ ap (λ n. concat_places f (suc k) xs ++ f n y) e) ∙ sym (append_assoc (f k x) (concat_places f (suc k) xs) (f (k + length (x ∷ xs)) y))

-- what comes of one more
pub places_more : {A B C : Type 0} (f : ℕ → A → List B) (view : C → A) (xs : List C) (i : ℕ) (x : C) → i < length xs → x ≡ get_or xs i x →
    concat_places f 0 (map view (take (i + 1) xs)) ≡ concat_places f 0 (map view (take i xs)) ++ f i (view x)
places_more f view xs i x below is =
    let split : take (i + 1) xs ≡ take i xs ++ x ∷ [] = take_more xs i x below ∙ ap (λ y. take i xs ++ y ∷ []) (sym is) in
    let seen = length-map (take i xs) view ∙ length-take-le i xs (omega arith) in
    let place : 0 + length (map view (take i xs)) ≡ i = omega (arith, seen) in
    ap (λ l. concat_places f 0 (map view l)) split ∙ ap (concat_places f 0) (map-append view (take i xs) (x ∷ [])) ∙ concat_places-snoc f 0 (map view (take i xs)) (view x)
    ∙ ap (λ n. concat_places f 0 (map view (take i xs)) ++ f n (view x)) place

-- what its marks ask for, and what else is asked
pub path_said : (s : Scene) (j : ℕ) (hs : List Formula) (p : Path) → duty_conditions s j hs p.duties ++ outcome_conditions s j (hs ++ p.facts) p ≡ path_conditions_in s j hs p
path_said s j hs p =
    let all = hs ++ p.facts in
    let σ = at_end (first_system (development_in s)) (code_in s).next p.columns in
    let holds = conditions_of (on_path S.Invariant (code_in s) s.count j) all (map (told_in s σ) (invariant_of (development_in s))) in
    let next = conditions_of (on_path S.NextKind (code_in s) s.count j) all (map (told_in s σ) (asserts_to (development_in s) (code_in s).next)) in
    ap (λ l. duty_conditions s j hs p.duties ++ (reply_conditions s j all p.columns ++ l)) (append_assoc holds next (on_conditions_in s j all σ))

-- an edge by its scene
pub edge_said : (ts : Table) (D : Development) (o : ℕ) (operation : Operation) (e : Edge) (s : Scene) (ops : List Q.Operation) (first : ℕ) (riders : List Rider) (ps : List Path) → IsSceneOf ts D o operation e s →
    ps ≡ paths ops first 0 o (edge_variables s.count e) riders (path_start e) → ops ≡ D.specification.operations → first ≡ first_system D → riders ≡ riders_in (on_in s) →
    concat_places (λ j p. path_conditions_in s j (formulas_in ts s.hypotheses.items) p) 0 ps ≡ edge_conditions_in D o operation e
edge_said ts D o operation e s ops first riders ps is paths_are ops_are first_is riders_are =
    let there = riders_are ∙ ap riders_in is.on in
    let all = paths_are ∙ (λ i. paths (ops_are i) (first_is i) 0 o (edge_variables (is.count i) e) (there i) (path_start e)) in
    λ i. concat_places (path_conditions (is.development i) (is.code i) (is.count i) (is.on i) (is.known i)) 0 (all i)

-- an edge at a point of a body, and at none
pub in_body_said : {A : Type 0} (object : Object) (f : ℕ → Operation → List A) (o : Option Point) (k : ℕ) → Some k ≡ option_map (λ (p : Point). p.operation) o → in_body object f o ≡ in_operation f k (slice_get object.operations k)
in_body_said object f None k h = cc
in_body_said object f (Some p) k h = let e : p.operation ≡ k = cc in ap (λ n. in_operation f n (slice_get object.operations n)) e

pub in_operation_said : {A : Type 0} (f : ℕ → Operation → List A) (k : ℕ) (o : Option Operation) (operation : Operation) → Some operation ≡ o → in_operation f k o ≡ f k operation
in_operation_said f k o operation h = ap (in_operation f k) (sym h)

-- what comes of one more, whatever its place is
pub mapped_more : {A B C : Type 0} (f : A → List B) (view : C → A) (xs : List C) (i : ℕ) (x : C) → i < length xs → x ≡ get_or xs i x → concat_map f (map view (take (i + 1) xs)) ≡ concat_map f (map view (take i xs)) ++ f (view x)
mapped_more f view xs i x below is =
    ap (λ l. concat_map f (map view l)) (take_more xs i x below ∙ ap (λ y. take i xs ++ y ∷ []) (sym is)) ∙ ap (concat_map f) (map-append view (take i xs) (x ∷ [])) ∙ joined_last f (map view (take i xs)) (view x)
