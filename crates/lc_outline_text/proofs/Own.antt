-- In a text without flaws the body at a place names the operation at this place.
use Rattle.std.proofs.Common.{◌≡◌, ℕ, zero, suc, ◌+◌, ◌≤◌, ◌<◌, false, cond, List, [], ◌∷◌, map, take, length, Some, refl, sym, ap, ◌∙◌, subst, arith}
use Rattle.std.proofs.lemmas.Bool.{or_parts}
use Rattle.std.proofs.lemmas.List.{length-map}
use Rattle.std.specs.List.{list_any}
use Rattle.std.specs.Prelude.{codes, option_map, slice_get}
use Rattle.lc_sexp.specs.TreeCode.{tree_count}
use Rattle.lc_sexp.specs.Trees.{Trees, none, ◌▸◌}
use Rattle.lc_reading.specs.Listed.{place_of}
use Rattle.lc_reading.specs.Words.{is}
use Rattle.lc_object.specs.Syntax.{Point}
use Rattle.lc_object_text.proofs.Holding.{Each, each_form, some_forms, parts_of_all, parts_counted}
use Rattle.lc_object_text.proofs.ObjectHolds.{SpecificationFits, ObjectFits, code_fits}
use Rattle.lc_object_text.proofs.SignatureHolds.{IsOperation}
use Rattle.lc_object_text.specs.ObjectNames.{Declared, Body, Call, first_text, name_or, name_at, points_in, bodies_from, bodies_due, operations_in, declared_in_sections}
use Rattle.lc_object_text.specs.Objects.{Signature, SpecificationText, Tables}
use Rattle.lc_object_text.specs.Points.{BodyText}
use Rattle.lc_object_text.specs.Sections.{Sections, parts_in}
use Rattle.lc_rider_text.specs.Known.{entry_at}
use Rattle.lc_outline_text.proofs.Fitting.{operation_of_body}
use Rattle.lc_outline_text.specs.Declarations.{declarations_in, known_of, ways_called, ways_of_body, own_ways}
use Rattle.lc_text.proofs.Printed.{same_refl}

-- a name that occurs nowhere before has its first place here
placed_first : (names : List (List ℕ)) (k : ℕ) (w : List ℕ) → slice_get names k ≡ Some w → list_any (is w) (take k names) ≡ false → place_of names w ≡ Some k
placed_first [] k w e new = absurd (cc)
placed_first (v ∷ names) zero w e new =
    let same : v ≡ w = cc in
    subst (λ x. place_of (x ∷ names) w ≡ Some 0) (sym same) (ap (λ b. cond b (Some 0) (option_map suc (place_of names w))) (same_refl w))
placed_first (v ∷ names) (suc k) w e new =
    let apart = or_parts (is w v) (list_any (is w) (take k names)) new in
    ap (λ b. cond b (Some 0) (option_map suc (place_of names w))) apart.0 ∙ ap (option_map suc) (placed_first names k w e apart.1)

-- the name of an operation that is read occurs nowhere before
record IsNew (d : Declared) (names : List (List ℕ)) (i k : ℕ) : Type 0 where
  name : List ℕ
  there : slice_get names i ≡ Some name
  new : list_any (is name) (take k d.operations) ≡ false

new_there : (d : Declared) (k i : ℕ) (os : Trees) (ss : List Signature) → Each (IsOperation d) k os ss → i < tree_count os → IsNew d (map first_text (parts_of_all (codes "op") os)) i (k + i)
new_there d k i none ss h few = absurd (omega (arith, few))
new_there d k i (t ▸ os) [] h few = absurd h
new_there d k zero (t ▸ os) (s ∷ ss) h few =
    let w = first_text (parts_in (codes "op") t) in
    record { name = w; there = refl; new = subst (λ n. list_any (is w) (take n d.operations) ≡ false) (omega arith) h.0.1.new }
new_there d k (suc i) (t ▸ os) (s ∷ ss) h few =
    let r = new_there d (k + 1) i os ss h.1 (omega (arith, few)) in
    record { name = r.name; there = r.there; new = subst (λ n. list_any (is r.name) (take n d.operations) ≡ false) (omega arith) r.new }

-- the operation of a body is expected at its place
record IsBodyThere (names : List (List ℕ)) (bodies : List Body) (i k : ℕ) : Type 0 where
  body : Body
  there : slice_get bodies i ≡ Some body
  due : body.operation ≡ name_at names k

body_there : (names : List (List ℕ)) (calls : List Call) (k p n i : ℕ) (ts : Trees) → i < n → n ≤ tree_count ts → IsBodyThere names (bodies_from names calls k p n ts) i (k + i)
body_there names calls k p zero i ts few many = absurd (omega (arith, few))
body_there names calls k p (suc n) i none few many = absurd (omega (arith, many))
body_there names calls k p (suc n) zero (t ▸ ts) few many = record { body = _; there = refl; due = ap (name_at names) (omega arith) }
body_there names calls k p (suc n) (suc i) (t ▸ ts) few many =
    let r = body_there names calls (k + 1) (p + length (points_in (parts_in (codes "body") t))) n i ts (omega (arith, few)) (omega (arith, many)) in
    record { body = r.body; there = r.there; due = r.due ∙ ap (name_at names) (omega arith) }

all_due : (n k : ℕ) → k < n → k < bodies_due n
all_due zero k few = absurd (omega (arith, few))
all_due (suc n) k few = few

pub own_there : (s : Sections) (text : SpecificationText) (object : Tables × List (BodyText Point)) → SpecificationFits (declared_in_sections s) s text → ObjectFits (declared_in_sections s) s object
    → (o : ℕ) → o < length (declared_in_sections s).operations → own_ways (declarations_in s) o ≡ slice_get (known_of (declarations_in s)).ways o
own_there s text object h g o few =
    let d = declared_in_sections s in
    let all = declarations_in s in
    let os = s.operations.trees in
    let forms = each_form (IsOperation d) (codes "op") (λ i t x p. p.0) 0 os text.signatures h.operations.1 in
    let ops : operations_in s ≡ parts_of_all (codes "op") os = some_forms (codes "op") os forms in
    let count : length (operations_in s) ≡ tree_count os = ap length ops ∙ parts_counted (codes "op") os in
    let names : length d.operations ≡ length (operations_in s) = length-map (operations_in s) first_text in
    let x = new_there d 0 o os text.signatures h.operations.1 (omega (arith, few, names, count)) in
    let there : slice_get d.operations o ≡ Some x.name = ap (λ fs. slice_get (map first_text fs) o) ops ∙ x.there in
    let new : list_any (is x.name) (take o d.operations) ≡ false = subst (λ n. list_any (is x.name) (take n d.operations) ≡ false) (omega arith) x.new in
    let place : place_of d.operations x.name ≡ Some o = placed_first d.operations o x.name there new in
    let due = bodies_due (length (operations_in s)) in
    let enough : due ≤ tree_count s.bodies.trees = subst (λ n. bodies_due n ≤ tree_count s.bodies.trees) names g.1.0 in
    let y = body_there d.operations d.calls 0 0 due o s.bodies.trees (all_due (length (operations_in s)) o (omega (arith, few, names))) enough in
    let called : y.body.operation ≡ x.name = y.due ∙ ap (name_at d.operations) (omega arith) ∙ ap name_or there in
    let (operation, at, fit) = operation_of_body d.bodies _ o y.body (code_fits s text object h g).operations_fit y.there in
    ap (ways_of_body all) y.there ∙ ap (ways_called all y.body.operation) fit.replies ∙ ap (λ w. entry_at (known_of all).ways (place_of d.operations w)) called ∙ ap (entry_at (known_of all).ways) place
