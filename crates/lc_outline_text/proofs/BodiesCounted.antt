-- The bodies of a development have as many conditions as are counted from their texts.
use Rattle.std.proofs.Common.{◌≡◌, ℕ, zero, suc, ◌+◌, ◌*◌, ◌≤◌, ◌<◌, List, [], ◌∷◌, ◌++◌, map, length, Some, refl, sym, ap, ap₂, ◌∙◌, subst, arith}
use Rattle.std.proofs.Math.Nat.{add-mul}
use Rattle.std.proofs.lemmas.List.{length-map, map-append}
use Rattle.std.proofs.lemmas.List.Sums.{sum_by-cons}
use Rattle.std.specs.Prelude.{codes, slice_get, slice_index_or, sum, sum_by}
use Rattle.lc_sexp.specs.TreeCode.{tree_count}
use Rattle.lc_sexp.specs.Trees.{Trees, none, ◌▸◌}
use Rattle.lc_object.specs.Syntax.{Operation, Point}
use Rattle.lc_object_text.proofs.BodiesHold.{AreOperationsOf}
use Rattle.lc_object_text.proofs.Holding.{Each}
use Rattle.lc_object_text.specs.ObjectNames.{Body, Call, first_text, points_in, body_of, bodies_from}
use Rattle.lc_object_text.specs.Points.{BodyText}
use Rattle.lc_object_text.specs.Sections.{parts_in}
use Rattle.lc_outline.specs.Development.{Development, Outline, invariant_of, asserts_at, in_operation}
use Rattle.lc_outline.specs.Sizes.{assert_sizes}
use Rattle.lc_outline_text.proofs.Outlined.{all_points}
use Rattle.lc_outline_text.specs.Declarations.{Declarations}
use Rattle.lc_outline_text.specs.Sizes.{Totals, assert_count, point_conditions, bodies_conditions}
use Rattle.lc_outline_text.proofs.EdgesCounted.{Meets, Leads, asserts_there, asserts_counted, labels_lead, point_counted}
use Rattle.lc_outline_text.proofs.PointsCounted.{IsPointOf, IsBodyOf, IsDue}
use Rattle.lc_outline_text.proofs.RowsCounted.{Alike, alike_length}
use Rattle.lc_outline_text.proofs.SumsCounted.{over, over_joined, point_edges, Stand, stand_first, stand_behind}

-- ---- where bodies begin

-- a body of the i-th operation, whose first point has the number p
pub record IsPlaced (d : Declarations) (b : Body) (i p : ℕ) (us : Trees) (x : BodyText (Point × Outline)) : Type 0 where
  pub first : b.first ≡ p
  pub labels : b.labels ≡ map first_text (points_in us)
  pub body : IsBodyOf d b i us x

abbrev pub ArePlaced : Declarations → ℕ → ℕ → List Body → Trees → List (BodyText (Point × Outline)) → Type 0
ArePlaced d i p [] none [] = Unit {0}
ArePlaced d i p (b ∷ bs) (t ▸ ts) (x ∷ xs) = IsPlaced d b i p (parts_in (codes "body") t) x × ArePlaced d (i + 1) (p + length (points_in (parts_in (codes "body") t))) bs ts xs
ArePlaced d i p _ _ _ = ⊥

pub bodies_are_placed : (d : Declarations) (names : List (List ℕ)) (calls : List Call) (i p m : ℕ) (ts : Trees) (xs : List (BodyText (Point × Outline))) → Each (IsDue d) i ts xs → m ≤ tree_count ts
    → ((j : ℕ) → slice_get d.declared.bodies (i + j) ≡ slice_get (bodies_from names calls i p m ts) j) → ArePlaced d i p (bodies_from names calls i p m ts) ts xs
bodies_are_placed d names calls i p zero none [] h few agree = tt
bodies_are_placed d names calls i p zero none (x ∷ xs) h few agree = absurd h
bodies_are_placed d names calls i p zero (t ▸ ts) [] h few agree = absurd h
bodies_are_placed d names calls i p zero (t ▸ ts) (x ∷ xs) h few agree =
    let (b, e, body) = h.0 in
    let here : i + 0 ≡ i = omega arith in
    let at : slice_get d.declared.bodies (i + 0) ≡ Some b = ap (slice_get d.declared.bodies) here ∙ e in
    let past = agree 0 in absurd (cc)
bodies_are_placed d names calls i p (suc m) none xs h few agree = absurd (omega (arith, few))
bodies_are_placed d names calls i p (suc m) (t ▸ ts) [] h few agree = absurd h
bodies_are_placed d names calls i p (suc m) (t ▸ ts) (x ∷ xs) h few agree =
    let us = parts_in (codes "body") t in
    let own = body_of names calls i p us in
    let (b, e, body) = h.0 in
    let here : i + 0 ≡ i = omega arith in
    let at : slice_get d.declared.bodies (i + 0) ≡ Some b = ap (slice_get d.declared.bodies) here ∙ e in
    let due : slice_get d.declared.bodies (i + 0) ≡ Some own = agree 0 in
    let same : b ≡ own = cc in (
      record { first = refl; labels = refl; body = subst (λ c. IsBodyOf d c i us x) same body },
      bodies_are_placed d names calls (i + 1) (p + length (points_in us)) m ts xs h.1 (omega (arith, few)) (λ j. (let next : i + 1 + j ≡ i + suc j = omega arith in ap (slice_get d.declared.bodies) next) ∙ agree (suc j)),
    )

-- ---- the points of a body

abbrev pub code_in : List (Point × Outline) → List Point
code_in xs = map (λ (x : Point × Outline). x.0) xs

-- that what holds at a point stays under each action
abbrev pub point_asserts : Development → ℕ → Point → ℕ
point_asserts D p point = sum_by (λ m. m * (length D.actions + 2)) (assert_sizes D p point)

module _ (d : Declarations) (D : Development) (n : Totals) (meets : Meets d D n) where
  module _ (b : Body) (o : ℕ) (q : Operation) (is : slice_get D.object.operations o ≡ Some q) where
    edges_counted : (asserts : List ℕ) → Leads d D b asserts → (p : ℕ) (fs : List Trees) (xs : List (Point × Outline)) → Alike (IsPointOf d b o) fs xs → Stand D p xs
        → over (point_edges D) p (code_in xs) ≡ sum_by (point_conditions d n o b asserts) fs
    edges_counted asserts lead p [] [] h at = refl
    edges_counted asserts lead p [] (x ∷ xs) h at = absurd h
    edges_counted asserts lead p (f ∷ fs) [] h at = absurd h
    edges_counted asserts lead p (f ∷ fs) (x ∷ xs) h at =
        ap₂ (λ m k. m + k) (point_counted d D n meets b o q is asserts lead p x f h.0 at.0) (edges_counted asserts lead (suc p) fs xs h.1 at.1) ∙ sym (sum_by-cons (point_conditions d n o b asserts) f fs)

    one_asserted : (p : ℕ) (x : Point × Outline) (k : ℕ) → x.0.operation ≡ o → length (asserts_at D p) ≡ k → point_asserts D p x.0 ≡ k * n.actions
    one_asserted p x k here count =
        let operation : slice_get D.object.operations x.0.operation ≡ Some q = ap (slice_get D.object.operations) here ∙ is in
        let times : ℕ → ℕ = λ m. m * (length D.actions + 2) in
        let alone : sum_by times (length (asserts_at D p) ∷ []) ≡ times (length (asserts_at D p)) = (let sum = sum_by-cons times (length (asserts_at D p)) [] in omega (arith, sum)) in
        ap (λ x. sum_by times (in_operation (λ o operation. length (asserts_at D p) ∷ []) o x)) operation ∙ alone ∙ ap₂ (λ a c. a * c) count meets.actions

    all_asserted : (p : ℕ) (fs : List Trees) (xs : List (Point × Outline)) → Alike (IsPointOf d b o) fs xs → Stand D p xs → over (point_asserts D) p (code_in xs) ≡ sum (map assert_count fs) * n.actions
    all_asserted p [] [] h at = omega arith
    all_asserted p [] (x ∷ xs) h at = absurd h
    all_asserted p (f ∷ fs) [] h at = absurd h
    all_asserted p (f ∷ fs) (x ∷ xs) h at =
        let asserted = sum_by-cons (λ m. m) (assert_count f) (map assert_count fs) in
        let first = one_asserted p x (assert_count f) h.0.operation (asserts_there D p (assert_count f) x at.0.outline h.0.asserts) in
        ap₂ (λ m k. m + k) first (all_asserted (suc p) fs xs h.1 at.1) ∙ sym (add-mul (assert_count f) (sum (map assert_count fs)) n.actions) ∙ ap (λ m. m * n.actions) (sym asserted)

  -- ---- all bodies

  abbrev entry_size : Operation → ℕ
  entry_size o = length (asserts_at D o.entry)

  abbrev entered : ℕ → ℕ
  entered m = length (invariant_of D) + m

  abbrev BodiesCounted : ℕ → ℕ → List Body → List Operation → Trees → List (Point × Outline) → Type 0
  BodiesCounted i p bs os ts ps =
      sum_by entered (map entry_size os) + (over (point_edges D) p (code_in ps) + over (point_asserts D) p (code_in ps)) ≡ bodies_conditions d n i bs ts

  split : (F : ℕ → Point → ℕ) (p k : ℕ) (xs ys : List (Point × Outline)) → length xs ≡ k → over F p (code_in (xs ++ ys)) ≡ over F p (code_in xs) + over F (p + k) (code_in ys)
  split F p k xs ys long =
      let code = λ (x : Point × Outline). x.0 in
      ap (over F p) (map-append code xs ys) ∙ over_joined F p (code_in xs) (code_in ys) ∙ ap (λ m. over F p (code_in xs) + over F (p + m) (code_in ys)) (length-map xs code ∙ long)

  pub bodies_counted : (i p : ℕ) (bs : List Body) (os : List Operation) (ts : Trees) (xs : List (BodyText (Point × Outline))) → AreOperationsOf bs os → ArePlaced d i p bs ts xs → Stand D p (all_points xs)
      → ((j : ℕ) → slice_get D.object.operations (i + j) ≡ slice_get os j) → BodiesCounted i p bs os ts (all_points xs)
  bodies_counted i p [] [] none [] g h at agree = refl
  bodies_counted i p [] [] (t ▸ ts) xs g h at agree = absurd h
  bodies_counted i p [] [] none (x ∷ xs) g h at agree = absurd h
  bodies_counted i p [] (o ∷ os) ts xs g h at agree = absurd g
  bodies_counted i p (b ∷ bs) [] ts xs g h at agree = absurd g
  bodies_counted i p (b ∷ bs) (o ∷ os) none xs g h at agree = absurd h
  bodies_counted i p (b ∷ bs) (o ∷ os) (t ▸ ts) [] g h at agree = absurd h
  bodies_counted i p (b ∷ bs) (o ∷ os) (t ▸ ts) (x ∷ xs) g h at agree =
      let us = parts_in (codes "body") t in
      let fs = points_in us in
      let asserts = map assert_count fs in
      let alike = h.0.body.1 in
      let here : i ≡ i + 0 = omega arith in
      let next : i + 1 ≡ suc i = omega arith in
      let is : slice_get D.object.operations i ≡ Some o = ap (slice_get D.object.operations) here ∙ agree 0 in
      let own : Stand D p x.points = stand_first D p x.points (all_points xs) at in
      let long : length x.points ≡ length fs = alike_length (IsPointOf d b i) fs x.points alike in
      let lead = labels_lead d D b i fs x.points h.0.labels alike (subst (λ k. Stand D k x.points) (sym h.0.first) own) in
      let start : p ≡ p + 0 = omega arith in
      let some : 0 < length fs = (let one = h.0.body.0 in omega (arith, one)) in
      let entry : entry_size o ≡ slice_index_or asserts 0 0 = ap (λ k. length (asserts_at D k)) (g.0.entry ∙ h.0.first ∙ start) ∙ asserts_counted d D b i p fs x.points 0 alike own some in
      let first : sum_by entered (map entry_size (o ∷ os)) ≡ entered (entry_size o) + sum_by entered (map entry_size os) = sum_by-cons entered (entry_size o) (map entry_size os) in
      let passes = split (point_edges D) p (length fs) x.points (all_points xs) long in
      let stays = split (point_asserts D) p (length fs) x.points (all_points xs) long in
      let edges = edges_counted b i o is asserts lead p fs x.points alike own in
      let kept = all_asserted b i o is p fs x.points alike own in
      let rest : BodiesCounted (i + 1) (p + length fs) bs os ts (all_points xs) = bodies_counted (i + 1) (p + length fs) bs os ts xs g.1 h.1
      (subst (λ k. Stand D (p + k) (all_points xs)) long (stand_behind D p x.points (all_points xs) at)) (λ j. (let more : i + 1 + j ≡ i + suc j = omega arith in ap (slice_get D.object.operations) more) ∙ agree (suc j)) in
      let after : bodies_conditions d n (i + 1) bs ts ≡ bodies_conditions d n (suc i) bs ts = ap (λ k. bodies_conditions d n k bs ts) next in
      let always = meets.invariant in
      omega (arith, first, entry, always, passes, stays, edges, kept, rest, after)
