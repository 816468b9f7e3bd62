-- Sums over the points of a development, by their places.
use Rattle.std.proofs.Common.{◌≡◌, ℕ, zero, suc, ◌+◌, List, [], ◌∷◌, ◌++◌, map, length, length-append, append_assoc, append-nil, Some, refl, sym, ap, ap₂, ◌∙◌, subst, arith}
use Rattle.std.proofs.lemmas.List.Sums.{sum_by-append}
use Rattle.std.specs.Prelude.{sum_by, slice_get}
use Rattle.lc_term.specs.Lists.{concat_map, concat_places}
use Rattle.lc_object.specs.Syntax.{Point}
use Rattle.lc_object.specs.Edges.{edges_at, edges_from}
use Rattle.lc_outline.specs.Development.{Outline, Development}
use Rattle.lc_outline.specs.Sizes.{edge_count, edge_sizes}

-- ---- sums

-- over each with its place, from p on
abbrev pub over : {X : Type 0} → (ℕ → X → ℕ) → ℕ → List X → ℕ
over F p [] = 0
over F p (x ∷ xs) = F p x + over F (suc p) xs

pub over_joined : {X : Type 0} (F : ℕ → X → ℕ) (p : ℕ) (xs ys : List X) → over F p (xs ++ ys) ≡ over F p xs + over F (p + length xs) ys
over_joined F p [] ys =
    let e : p ≡ p + 0 = omega arith in
    let same : over F p ys ≡ over F (p + 0) ys = ap (λ k. over F k ys) e in
    omega (arith, same)
over_joined F p (x ∷ xs) ys =
    let e : suc p + length xs ≡ p + suc (length xs) = omega arith in
    let rest : over F (suc p) (xs ++ ys) ≡ over F (suc p) xs + over F (p + suc (length xs)) ys = over_joined F (suc p) xs ys ∙ ap (λ k. over F (suc p) xs + over F k ys) e in
    omega (arith, rest)

sum_concat : {A B : Type 0} (F : B → ℕ) (f : A → List B) (xs ys : List A) → sum_by F (concat_map f (xs ++ ys)) ≡ sum_by F (concat_map f xs) + sum_by F (concat_map f ys)
sum_concat F f [] ys = omega arith
sum_concat F f (x ∷ xs) ys =
    let all = sum_by-append F (f x) (concat_map f (xs ++ ys)) in
    let own = sum_by-append F (f x) (concat_map f xs) in
    let rest = sum_concat F f xs ys in
    omega (arith, all, own, rest)

pub sum_one : {A B : Type 0} (F : B → ℕ) (f : A → List B) (x : A) → sum_by F (concat_map f (x ∷ [])) ≡ sum_by F (f x)
sum_one F f x = ap (sum_by F) (append-nil (f x))

pub sum_two : {A B : Type 0} (F : B → ℕ) (f : A → List B) (x y : A) → sum_by F (concat_map f (x ∷ y ∷ [])) ≡ sum_by F (f x) + sum_by F (f y)
sum_two F f x y = sum_by-append F (f x) (concat_map f (y ∷ [])) ∙ ap (λ m. sum_by F (f x) + m) (sum_one F f y)

pub places_sum : {A B : Type 0} (F : B → ℕ) (f : ℕ → A → List B) (p : ℕ) (xs : List A) → sum_by F (concat_places f p xs) ≡ over (λ k x. sum_by F (f k x)) p xs
places_sum F f p [] = refl
places_sum F f p (x ∷ xs) = sum_by-append F (f p x) (concat_places f (suc p) xs) ∙ ap (λ m. sum_by F (f p x) + m) (places_sum F f (suc p) xs)

-- the conditions of the edges of a point
abbrev pub point_edges : Development → ℕ → Point → ℕ
point_edges D p point = sum_by edge_count (concat_map (edge_sizes D) (edges_at D.object p point.instruction))

pub edges_sum : (D : Development) (p : ℕ) (points : List Point) → sum_by edge_count (concat_map (edge_sizes D) (edges_from D.object p points)) ≡ over (point_edges D) p points
edges_sum D p [] = refl
edges_sum D p (point ∷ points) =
    sum_concat edge_count (edge_sizes D) (edges_at D.object p point.instruction) (edges_from D.object (suc p) points) ∙ ap (λ m. point_edges D p point + m) (edges_sum D (suc p) points)

-- ---- places

-- a point of this number, with its outline
pub record IsThere (D : Development) (p : ℕ) (x : Point × Outline) : Type 0 where
  pub code : slice_get D.object.points p ≡ Some x.0
  pub outline : slice_get D.outlines p ≡ Some x.1

-- these from the number p on
abbrev pub Stand : Development → ℕ → List (Point × Outline) → Type 0
Stand D p [] = Unit {0}
Stand D p (x ∷ xs) = IsThere D p x × Stand D (suc p) xs

first_there : {X Y : Type 0} (f : X → Y) (before rest : List X) (x : X) → slice_get (map f (before ++ x ∷ rest)) (length before) ≡ Some (f x)
first_there f [] rest x = refl
first_there f (y ∷ before) rest x = first_there f before rest x

all_stand : (D : Development) (ps before rest : List (Point × Outline)) (p : ℕ) → D.object.points ≡ map (λ x. x.0) ps → D.outlines ≡ map (λ x. x.1) ps → ps ≡ before ++ rest → length before ≡ p → Stand D p rest
all_stand D ps before [] p e f same long = tt
all_stand D ps before (x ∷ rest) p e f same long =
    let next : before ++ x ∷ rest ≡ (before ++ x ∷ []) ++ rest = sym (append_assoc before (x ∷ []) rest) in
    let more : length (before ++ x ∷ []) ≡ suc p = (let both = length-append before (x ∷ []) in omega (arith, both, long)) in (
      record {
        code = ap₂ slice_get (e ∙ ap (map (λ (y : Point × Outline). y.0)) same) (sym long) ∙ first_there (λ (y : Point × Outline). y.0) before rest x;
        outline = ap₂ slice_get (f ∙ ap (map (λ (y : Point × Outline). y.1)) same) (sym long) ∙ first_there (λ (y : Point × Outline). y.1) before rest x;
      },
      all_stand D ps (before ++ x ∷ []) rest (suc p) e f (same ∙ next) more,
    )

pub points_stand : (D : Development) (ps : List (Point × Outline)) → D.object.points ≡ map (λ x. x.0) ps → D.outlines ≡ map (λ x. x.1) ps → Stand D 0 ps
points_stand D ps e f = all_stand D ps [] ps 0 e f refl refl

pub stand_first : (D : Development) (p : ℕ) (xs ys : List (Point × Outline)) → Stand D p (xs ++ ys) → Stand D p xs
stand_first D p [] ys h = tt
stand_first D p (x ∷ xs) ys h = (h.0, stand_first D (suc p) xs ys h.1)

pub stand_behind : (D : Development) (p : ℕ) (xs ys : List (Point × Outline)) → Stand D p (xs ++ ys) → Stand D (p + length xs) ys
stand_behind D p [] ys h = let e : p ≡ p + 0 = omega arith in subst (λ k. Stand D k ys) e h
stand_behind D p (x ∷ xs) ys h = let e : suc p + length xs ≡ p + suc (length xs) = omega arith in subst (λ k. Stand D k ys) e (stand_behind D (suc p) xs ys h.1)

pub point_is_there : (D : Development) (p : ℕ) (xs : List (Point × Outline)) (k : ℕ) (x : Point × Outline) → Stand D p xs → slice_get xs k ≡ Some x → IsThere D (p + k) x
point_is_there D p [] k x h e = absurd (cc)
point_is_there D p (y ∷ xs) zero x h e =
    let same : y ≡ x = cc in
    let at : p ≡ p + 0 = omega arith in subst (λ k. IsThere D k x) at (subst (IsThere D p) same h.0)
point_is_there D p (y ∷ xs) (suc k) x h e = let at : suc p + k ≡ p + suc k = omega arith in subst (λ j. IsThere D j x) at (point_is_there D (suc p) xs k x h.1 e)
