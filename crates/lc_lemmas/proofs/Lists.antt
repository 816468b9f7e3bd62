-- Lists, and what is at a place of them.
use Rattle.std.proofs.Common.{◌≡◌, ℕ, ◌≤◌, List, [], length, drop, map, Some, ap, ◌∙◌, ◌<◌, get_or, option_map, sym, zero, suc, ◌∷◌, ◌++◌, slice_get, arith, length-append, ◌⊎◌, inl, inr, ◌+◌, refl, take, Bool, cond, None, set, true, subst}
use Rattle.std.proofs.Math.ListN.{drop_of_length-le}
use Rattle.std.proofs.lemmas.Option.{slice_get-map, slice_get-get_or, slice_get_within, get_or_from_slice_get, same_Some, slice_get_read}
use Rattle.std.proofs.Math.Seq.{get_or-append_seam}
use Rattle.std.proofs.lemmas.List.{get_or_append_left, drop_more, length-map}
use Rattle.std.specs.Map.{lookup}
use Rattle.std.specs.Option.{option_or}
use Rattle.std.specs.List.{list_all}
use Rattle.std.proofs.lemmas.Bool.{and_from}
use Rattle.lc_lemmas.proofs.Numbers.{below_or_here}
use Rattle.lc_lemmas.proofs.Options.{first_of_two}
use Rattle.lc_lemmas.proofs.Booleans.{left_true, right_true}

pub dropped_all : {A : Type 0} (xs : List A) (i : ℕ) → length xs ≤ i → drop i xs ≡ []
dropped_all xs i h = drop_of_length-le xs h

pub mapped_get : {X Y : Type 0} (f : X → Y) (xs : List X) (k : ℕ) (x : X) → slice_get xs k ≡ Some x → slice_get (map f xs) k ≡ Some (f x)
mapped_get f xs k x e = slice_get-map f xs k ∙ ap (option_map f) e

-- the place of something that is seen so
pub seen_at : {A C : Type 0} (view : C → A) (xs : List C) (ys : List A) (i : ℕ) (x : C) → map view xs ≡ ys → i < length xs → x ≡ get_or xs i x → slice_get ys i ≡ Some (view x)
seen_at view xs ys i x e below is = ap (λ l. slice_get l i) (sym e) ∙ slice_get-map view xs i ∙ ap (option_map view) (slice_get-get_or xs i x below ∙ ap Some (sym is))

pub kept_left : {A : Type 0} (xs ys : List A) (j : ℕ) (x : A) → slice_get xs j ≡ Some x → slice_get (xs ++ ys) j ≡ Some x
kept_left [] ys j x h = cc
kept_left (y ∷ xs) ys zero x h = h
kept_left (y ∷ xs) ys (suc j) x h = kept_left xs ys j x h

pub get_last : {T : Type 0} (ts : List T) (t : T) → slice_get (ts ++ t ∷ []) (length ts) ≡ Some t
get_last ts t = slice_get-get_or (ts ++ t ∷ []) (length ts) t (omega (arith, length-append ts (t ∷ []))) ∙ ap Some (get_or-append_seam ts t [] t)

-- where an element of a longer list stands
pub get_in_longer : {T : Type 0} (ts : List T) (x : T) (i : ℕ) (t : T) → slice_get (ts ++ x ∷ []) i ≡ Some t → (slice_get ts i ≡ Some t) ⊎ ((i ≡ length ts) × (t ≡ x))
get_in_longer ts x i t h =
    let lt = slice_get_within (ts ++ x ∷ []) i t h in
    let le : i < length ts + 1 = omega (arith, length-append ts (x ∷ [])) in
    elim (below_or_here (length ts) i (omega arith)) [
      | inl e ↦ inr (sym e, same_Some _ _ (sym h ∙ ap (slice_get (ts ++ x ∷ [])) (sym e) ∙ get_last ts x))
      | inr more ↦ inl (slice_get-get_or ts i t (omega arith) ∙ ap Some (sym (get_or_append_left ts (x ∷ []) t i (omega arith)) ∙ get_or_from_slice_get (ts ++ x ∷ []) i t t h))
    ]

pub element_within : {A : Type 0} (xs : List A) (i : ℕ) → i < length xs → (x : A) × (slice_get xs i ≡ Some x)
element_within [] i lt = absurd (omega arith)
element_within (x ∷ xs) zero lt = (x, refl)
element_within (x ∷ xs) (suc i) lt = element_within xs i (omega arith)

pub drop_at_element : {A : Type 0} (xs : List A) (i : ℕ) (x : A) → i < length xs → x ≡ get_or xs i x → drop i xs ≡ x ∷ drop (i + 1) xs
drop_at_element xs i x lt is = drop_more xs i x lt ∙ ap (λ y. y ∷ drop (i + 1) xs) (sym is)

pub get_in_front : {A : Type 0} (xs ys : List A) (i : ℕ) → i < length xs → slice_get (xs ++ ys) i ≡ slice_get xs i
get_in_front [] ys i lt = absurd (omega arith)
get_in_front (x ∷ xs) ys zero lt = refl
get_in_front (x ∷ xs) ys (suc i) lt = get_in_front xs ys i (omega arith)

pub taken_all : {A : Type 0} (xs : List A) (n : ℕ) → length xs ≤ n → take n xs ≡ xs
taken_all [] zero le = refl
taken_all [] (suc n) le = refl
taken_all (x ∷ xs) zero le = absurd (omega arith)
taken_all (x ∷ xs) (suc n) le = ap (λ ys. x ∷ ys) (taken_all xs n (omega arith))

-- what is found if one more entry comes after the others
pub lookup_last : {K X : Type 0} (test : K → Bool) (es : List (K × X)) (k : K) (x : X) → lookup test (es ++ (k, x) ∷ []) ≡ option_or (lookup test es) (cond (test k) (Some x) None)
lookup_last test [] k x = refl
lookup_last test (e ∷ es) k x = ap (cond (test e.0) (Some e.1)) (lookup_last test es k x) ∙ first_of_two (test e.0) (test k) e.1 x (lookup test es)

pub get_taken : {A : Type 0} (xs : List A) (n i : ℕ) → i < n → slice_get (take n xs) i ≡ slice_get xs i
get_taken xs zero i lt = absurd (omega arith)
get_taken [] (suc n) i lt = refl
get_taken (x ∷ xs) (suc n) zero lt = refl
get_taken (x ∷ xs) (suc n) (suc i) lt = get_taken xs n i (omega arith)

pub take-take : {A : Type 0} (xs : List A) (n i : ℕ) → i ≤ n → take i (take n xs) ≡ take i xs
take-take xs n zero le = refl
take-take xs zero (suc i) le = absurd (omega arith)
take-take [] (suc n) (suc i) le = refl
take-take (x ∷ xs) (suc n) (suc i) le = ap (λ ys. x ∷ ys) (take-take xs n i (omega arith))

pub within_taken : {A : Type 0} (xs : List A) (n i : ℕ) (x : A) → slice_get (take n xs) i ≡ Some x → i < n
within_taken xs zero i x at = absurd cc
within_taken [] (suc n) i x at = absurd cc
within_taken (y ∷ xs) (suc n) zero x at = omega arith
within_taken (y ∷ xs) (suc n) (suc i) x at = let h = within_taken xs n i x at in omega arith

-- the view of the element at a place
pub viewed_at : {A B : Type 0} (f : A → B) (xs : List A) (i : ℕ) (x : A) → i < length (map f xs) → x ≡ get_or xs i x → slice_get (map f xs) i ≡ Some (f x)
viewed_at f xs i x h e = slice_get-map f xs i ∙ ap (option_map f) (slice_get_read xs (length xs) i x refl (rw (← length-map xs f) h) e)

-- an element that is put there
pub set_there : {A : Type 0} (xs : List A) (i : ℕ) (x y : A) → slice_get xs i ≡ Some y → slice_get (set xs i x) i ≡ Some x
set_there [] i x y e = cc
set_there (z ∷ zs) zero x y e = refl
set_there (z ∷ zs) (suc i) x y e = set_there zs i x y e

-- each passes, and so does what is put there
pub all_set : {A : Type 0} (p : A → Bool) (xs : List A) (i : ℕ) (x : A) → list_all p xs ≡ true → p x ≡ true → list_all p (set xs i x) ≡ true
all_set p [] i x e h = e
all_set p (y ∷ ys) zero x e h = and_from (p x) (list_all p ys) h (right_true (p y) (list_all p ys) e)
all_set p (y ∷ ys) (suc i) x e h = and_from (p y) (list_all p (set ys i x)) (left_true (p y) (list_all p ys) e) (all_set p ys i x (right_true (p y) (list_all p ys) e) h)

pub past_end : {X : Type 0} (before : List X) → slice_get (before ++ []) (length before) ≡ None
past_end [] = refl
past_end (y ∷ before) = past_end before

pub at_all : {A : Type 0} (p : A → Bool) (xs : List A) (i : ℕ) (x : A) → list_all p xs ≡ true → slice_get xs i ≡ Some x → p x ≡ true
at_all p [] i x all at = absurd cc
at_all p (y ∷ xs) zero x all at = let same : y ≡ x = cc in subst (λ z. p z ≡ true) same (left_true (p y) (list_all p xs) all)
at_all p (y ∷ xs) (suc i) x all at = at_all p xs i x (right_true (p y) (list_all p xs) all) at
