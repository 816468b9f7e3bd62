-- What lists of values say, element by element.
use Rattle.std.proofs.Common.{◌≡◌, ℕ, zero, suc, List, [], ◌∷◌, ◌++◌, Option, Some, None, option_map, option_and_then, map, take, slice_get, length, refl, ap, sym, subst, ◌∙◌, ℤ}
use Rattle.std.proofs.lemmas.List.{map-append, append_assoc}
use Rattle.serde_json.specs.Data.{Data, Items}
use Rattle.serde_json.specs.Find.{as_array}
use Rattle.serde_json.specs.View.{view, items_of}
use Rattle.serde_json.specs.declared.value.Value.{Value}
use Rattle.lc_hist.specs.JsonKept.{Each}
use Rattle.lc_hist.specs.JsonWritten.{number_data}
use Rattle.lc_hist.specs.JsonValues.{values_in, all_in, number_in, numbers_in}

one_more : {B : Type 0} (r s : Option (List B)) (n : Option B) (zs : List B) (z : B) → ((ys : List B) → r ≡ Some ys → s ≡ Some (ys ++ z ∷ []))
    → option_and_then (λ y. option_map (λ ys. y ∷ ys) r) n ≡ Some zs → option_and_then (λ y. option_map (λ ys. y ∷ ys) s) n ≡ Some (zs ++ z ∷ [])
one_more r s None zs z more h = absurd cc
one_more None s (Some y) zs z more h = absurd cc
one_more (Some ys) s (Some y) zs z more h =
    let e : y ∷ ys ≡ zs = cc in
    rw (more ys refl) (ap (λ xs. Some (xs ++ z ∷ [])) e)

-- one element more, at the end
pub all_in-push : {A B : Type 0} (says : A → Option B) (xs : List A) (x : A) (ys : List B) (y : B) → all_in says xs ≡ Some ys → says x ≡ Some y → all_in says (xs ++ x ∷ []) ≡ Some (ys ++ y ∷ [])
all_in-push says [] x ys y all is =
    let none : [] ≡ ys = cc in
    rw (is, ← none) refl
all_in-push says (z ∷ xs) x ys y all is = one_more (all_in says xs) (all_in says (xs ++ x ∷ [])) (says z) ys y (λ zs e. all_in-push says xs x zs y e is) all

nothing_behind : {B : Type 0} (n : Option B) → option_and_then (λ y. option_map (λ ys. y ∷ ys) None) n ≡ None
nothing_behind None = refl
nothing_behind (Some y) = refl

-- an element that says nothing
pub all_in-none : {A B : Type 0} (says : A → Option B) (xs : List A) (i : ℕ) (x : A) → slice_get xs i ≡ Some x → says x ≡ None → all_in says xs ≡ None
all_in-none says [] i x at is = absurd cc
all_in-none says (z ∷ xs) zero x at is = let same : z ≡ x = cc in rw (same, is) refl
all_in-none says (z ∷ xs) (suc i) x at is = rw (all_in-none says xs i x at is) (nothing_behind (says z))

take-next : {A : Type 0} (xs : List A) (i : ℕ) (x : A) → slice_get xs i ≡ Some x → take (suc i) xs ≡ take i xs ++ x ∷ []
take-next [] i x at = absurd cc
take-next (z ∷ xs) zero x at = let same : z ≡ x = cc in rw same refl
take-next (z ∷ xs) (suc i) x at = ap (λ ys. z ∷ ys) (take-next xs i x at)

each_last : {A : Type 0} (P : A → Type 0) (x : A) → P x → (j : ℕ) (y : A) → slice_get (x ∷ []) j ≡ Some y → P y
each_last P x here zero y at = let same : x ≡ y = cc in subst P same here
each_last P x here (suc j) y at = absurd cc

-- it holds of one element more
pub each-next : {A : Type 0} (P : A → Type 0) (xs : List A) (i : ℕ) (x : A) → Each P (take i xs) → slice_get xs i ≡ Some x → P x
    → (j : ℕ) (y : A) → slice_get (take (suc i) xs) j ≡ Some y → P y
each-next P [] i x each at here j y found = absurd cc
each-next P (z ∷ xs) zero x each at here j y found = let same : x ≡ z = cc in each_last P z (subst P same here) j y found
each-next P (z ∷ xs) (suc i) x each at here zero y found = each zero y found
each-next P (z ∷ xs) (suc i) x each at here (suc j) y found = each-next P xs i x (λ k w e. each (suc k) w e) at here j y found

-- parts that are there
pub both_parts : {A B C : Type 0} (f : A → B → C) (a : Option A) (b : Option B) (x : C) → option_and_then (λ y. option_map (f y) b) a ≡ Some x
    → (y : A) × (z : B) × (a ≡ Some y) × (b ≡ Some z) × (f y z ≡ x)
both_parts f None b x h = absurd cc
both_parts f (Some y) None x h = absurd cc
both_parts f (Some y) (Some z) x h = (y, z, refl, refl, cc)

-- as many elements as are read
pub all_in-length : {A B : Type 0} (says : A → Option B) (xs : List A) (ys : List B) → all_in says xs ≡ Some ys → length xs ≡ length ys
all_in-length says [] ys all = let none : [] ≡ ys = cc in ap length none
all_in-length says (x ∷ xs) ys all =
    let parts = both_parts (λ y zs. y ∷ zs) (says x) (all_in says xs) ys all in
    ap suc (all_in-length says xs parts.1 parts.3) ∙ ap length parts.4

-- the element after those that are read
pub stands_behind : {A : Type 0} (xs : List A) (y : A) (zs all : List A) → xs ++ y ∷ zs ≡ all → slice_get all (length xs) ≡ Some y
stands_behind [] y zs all is = rw (← is) refl
stands_behind (x ∷ xs) y zs all is = rw (← is) (stands_behind xs y zs (xs ++ y ∷ zs) refl)

-- one element more is read
pub one_read : {A : Type 0} (xs : List A) (y : A) (zs rest all : List A) → rest ≡ y ∷ zs → xs ++ rest ≡ all → (xs ++ y ∷ []) ++ zs ≡ all
one_read xs y zs rest all next is = append_assoc xs (y ∷ []) zs ∙ ap (λ r. xs ++ r) (sym next) ∙ is

numbers_by : (o : Option Items) (ds : List Data) → Some ds ≡ option_map values_in o → option_and_then (λ es. all_in number_in (values_in es)) o ≡ all_in number_in ds
numbers_by None ds is = absurd cc
numbers_by (Some es) ds is = let same : values_in es ≡ ds = cc in ap (all_in number_in) same

-- the numbers of an array
pub numbers_of : (d : Data) (ds : List Data) → Some ds ≡ option_map values_in (as_array d) → numbers_in d ≡ all_in number_in ds
numbers_of d ds is = numbers_by (as_array d) ds is

-- numbers that are read back
pub kept_numbers : (zs : List ℤ) → Each (λ z. number_in (number_data z) ≡ Some z) zs → all_in number_in (map number_data zs) ≡ Some zs
kept_numbers [] each = refl
kept_numbers (z ∷ zs) each =
    rw (kept_numbers zs (λ i x at. each (suc i) x at), each 0 z refl) refl

pub values_in-items_of : (ds : List Data) → values_in (items_of ds) ≡ ds
values_in-items_of [] = refl
values_in-items_of (d ∷ ds) = ap (λ es. d ∷ es) (values_in-items_of ds)

-- one value more
pub written_next : {A : Type 0} (f : A → Data) (xs : List A) (i : ℕ) (x : A) (vs : List Value) (v : Value) → map view vs ≡ map f (take i xs) → slice_get xs i ≡ Some x → view v ≡ f x
    → map view (vs ++ v ∷ []) ≡ map f (take (suc i) xs)
written_next f xs i x vs v written at is =
    rw (map-append view vs (v ∷ []), take-next xs i x at, map-append f (take i xs) (x ∷ []), written, is) refl
