-- How long lists are that are made of others.
use Rattle.std.proofs.Common.{◌≡◌, ℕ, suc, ◌+◌, ◌*◌, List, [], ◌∷◌, map, length, refl, sym, ap, ap₂, ◌∙◌, arith}
use Rattle.std.specs.Prelude.{sum_by}
use Rattle.std.proofs.Math.Nat.{suc-mul}
use Rattle.std.proofs.lemmas.List.{length-append}
use Rattle.std.proofs.lemmas.List.Sums.{sum_by-cons, sum_by-append}
use Rattle.lc_term.specs.Lists.{Every, numbered, concat_map, concat_places}

pub numbered_length : {A B : Type 0} (f : ℕ → A → B) (k : ℕ) (xs : List A) → length (numbered f k xs) ≡ length xs
numbered_length f k [] = refl
numbered_length f k (x ∷ xs) = ap suc (numbered_length f (suc k) xs)

-- one after another
pub concat_places_length : {A B : Type 0} (F : A → ℕ) (f : ℕ → A → List B) → ((k : ℕ) (x : A) → length (f k x) ≡ F x) → (k : ℕ) (xs : List A) → length (concat_places f k xs) ≡ sum_by F xs
concat_places_length F f h k [] = refl
concat_places_length F f h k (x ∷ xs) = length-append (f k x) (concat_places f (suc k) xs) ∙ ap₂ (λ m n. m + n) (h k x) (concat_places_length F f h (suc k) xs) ∙ sym (sum_by-cons F x xs)

pub total_mapped : {A B X : Type 0} (G : X → ℕ) (g : A → X) (f : ℕ → A → List B) → ((k : ℕ) (x : A) → length (f k x) ≡ G (g x)) → (k : ℕ) (xs : List A) → length (concat_places f k xs) ≡ sum_by G (map g xs)
total_mapped G g f h k [] = refl
total_mapped G g f h k (x ∷ xs) =
    length-append (f k x) (concat_places f (suc k) xs) ∙ ap₂ (λ m n. m + n) (h k x) (total_mapped G g f h (suc k) xs) ∙ sym (sum_by-cons G (g x) (map g xs))

pub total_places : {A B X : Type 0} (G : X → ℕ) (g : ℕ → A → List X) (f : ℕ → A → List B) → ((k : ℕ) (x : A) → length (f k x) ≡ sum_by G (g k x)) → (k : ℕ) (xs : List A) →
    length (concat_places f k xs) ≡ sum_by G (concat_places g k xs)
total_places G g f h k [] = refl
total_places G g f h k (x ∷ xs) =
    length-append (f k x) (concat_places f (suc k) xs) ∙ ap₂ (λ m n. m + n) (h k x) (total_places G g f h (suc k) xs) ∙ sym (sum_by-append G (g k x) (concat_places g (suc k) xs))

pub total_each : {A B X : Type 0} (G : X → ℕ) (g : A → List X) (f : A → List B) (xs : List A) → Every (λ x. length (f x) ≡ sum_by G (g x)) xs → length (concat_map f xs) ≡ sum_by G (concat_map g xs)
total_each G g f [] h = refl
total_each G g f (x ∷ xs) h =
    length-append (f x) (concat_map f xs) ∙ ap₂ (λ m n. m + n) h.0 (total_each G g f xs h.1) ∙ sym (sum_by-append G (g x) (concat_map g xs))

once_more : (k m : ℕ) → m + k * m ≡ suc k * m
once_more k m = let e = suc-mul k m in omega (arith, e)

none_more : (m : ℕ) → 0 ≡ 0 * m
none_more m = omega arith

-- as many of each
pub concat_alike_length : {A B : Type 0} (m : ℕ) (f : ℕ → A → List B) → ((k : ℕ) (x : A) → length (f k x) ≡ m) → (k : ℕ) (xs : List A) → length (concat_places f k xs) ≡ length xs * m
concat_alike_length m f h k [] = none_more m
concat_alike_length m f h k (x ∷ xs) = length-append (f k x) (concat_places f (suc k) xs) ∙ ap₂ (λ a b. a + b) (h k x) (concat_alike_length m f h (suc k) xs) ∙ once_more (length xs) m

-- a sum over lists that are joined
pub sum_joined : {A B : Type 0} (F : B → ℕ) (f : A → List B) (xs : List A) → sum_by F (concat_map f xs) ≡ sum_by (λ x. sum_by F (f x)) xs
sum_joined F f [] = refl
sum_joined F f (x ∷ xs) =
    sum_by-append F (f x) (concat_map f xs) ∙ ap (λ m. sum_by F (f x) + m) (sum_joined F f xs) ∙ sym (sum_by-cons (λ y. sum_by F (f y)) x xs)
