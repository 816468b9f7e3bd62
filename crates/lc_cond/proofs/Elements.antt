-- What holds of each element of lists that are made of others.
use Rattle.std.proofs.Common.{◌≡◌, ℕ, zero, suc, ◌+◌, List, [], ◌∷◌, map, replicate, Some, refl, subst, arith}
use Rattle.std.specs.Prelude.{slice_get, slice_set}
use Rattle.lc_term.specs.Lists.{Every, numbered, concat_map, concat_places}
use Rattle.lc_term.specs.Updates.{assigned}
use Rattle.lc_term.proofs.Stores.{Every-append}

pub Every-mapped : {A B : Type 0} (P : B → Type 0) (f : A → B) (xs : List A) → ((x : A) → P (f x)) → Every P (map f xs)
Every-mapped P f [] h = tt
Every-mapped P f (x ∷ xs) h = (h x, Every-mapped P f xs h)

Every-set : {A : Type 0} (P : A → Type 0) (xs : List A) (k : ℕ) (y : A) → Every P xs → P y → Every P (slice_set xs k y)
Every-set P [] k y h p = tt
Every-set P (x ∷ xs) zero y h p = (p, h.1)
Every-set P (x ∷ xs) (suc k) y h p = (h.0, Every-set P xs k y h.1 p)

pub Every-assigned : {A : Type 0} (P : A → Type 0) (xs : List A) (rs : List ℕ) (ys : List A) → Every P xs → Every P ys → Every P (assigned xs rs ys)
Every-assigned P xs [] ys h g = h
Every-assigned P xs (r ∷ rs) [] h g = h
Every-assigned P xs (r ∷ rs) (y ∷ ys) h g = Every-assigned P (slice_set xs r y) rs ys (Every-set P xs r y h g.0) g.1

pub Every-replicate : {A : Type 0} (P : A → Type 0) (n : ℕ) (x : A) → P x → Every P (replicate n x)
Every-replicate P zero x h = tt
Every-replicate P (suc n) x h = (h, Every-replicate P n x h)

pub Every-numbered : {A B : Type 0} (P : B → Type 0) (f : ℕ → A → B) (k : ℕ) (xs : List A) → ((j : ℕ) (x : A) → P (f j x)) → Every P (numbered f k xs)
Every-numbered P f k [] h = tt
Every-numbered P f k (x ∷ xs) h = (h k x, Every-numbered P f (suc k) xs h)

-- ---- lists that are joined

pub Every-each : {A B : Type 0} (P : A → Type 0) (Q : B → Type 0) (f : A → List B) (xs : List A) → ((x : A) → P x → Every Q (f x)) → Every P xs → Every Q (concat_map f xs)
Every-each P Q f [] h p = tt
Every-each P Q f (x ∷ xs) h p = Every-append Q (f x) (concat_map f xs) (h x p.0) (Every-each P Q f xs h p.1)

pub Every-places : {A B : Type 0} (P : A → Type 0) (Q : B → Type 0) (f : ℕ → A → List B) (k : ℕ) (xs : List A) → ((j : ℕ) (x : A) → P x → Every Q (f j x)) → Every P xs → Every Q (concat_places f k xs)
Every-places P Q f k [] h p = tt
Every-places P Q f k (x ∷ xs) h p = Every-append Q (f k x) (concat_places f (suc k) xs) (h k x p.0) (Every-places P Q f (suc k) xs h p.1)

-- and each element is at its place
pub Every-placed : {A B : Type 0} (Q : B → Type 0) (f : ℕ → A → List B) (k : ℕ) (xs : List A) → ((j : ℕ) (x : A) → slice_get xs j ≡ Some x → Every Q (f (k + j) x)) → Every Q (concat_places f k xs)
Every-placed Q f k [] h = tt
Every-placed Q f k (x ∷ xs) h =
    Every-append Q (f k x) (concat_places f (suc k) xs) (subst (λ j. Every Q (f j x)) (omega arith) (h zero x refl))
    (Every-placed Q f (suc k) xs (λ j y e. subst (λ i. Every Q (f i y)) (omega arith) (h (suc j) y e)))
