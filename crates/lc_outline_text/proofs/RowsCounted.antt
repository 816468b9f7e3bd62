-- Items in a row with what they read as, and lists that go together.
use Rattle.std.proofs.Common.{◌≡◌, ℕ, zero, suc, ◌+◌, ◌<◌, List, [], ◌∷◌, ◌++◌, Some, length, refl, sym, ap, subst, arith}
use Rattle.std.specs.Prelude.{slice_get}
use Rattle.lc_sexp.specs.Parts.{fits, form_fit}
use Rattle.lc_sexp.specs.TreeCode.{tree_count}
use Rattle.lc_sexp.specs.Trees.{Tree, Trees, none, ◌▸◌, item_count}
use Rattle.lc_reading.proofs.Holding.{Holds, both_holds, holds_unit}
use Rattle.lc_reading.specs.Readings.{Reading, fine, flawed}
use Rattle.lc_reading.specs.Rows.{each_reading, counted_reading, declared_reading}
use Rattle.lc_object_text.specs.Rows.{cons, placed_reading}
use Rattle.lc_object_text.specs.Sections.{before_others, parts_in, forms_in, some_forms_in}

-- elements of two lists, one by one
abbrev pub Alike : {X Y : Type 0} → (X → Y → Type 0) → List X → List Y → Type 0
Alike P [] [] = Unit {0}
Alike P [] (y ∷ ys) = ⊥
Alike P (x ∷ xs) [] = ⊥
Alike P (x ∷ xs) (y ∷ ys) = P x y × Alike P xs ys

-- elements at the same place of both lists
pub record AreAt {X Y : Type 0} (P : X → Y → Type 0) (xs : List X) (ys : List Y) (k : ℕ) : Type 0 where
  pub left : X
  pub right : Y
  pub on_left : slice_get xs k ≡ Some left
  pub on_right : slice_get ys k ≡ Some right
  pub alike : P left right

pub alike_at : {X Y : Type 0} (P : X → Y → Type 0) (xs : List X) (ys : List Y) (k : ℕ) → Alike P xs ys → k < length xs → AreAt P xs ys k
alike_at P [] ys k h few = absurd (omega (arith, few))
alike_at P (x ∷ xs) [] k h few = absurd h
alike_at P (x ∷ xs) (y ∷ ys) zero h few = record { left = x; right = y; on_left = refl; on_right = refl; alike = h.0 }
alike_at P (x ∷ xs) (y ∷ ys) (suc k) h few =
    let r = alike_at P xs ys k h.1 (omega (arith, few)) in
    record { left = r.left; right = r.right; on_left = r.on_left; on_right = r.on_right; alike = r.alike }

pub alike_length : {X Y : Type 0} (P : X → Y → Type 0) (xs : List X) (ys : List Y) → Alike P xs ys → length ys ≡ length xs
alike_length P [] [] h = refl
alike_length P [] (y ∷ ys) h = absurd h
alike_length P (x ∷ xs) [] h = absurd h
alike_length P (x ∷ xs) (y ∷ ys) h = ap suc (alike_length P xs ys h.1)

-- items in a row, each with what it reads as
abbrev pub Along : {X : Type 0} → (Tree → X → Type 0) → Trees → List X → Type 0
Along P none [] = Unit {0}
Along P none (x ∷ xs) = ⊥
Along P (t ▸ ts) [] = ⊥
Along P (t ▸ ts) (x ∷ xs) = P t x × Along P ts xs

pub each_along : {X : Type 0} (P : Tree → X → Type 0) (read : ℕ → Tree → Reading X) → ((n : ℕ) (t : Tree) → Holds (P t) (read n t)) → (m : ℕ) (ts : Trees) → Holds (Along P ts) (each_reading read m ts)
each_along P read h m none = tt
each_along P read h m (t ▸ ts) =
    both_holds (P t) (Along P ts) (Along P (t ▸ ts)) (λ x xs. x ∷ xs) (read m t) (each_reading read (m + item_count t) ts) (h m t) (each_along P read h (m + item_count t) ts) (λ x xs p q. (p, q))

pub placed_along : {X : Type 0} (P : Tree → X → Type 0) (read : ℕ → ℕ → Tree → Reading X) → ((i n : ℕ) (t : Tree) → Holds (P t) (read i n t)) → (i m : ℕ) (ts : Trees) → Holds (Along P ts) (placed_reading read i m ts)
placed_along P read h i m none = tt
placed_along P read h i m (t ▸ ts) =
    both_holds (P t) (Along P ts) (Along P (t ▸ ts)) cons (read i m t) (placed_reading read (i + 1) (m + item_count t) ts) (h i m t) (placed_along P read h (i + 1) (m + item_count t) ts) (λ x xs p q. (p, q))

pub declared_along : {X : Type 0} (P : Tree → X → Type 0) (read : List (List ℕ) → ℕ → Tree → Reading X) (declares : Tree → List (List ℕ)) → ((before : List (List ℕ)) (n : ℕ) (t : Tree) → Holds (P t) (read before n t))
    → (before : List (List ℕ)) (m : ℕ) (ts : Trees) → Holds (Along P ts) (declared_reading read declares before m ts)
declared_along P read declares h before m none = tt
declared_along P read declares h before m (t ▸ ts) =
    both_holds (P t) (Along P ts) (Along P (t ▸ ts)) (λ x xs. x ∷ xs) (read before m t) _ (h before m t) (declared_along P read declares h (before ++ declares t) (m + item_count t) ts) (λ x xs p q. (p, q))

pub counted_count : {X : Type 0} (read : ℕ → Tree → Reading X) (n k m : ℕ) (ts : Trees) → Holds (λ xs. length xs ≡ tree_count ts) (counted_reading read n k m ts)
counted_count read n zero m none = refl
counted_count read n (suc k) m none = tt
counted_count read n zero m (t ▸ ts) = tt
counted_count read n (suc k) m (t ▸ ts) =
    both_holds (λ x. Unit {0}) (λ xs. length xs ≡ tree_count ts) (λ xs. length xs ≡ suc (tree_count ts)) (λ x xs. x ∷ xs) (read m t) (counted_reading read n k (m + item_count t) ts) (holds_unit (read m t)) (counted_count read n k (m + item_count t) ts) (λ x xs u e. ap suc e)

-- lists that begin with a word, by what comes after the word
abbrev pub IsForm : {X : Type 0} → List ℕ → (Trees → X → Type 0) → Tree → X → Type 0
IsForm word P t x = (form_fit word t ≡ fits (parts_in word t)) × P (parts_in word t) x

pub forms_alike : {X : Type 0} (word : List ℕ) (P : Trees → X → Type 0) (ts : Trees) (xs : List X) → Along (IsForm word P) ts xs → Alike P (forms_in word ts) xs
forms_alike word P none [] h = tt
forms_alike word P none (x ∷ xs) h = absurd h
forms_alike word P (t ▸ ts) [] h = absurd h
forms_alike word P (t ▸ ts) (x ∷ xs) h = subst (λ f. Alike P (before_others f (forms_in word ts)) (x ∷ xs)) (sym h.0.0) (h.0.1, forms_alike word P ts xs h.1)

pub some_alike : {X : Type 0} (word : List ℕ) (P : Trees → X → Type 0) (ts : Trees) (xs : List X) → Along (IsForm word P) ts xs → Alike P (some_forms_in word ts) xs
some_alike word P none [] h = tt
some_alike word P none (x ∷ xs) h = absurd h
some_alike word P (t ▸ ts) [] h = absurd h
some_alike word P (t ▸ ts) (x ∷ xs) h = (h.0.1, forms_alike word P ts xs h.1)

-- what holds of all of these holds of what is read
pub for_all : {A X : Type 0} (Q : A → X → Type 0) (r : Reading X) → ((a : A) → Holds (Q a) r) → Holds (λ x. (a : A) → Q a x) r
for_all Q (fine x) h = h
for_all Q (flawed f) h = tt
