-- What holds of all that is read.
use Rattle.std.proofs.Common.{◌≡◌, ℕ, zero, suc, ◌+◌, Bool, true, false, cond, List, ◌∷◌, ◌++◌, length, length-append, refl, ap, subst, arith}
use Rattle.std.specs.List.{list_all}
use Rattle.std.proofs.lemmas.Bool.{and_from}
use Rattle.lc_sexp.specs.Trees.{Tree, Trees, atom, list, none, ◌▸◌, item_count}
use Rattle.lc_reading.specs.Readings.{Reading, fine, flawed, mapped, both, three, ended, limited, listed_reading, behind_reading}
use Rattle.lc_reading.specs.Rows.{each_reading, counted_reading, all_declared, declared_reading}
use Rattle.lc_reading.specs.Words.{is}

-- it holds of the value, if there is one
abbrev pub Holds : {X : Type 0} → (X → Type 0) → Reading X → Type 0
Holds P (fine x) = P x
Holds P (flawed f) = Unit {0}

pub holds_of_fine : {X : Type 0} (P : X → Type 0) (r : Reading X) (x : X) → Holds P r → r ≡ fine x → P x
holds_of_fine P (fine y) x h e = let same : y ≡ x = cc in subst P same h
holds_of_fine P (flawed f) x h e = absurd (cc)

pub holds_unit : {X : Type 0} (r : Reading X) → Holds (λ x. Unit {0}) r
holds_unit (fine x) = tt
holds_unit (flawed f) = tt

pub holds_weaker : {X : Type 0} (P Q : X → Type 0) (r : Reading X) → ((x : X) → P x → Q x) → Holds P r → Holds Q r
holds_weaker P Q (fine x) f h = f x h
holds_weaker P Q (flawed e) f h = tt

pub and_holds : {X : Type 0} (P Q : X → Type 0) (r : Reading X) → Holds P r → Holds Q r → Holds (λ x. P x × Q x) r
and_holds P Q (fine x) h g = (h, g)
and_holds P Q (flawed e) h g = tt

pub mapped_holds : {X Y : Type 0} (P : X → Type 0) (Q : Y → Type 0) (f : X → Y) (r : Reading X) → Holds P r → ((x : X) → P x → Q (f x)) → Holds Q (mapped f r)
mapped_holds P Q f (fine x) h g = g x h
mapped_holds P Q f (flawed e) h g = tt

pub both_holds : {X Y Z : Type 0} (P : X → Type 0) (Q : Y → Type 0) (R : Z → Type 0) (f : X → Y → Z) (r : Reading X) (s : Reading Y) → Holds P r → Holds Q s
    → ((x : X) (y : Y) → P x → Q y → R (f x y)) → Holds R (both f r s)
both_holds P Q R f (fine x) (fine y) h g k = k x y h g
both_holds P Q R f (fine x) (flawed e) h g k = tt
both_holds P Q R f (flawed e) (fine y) h g k = tt
both_holds P Q R f (flawed e) (flawed d) h g k = tt

pub three_holds : {X Y Z W : Type 0} (P : X → Type 0) (Q : Y → Type 0) (R : Z → Type 0) (S : W → Type 0) (f : X → Y → Z → W) (r : Reading X) (s : Reading Y) (q : Reading Z) → Holds P r → Holds Q s → Holds R q
    → ((x : X) (y : Y) (z : Z) → P x → Q y → R z → S (f x y z)) → Holds S (three f r s q)
three_holds {X} {Y} P Q R S f r s q h g i k =
    both_holds (λ (p : X × Y). P p.0 × Q p.1) R S (λ (p : X × Y) z. f p.0 p.1 z) (both (λ x y. (x, y)) r s) q
    (both_holds P Q (λ (p : X × Y). P p.0 × Q p.1) (λ x y. (x, y)) r s h g (λ x y u v. (u, v))) i (λ p z u v. k p.0 p.1 z u.0 u.1 v)

pub ended_holds : {X : Type 0} (P : X → Type 0) (m : ℕ) (ts : Trees) (r : Reading X) → Holds P r → Holds P (ended m ts r)
ended_holds P m none r h = h
ended_holds P m (t ▸ ts) (fine x) h = tt
ended_holds P m (t ▸ ts) (flawed f) h = tt

pub limited_holds : {X : Type 0} (P : X → Type 0) (beyond : Bool) (n : ℕ) (r : Reading X) → Holds P r → Holds P (limited beyond n r)
limited_holds P true n (fine x) h = tt
limited_holds P true n (flawed f) h = tt
limited_holds P false n r h = h

pub if_holds : {X : Type 0} (P : X → Type 0) (b : Bool) (r s : Reading X) → Holds P r → Holds P s → Holds P (cond b r s)
if_holds P true r s h g = h
if_holds P false r s h g = g

pub listed_holds : {X : Type 0} (P : X → Type 0) (read : ℕ → ℕ → Trees → Reading X) (n : ℕ) (t : Tree) → ((n m : ℕ) (ts : Trees) → Holds P (read n m ts)) → Holds P (listed_reading read n t)
listed_holds P read n (atom w) h = tt
listed_holds P read n (list ts) h = h n (n + 1) ts

pub behind_holds : {X : Type 0} (P : X → Type 0) (word : List ℕ) (read : ℕ → ℕ → Trees → Reading X) (n : ℕ) (t : Tree) → ((n m : ℕ) (ts : Trees) → Holds P (read n m ts)) → Holds P (behind_reading word read n t)
behind_holds P word read n (atom w) h = tt
behind_holds P word read n (list none) h = tt
behind_holds P word read n (list (list us ▸ ts)) h = tt
behind_holds P word read n (list (atom w ▸ ts)) h = if_holds P (is w word) (read n (n + 2) ts) _ (h n (n + 2) ts) tt

-- of each item in a row
pub each_holds : {X : Type 0} (test : X → Bool) (read : ℕ → Tree → Reading X) → ((n : ℕ) (t : Tree) → Holds (λ x. test x ≡ true) (read n t)) → (m : ℕ) (ts : Trees)
    → Holds (λ xs. list_all test xs ≡ true) (each_reading read m ts)
each_holds test read h m none = refl
each_holds test read h m (t ▸ ts) =
    both_holds (λ x. test x ≡ true) (λ xs. list_all test xs ≡ true) (λ xs. list_all test xs ≡ true) (λ x xs. x ∷ xs) (read m t) (each_reading read (m + item_count t) ts)
    (h m t) (each_holds test read h (m + item_count t) ts) (λ x xs u v. and_from (test x) (list_all test xs) u v)

-- the same for a given number of items
pub counted_holds : {X : Type 0} (test : X → Bool) (read : ℕ → Tree → Reading X) → ((n : ℕ) (t : Tree) → Holds (λ x. test x ≡ true) (read n t)) → (n k m : ℕ) (ts : Trees)
    → Holds (λ xs. (list_all test xs ≡ true) × (length xs ≡ k)) (counted_reading read n k m ts)
counted_holds test read h n zero m none = (refl, refl)
counted_holds test read h n (suc k) m none = tt
counted_holds test read h n zero m (t ▸ ts) = tt
counted_holds test read h n (suc k) m (t ▸ ts) =
    both_holds (λ x. test x ≡ true) (λ xs. (list_all test xs ≡ true) × (length xs ≡ k)) (λ xs. (list_all test xs ≡ true) × (length xs ≡ suc k)) (λ x xs. x ∷ xs)
    (read m t) (counted_reading read n k (m + item_count t) ts) (h m t) (counted_holds test read h n k (m + item_count t) ts)
    (λ x xs u v. (and_from (test x) (list_all test xs) u v.0, ap suc v.1))

-- the same for items that declare names
pub declared_holds : {X : Type 0} (test : X → Bool) (read : List (List ℕ) → ℕ → Tree → Reading X) (declares : Tree → List (List ℕ))
    → ((before : List (List ℕ)) (n : ℕ) (t : Tree) → Holds (λ x. test x ≡ true) (read before n t)) → (before : List (List ℕ)) (m : ℕ) (ts : Trees)
    → Holds (λ xs. list_all test xs ≡ true) (declared_reading read declares before m ts)
declared_holds test read declares h before m none = refl
declared_holds test read declares h before m (t ▸ ts) =
    both_holds (λ x. test x ≡ true) (λ xs. list_all test xs ≡ true) (λ xs. list_all test xs ≡ true) (λ x xs. x ∷ xs)
    (read before m t) (declared_reading read declares (before ++ declares t) (m + item_count t) ts)
    (h before m t) (declared_holds test read declares h (before ++ declares t) (m + item_count t) ts) (λ x xs u v. and_from (test x) (list_all test xs) u v)

-- there are as many as names, if each declares one
pub declared_counts : {X : Type 0} (read : List (List ℕ) → ℕ → Tree → Reading X) (declares : Tree → List (List ℕ))
    → ((before : List (List ℕ)) (n : ℕ) (t : Tree) → Holds (λ x. length (declares t) ≡ 1) (read before n t)) → (before : List (List ℕ)) (m : ℕ) (ts : Trees)
    → Holds (λ xs. length xs ≡ length (all_declared declares ts)) (declared_reading read declares before m ts)
declared_counts read declares h before m none = refl
declared_counts read declares h before m (t ▸ ts) =
    both_holds (λ x. length (declares t) ≡ 1) (λ xs. length xs ≡ length (all_declared declares ts)) (λ xs. length xs ≡ length (declares t ++ all_declared declares ts)) (λ x xs. x ∷ xs)
    (read before m t) (declared_reading read declares (before ++ declares t) (m + item_count t) ts)
    (h before m t) (declared_counts read declares h (before ++ declares t) (m + item_count t) ts)
    (λ x xs u v. omega (arith, u, v, length-append (declares t) (all_declared declares ts)))
