-- What holds of a value, if a text reads as one.
use Rattle.std.proofs.Common.{◌≡◌, ℕ, ◌+◌, ◌<◌, Bool, true, false, cond, List, arith, subst}
use Rattle.lc_sexp.specs.Trees.{Tree, Trees, atom, list, none, ◌▸◌, item_count, item_count_of_all}
use Rattle.lc_reading.specs.Readings.{Reading, fine, flawed, wrong, mapped, both, ended, two_of, three_of, behind_reading}
use Rattle.lc_reading.specs.Words.{is}
use Rattle.lc_reading.specs.declared.pass.Pass.TheVariants.{Shape}

abbrev pub IfFine : {X : Type 0} → Reading X → (X → Type 0) → Type 0
IfFine (fine x) P = P x
IfFine (flawed f) P = Unit {0}

pub if_fine_unit : {X : Type 0} (r : Reading X) → IfFine r (λ x. Unit {0})
if_fine_unit (fine x) = tt
if_fine_unit (flawed f) = tt

pub if_fine_weaker : {X : Type 0} (P Q : X → Type 0) (r : Reading X) → ((x : X) → P x → Q x) → IfFine r P → IfFine r Q
if_fine_weaker P Q (fine x) f h = f x h
if_fine_weaker P Q (flawed g) f h = tt

pub cond_fine : {X : Type 0} (P : X → Type 0) (b : Bool) (r s : Reading X) → IfFine r P → IfFine s P → IfFine (cond b r s) P
cond_fine P true r s h g = h
cond_fine P false r s h g = g

pub mapped_fine : {X Y : Type 0} (P : X → Type 0) (Q : Y → Type 0) (f : X → Y) (r : Reading X) → IfFine r P → ((x : X) → P x → Q (f x)) → IfFine (mapped f r) Q
mapped_fine P Q f (fine x) h k = k x h
mapped_fine P Q f (flawed g) h k = tt

pub both_fine : {X Y Z : Type 0} (P : X → Type 0) (Q : Y → Type 0) (R : Z → Type 0) (f : X → Y → Z) (r : Reading X) (s : Reading Y) → IfFine r P → IfFine s Q → ((x : X) (y : Y) → P x → Q y → R (f x y))
    → IfFine (both f r s) R
both_fine P Q R f (fine x) (fine y) h g k = k x y h g
both_fine P Q R f (fine x) (flawed e) h g k = tt
both_fine P Q R f (flawed e) (fine y) h g k = tt
both_fine P Q R f (flawed e) (flawed e') h g k = tt

pub ended_fine : {X : Type 0} (P : X → Type 0) (m : ℕ) (ts : Trees) (r : Reading X) → IfFine r P → IfFine (ended m ts r) P
ended_fine P m none r h = h
ended_fine P m (t ▸ ts) (fine x) h = tt
ended_fine P m (t ▸ ts) (flawed f) h = tt

pub two_fine : {X Y Z : Type 0} (P : X → Type 0) (Q : Y → Type 0) (R : Z → Type 0) (f : X → Y → Z) (m : ℕ) (t u : Tree) (ts : Trees) (r : Reading X) (s : Reading Y) → IfFine r P → IfFine s Q
    → ((x : X) (y : Y) → P x → Q y → R (f x y)) → IfFine (two_of f m t u ts r s) R
two_fine P Q R f m t u ts r s h g k = ended_fine R (m + item_count t + item_count u) ts (both f r s) (both_fine P Q R f r s h g k)

pub three_fine : {X Y Z W : Type 0} (P : X → Type 0) (Q : Y → Type 0) (R : Z → Type 0) (S : W → Type 0) (f : X → Y → Z → W) (m : ℕ) (t u v : Tree) (ts : Trees) (r : Reading X) (s : Reading Y) (q : Reading Z)
    → IfFine r P → IfFine s Q → IfFine q R → ((x : X) (y : Y) (z : Z) → P x → Q y → R z → S (f x y z)) → IfFine (three_of f m t u v ts r s q) S
three_fine {X} {Y} P Q R S f m t u v ts r s q h g i k =
    ended_fine S (m + item_count t + item_count u + item_count v) ts (both (λ (p : X × Y) z. f p.0 p.1 z) (both (λ x y. (x, y)) r s) q)
    (both_fine (λ (p : X × Y). P p.0 × Q p.1) R S (λ (p : X × Y) z. f p.0 p.1 z) (both (λ x y. (x, y)) r s) q
    (both_fine P Q (λ (p : X × Y). P p.0 × Q p.1) (λ x y. (x, y)) r s h g (λ x y a b. (a, b))) i (λ p z a b. k p.0 p.1 z a.0 a.1 b))

-- the items of a list after its word, which are fewer
pub behind_fine : {X : Type 0} (P : X → Type 0) (word : List ℕ) (read : ℕ → ℕ → Trees → Reading X) (n : ℕ) (t : Tree)
    → ((m : ℕ) (ts : Trees) → item_count_of_all ts < item_count t → IfFine (read n m ts) P) → IfFine (behind_reading word read n t) P
behind_fine P word read n (atom w) h = tt
behind_fine P word read n (list none) h = tt
behind_fine P word read n (list (list us ▸ ts)) h = tt
behind_fine P word read n (list (atom w ▸ ts)) h = cond_fine P (is w word) (read n (n + 2) ts) (wrong Shape n) (h (n + 2) ts (omega arith)) tt

-- what holds of each value that is read
pub of_fine : {X : Type 0} (P : X → Type 0) (r : Reading X) (x : X) → IfFine r P → r ≡ fine x → P x
of_fine {X} P r x h e = subst (λ (r : Reading X). IfFine r P) e h
