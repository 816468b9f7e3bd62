-- The cells of columns: read, written, and at first.
use Rattle.std.proofs.Common.{◌≡◌, ℕ, ◌+◌, ◌<◌, Bool, true, false, cond, List, [], ◌∷◌, ◌++◌, length, take, map, get_or, set, Some, Option, refl, sym, ap, ap₂, ◌∙◌, arith}
use Rattle.std.specs.Prelude.{ℤ, pos, ◌==◌, ◌≢◌, unwrap_or, if◌then◌else◌, Result, Ok, Err, OnErr}
use Rattle.std.specs.Map.{lookup}
use Rattle.std.specs.Ordering.{int_cmp, int_eq}
use Rattle.std.specs.BTreeMap.{get, is_at, IsEmpty, IsUnchanged, Updates}
use Rattle.std.proofs.lemmas.Bool.Decides.{nat_tests}
use Rattle.std.proofs.lemmas.List.{get_or-set_same, get_or-set_other, get_or-map, map-set, map_more, map-append, length-map}
use Rattle.std.proofs.Math.Seq.{map-set_same}
use Rattle.lc_term.specs.Meaning.{affine, stored}
use Rattle.lc_term.specs.State.{cells_of, column_at, with_cell, initial_columns}
use Rattle.lc_term.specs.declared.state.Cells.{Cells}

-- a column in which nothing is written
pub cells_of-empty : (cells : Cells) → IsEmpty cells.written → cells_of cells ≡ affine cells.slope cells.start
cells_of-empty cells e = λ p i. unwrap_or (lookup (is_at (int_cmp i)) (e p)) (affine cells.slope cells.start i)

read_at : (here : Bool) (o : Option ℤ) (v n : ℤ) → unwrap_or (cond here (Some v) o) n ≡ (if here then v else unwrap_or o n)
read_at true o v n = refl
read_at false o v n = refl

-- one more cell written
pub cells_of-insert : (old new : Cells) (i v : ℤ) → new.slope ≡ old.slope → new.start ≡ old.start → Updates int_cmp old.written new.written i (Some v) →
    cells_of new ≡ stored (cells_of old) i v
cells_of-insert old new i v a b u =
    let at : (j : ℤ) → cells_of new j ≡ stored (cells_of old) i v j =
    λ j. (λ p. unwrap_or (u.0 j p) (affine (a p) (b p) j)) ∙ read_at (int_eq i j) (get int_cmp old.written j) v (affine old.slope old.start j) in
    λ p j. at j p

-- the column that is read
pub column_at-map : {A : Type 0} (f : A → ℤ → ℤ) (xs : List A) (c : ℕ) (x : A) → c < length xs → x ≡ get_or xs c x → column_at (map f xs) c ≡ f x
column_at-map f xs c x h e = get_or-map f xs c x (λ i. pos 0) h ∙ ap f (sym e)

column_at-same : (fs : List (ℤ → ℤ)) (c d : ℕ) (f : ℤ → ℤ) → c < length fs → c ≡ d → column_at (set fs c f) d ≡ f
column_at-same fs c d f h e = ap (column_at (set fs c f)) (sym e) ∙ get_or-set_same fs c f (λ i. pos 0) h

column_at-other : (fs : List (ℤ → ℤ)) (c d : ℕ) (f : ℤ → ℤ) → d ≢ c → column_at (set fs c f) d ≡ column_at fs d
column_at-other fs c d f e = get_or-set_other fs c d f (λ i. pos 0) e

set_at : (fs : List (ℤ → ℤ)) (c d : ℕ) (f : ℤ → ℤ) → c < length fs → (here : Bool) → (c == d) ≡ here → column_at (set fs c f) d ≡ (if here then f else column_at fs d)
set_at fs c d f h true e = column_at-same fs c d f h (grind (arith, nat_tests))
set_at fs c d f h false e = column_at-other fs c d f (grind (arith, nat_tests))

-- if the column is the one that is written, its old cells are those of that column
same_column : (s : ℕ → ℤ → ℤ) (c d : ℕ) (i v : ℤ) (here : Bool) → (c == d) ≡ here →
    (if here then stored (s c) i v else s d) ≡ (if here then stored (s d) i v else s d)
same_column s c d i v true e = ap (λ k. stored (s k) i v) (grind (arith, nat_tests))
same_column s c d i v false e = refl

-- one cell of one column written, whatever shows the cells of a column
pub column_at-write : {A : Type 0} (f : A → ℤ → ℤ) (xs : List A) (c : ℕ) (old new : A) (i v : ℤ) → c < length xs → old ≡ get_or xs c old → f new ≡ stored (f old) i v →
    column_at (map f (set xs c new)) ≡ with_cell (column_at (map f xs)) c i v
column_at-write f xs c old new i v h is e =
    let fs = map f xs in
    let small : c < length fs = rw length-map h in
    let at : (d : ℕ) → column_at (map f (set xs c new)) d ≡ with_cell (column_at fs) c i v d =
    λ d. ap (λ gs. column_at gs d) (map-set f xs c new) ∙ set_at fs c d (f new) small (c == d) refl ∙
    ap (λ g. if c == d then g else column_at fs d) (e ∙ ap (λ g. stored g i v) (sym (column_at-map f xs c old h is))) ∙
    same_column (column_at fs) c d i v (c == d) refl in
    λ p d. at d p

-- one cell of one column written
pub state_of-write : (xs : List Cells) (c : ℕ) (old new : Cells) (i v : ℤ) → c < length xs → old ≡ get_or xs c old → cells_of new ≡ stored (cells_of old) i v →
    column_at (map cells_of (set xs c new)) ≡ with_cell (column_at (map cells_of xs)) c i v
state_of-write = column_at-write cells_of

-- a column whose written cells stay
cells_of-unchanged : (old new : Cells) → new.slope ≡ old.slope → new.start ≡ old.start → IsUnchanged old.written new.written → cells_of new ≡ cells_of old
cells_of-unchanged old new a b u = λ p j. unwrap_or (lookup (is_at (int_cmp j)) (u p)) (affine (a p) (b p) j)

pub columns-unchanged : (xs : List Cells) (c : ℕ) (old new : Cells) → old ≡ get_or xs c old → new.slope ≡ old.slope → new.start ≡ old.start →
    IsUnchanged old.written new.written → map cells_of (set xs c new) ≡ map cells_of xs
columns-unchanged xs c old new is a b u = map-set_same cells_of xs c new old (cells_of-unchanged old new a b u ∙ ap cells_of is)

-- one more initial column
pub initial_columns-more : (xs : List Cells) (numbers : List (ℤ × ℤ)) (i : ℕ) (new : Cells) (d : ℤ × ℤ) → i < length numbers →
    new.slope ≡ (get_or numbers i d).0 → new.start ≡ (get_or numbers i d).1 → IsEmpty new.written →
    map cells_of xs ≡ initial_columns (take i numbers) → map cells_of (xs ++ new ∷ []) ≡ initial_columns (take (i + 1) numbers)
initial_columns-more xs numbers i new d h a b e before =
    map-append cells_of xs (new ∷ []) ∙
    ap₂ (λ fs f. fs ++ f ∷ []) before (cells_of-empty new e ∙ ap₂ affine a b) ∙
    sym (map_more (λ p. affine p.0 p.1) numbers i d h)

pub on_err : {T E P : Type 0} → (r : Result T E) → P → OnErr r P
on_err (Ok x) h = tt
on_err (Err e) h = h
