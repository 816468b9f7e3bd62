-- Parts in a row, and in lists, that are printed as they stood.
use Rattle.std.proofs.Common.{◌≡◌, ℕ, ◌+◌, Bool, true, false, cond, List, [], ◌∷◌, ◌++◌, append-nil, Option, Some, None, map, length, refl, sym, ap, ap₂, ◌∙◌, subst, arith}
use Rattle.std.specs.Prelude.{suc, zero, option_map, slice_index_or}
use Rattle.lc_base.specs.NameText.{is_name}
use Rattle.lc_sexp.specs.Trees.{Tree, Trees, atom, list, none, ◌▸◌, item_count, row}
use Rattle.lc_reading.proofs.Fine.{IfFine, if_fine_unit, if_fine_weaker, cond_fine, mapped_fine, both_fine}
use Rattle.lc_reading.proofs.Words.{is-true}
use Rattle.lc_reading.specs.Flaws.{at}
use Rattle.lc_reading.specs.Listed.{place_of, declared_by}
use Rattle.lc_reading.specs.Naming.{use_reading, known, name_reading, declaration_reading}
use Rattle.lc_reading.specs.Readings.{Reading, fine, flawed, wrong, both, three, limited, listed_reading, behind_reading, three_of}
use Rattle.lc_reading.specs.Rows.{each_reading, counted_reading, declared_reading, all_declared}
use Rattle.lc_reading.specs.Words.{is, is_long}
use Rattle.lc_reading.specs.declared.pass.Pass.TheVariants.{Shape, Bound}
use Rattle.lc_text_laws.proofs.Alike.{ended_at, flawed_fine}

-- ---- rows

pub both_trees : (t u : Tree) (ts us : Trees) → t ≡ u → ts ≡ us → t ▸ ts ≡ u ▸ us
both_trees t u ts us a b = ap₂ (λ t ts. t ▸ ts) a b

module _ {X : Type 0} (tree : X → Tree) where
  -- these are printed as this row stood
  abbrev pub IsRow : Trees → List X → Type 0
  IsRow ts xs = row (map tree xs) ≡ ts

  pub each_row : (read : ℕ → Tree → Reading X) → ((n : ℕ) (t : Tree) → IfFine (read n t) (λ x. tree x ≡ t)) → (m : ℕ) (ts : Trees) → IfFine (each_reading read m ts) (IsRow ts)
  each_row read h m none = refl
  each_row read h m (t ▸ ts) =
      both_fine (λ x. tree x ≡ t) (IsRow ts) (IsRow (t ▸ ts)) (λ x xs. x ∷ xs) (read m t) (each_reading read (m + item_count t) ts) (h m t) (each_row read h (m + item_count t) ts)
      (λ x xs a b. both_trees (tree x) t (row (map tree xs)) ts a b)

  pub counted_row : (read : ℕ → Tree → Reading X) → ((n : ℕ) (t : Tree) → IfFine (read n t) (λ x. tree x ≡ t)) → (n k m : ℕ) (ts : Trees) → IfFine (counted_reading read n k m ts) (IsRow ts)
  counted_row read h n zero m none = refl
  counted_row read h n (suc k) m none = tt
  counted_row read h n zero m (t ▸ ts) = tt
  counted_row read h n (suc k) m (t ▸ ts) =
      both_fine (λ x. tree x ≡ t) (IsRow ts) (IsRow (t ▸ ts)) (λ x xs. x ∷ xs) (read m t) (counted_reading read n k (m + item_count t) ts) (h m t) (counted_row read h n k (m + item_count t) ts)
      (λ x xs a b. both_trees (tree x) t (row (map tree xs)) ts a b)

  pub declared_row : (read : List (List ℕ) → ℕ → Tree → Reading X) (declares : Tree → List (List ℕ)) → ((before : List (List ℕ)) (n : ℕ) (t : Tree) → IfFine (read before n t) (λ x. tree x ≡ t))
      → (before : List (List ℕ)) (m : ℕ) (ts : Trees) → IfFine (declared_reading read declares before m ts) (IsRow ts)
  declared_row read declares h before m none = refl
  declared_row read declares h before m (t ▸ ts) =
      both_fine (λ x. tree x ≡ t) (IsRow ts) (IsRow (t ▸ ts)) (λ x xs. x ∷ xs) (read before m t) (declared_reading read declares (before ++ declares t) (m + item_count t) ts) (h before m t)
      (declared_row read declares h (before ++ declares t) (m + item_count t) ts) (λ x xs a b. both_trees (tree x) t (row (map tree xs)) ts a b)

-- ---- lists

module _ {X : Type 0} (parts : X → Trees) where
  pub in_list : (read : ℕ → ℕ → Trees → Reading X) → ((n m : ℕ) (ts : Trees) → IfFine (read n m ts) (λ x. parts x ≡ ts)) → (n : ℕ) (t : Tree) → IfFine (listed_reading read n t) (λ x. list (parts x) ≡ t)
  in_list read h n (atom w) = tt
  in_list read h n (list ts) = if_fine_weaker (λ x. parts x ≡ ts) (λ x. list (parts x) ≡ list ts) (read n (n + 1) ts) (λ x e. ap list e) (h n (n + 1) ts)

  behind_at : (word w : List ℕ) (b : Bool) (r : Reading X) (n : ℕ) (ts : Trees) → is w word ≡ b → IfFine r (λ x. parts x ≡ ts)
      → IfFine (cond b r (wrong Shape n)) (λ x. list (atom word ▸ parts x) ≡ list (atom w ▸ ts))
  behind_at word w true r n ts is h =
      if_fine_weaker (λ x. parts x ≡ ts) (λ x. list (atom word ▸ parts x) ≡ list (atom w ▸ ts)) r (λ x e. ap list (both_trees _ _ _ _ (ap atom (sym (is-true w word is))) e)) h
  behind_at word w false r n ts is h = tt

  pub behind_word : (word : List ℕ) (read : ℕ → ℕ → Trees → Reading X) → ((n m : ℕ) (ts : Trees) → IfFine (read n m ts) (λ x. parts x ≡ ts)) → (n : ℕ) (t : Tree)
      → IfFine (behind_reading word read n t) (λ x. list (atom word ▸ parts x) ≡ t)
  behind_word word read h n (atom w) = tt
  behind_word word read h n (list none) = tt
  behind_word word read h n (list (list us ▸ ts)) = tt
  behind_word word read h n (list (atom w ▸ ts)) = behind_at word w (is w word) (read n (n + 2) ts) n ts refl (h n (n + 2) ts)

pub limited_fine : {X : Type 0} (P : X → Type 0) (beyond : Bool) (n : ℕ) (r : Reading X) → IfFine r P → IfFine (limited beyond n r) P
limited_fine P true n r h = flawed_fine P (at Bound n) r
limited_fine P false n r h = h

-- under a premise
pub when_fine : {X : Type 0} (H : Type 0) (P : X → Type 0) (r : Reading X) → (H → IfFine r P) → IfFine r (λ x. H → P x)
when_fine H P (fine x) h = h
when_fine H P (flawed f) h = tt

pub three_at : {X Y Z W : Type 0} (P : X → Type 0) (Q : Y → Type 0) (R : Z → Type 0) (S : Trees → W → Type 0) (f : X → Y → Z → W) (m : ℕ) (t u v : Tree) (ts : Trees) (r : Reading X) (s : Reading Y) (q : Reading Z)
    → IfFine r P → IfFine s Q → IfFine q R → ((x : X) (y : Y) (z : Z) → P x → Q y → R z → S none (f x y z)) → IfFine (three_of f m t u v ts r s q) (S ts)
three_at {X} {Y} P Q R S f m t u v ts r s q h g i k =
    ended_at S (m + item_count t + item_count u + item_count v) ts (three f r s q)
    (both_fine (λ (p : X × Y). P p.0 × Q p.1) R (S none) (λ (p : X × Y) z. f p.0 p.1 z) (both (λ x y. (x, y)) r s) q
    (both_fine P Q (λ (p : X × Y). P p.0 × Q p.1) (λ x y. (x, y)) r s h g (λ x y a b. (a, b))) i (λ p z a b. k p.0 p.1 z a.0 a.1 b))

-- ---- names

pub name_stood : (limit : Option ℕ) (before : List (List ℕ)) (n : ℕ) (t : Tree) → IfFine (name_reading limit before n t) (λ w. atom w ≡ t)
name_stood limit before n (list ts) = tt
name_stood limit before n (atom w) =
    mapped_fine (λ u. Unit {0}) (λ v. atom v ≡ atom w) (λ u. w) (declaration_reading limit before n (atom w)) (if_fine_unit (declaration_reading limit before n (atom w))) (λ u e. refl)

-- names that are printed in a row are declared there
pub declared_names : (ws : List (List ℕ)) → all_declared declared_by (row (map atom ws)) ≡ ws
declared_names [] = refl
declared_names (w ∷ ws) = ap (λ vs. w ∷ vs) (declared_names ws)

-- a name is at its first place
first_place : (v w : List ℕ) (vs ys : List (List ℕ)) (k : ℕ) (b : Bool) (o : Option ℕ) → is w v ≡ b → ((j : ℕ) → o ≡ Some j → slice_index_or (vs ++ ys) j [] ≡ w)
    → cond b (Some 0) (option_map suc o) ≡ Some k → slice_index_or (v ∷ vs ++ ys) k [] ≡ w
first_place v w vs ys k true o same later e = let here : 0 ≡ k = cc in subst (λ i. slice_index_or (v ∷ vs ++ ys) i [] ≡ w) here (sym (is-true w v same))
first_place v w vs ys k false None same later e = absurd (cc)
first_place v w vs ys k false (Some j) same later e = let behind : suc j ≡ k = cc in subst (λ i. slice_index_or (v ∷ vs ++ ys) i [] ≡ w) behind (later j refl)

-- the name at its place, among names before others
pub at_place : (xs ys : List (List ℕ)) (w : List ℕ) (k : ℕ) → place_of xs w ≡ Some k → slice_index_or (xs ++ ys) k [] ≡ w
at_place [] ys w k e = absurd (cc)
at_place (v ∷ vs) ys w k e = first_place v w vs ys k (is w v) (place_of vs w) refl (λ j is. at_place vs ys w j is) e

-- the same after others
pub behind_place : (xs ys : List (List ℕ)) (w : List ℕ) (k : ℕ) → place_of ys w ≡ Some k → slice_index_or (xs ++ ys) (length xs + k) [] ≡ w
behind_place [] ys w k e =
    let here : 0 + k ≡ k = omega arith in
    ap (λ i. slice_index_or ys i []) here ∙ ap (λ l. slice_index_or l k []) (sym (append-nil ys)) ∙ at_place ys [] w k e
behind_place (v ∷ vs) ys w k e =
    let behind : suc (length vs) + k ≡ suc (length vs + k) = omega arith in
    ap (λ i. slice_index_or (v ∷ vs ++ ys) i []) behind ∙ behind_place vs ys w k e

-- the name that is used
known_stood : (spell : ℕ → List ℕ) (n : ℕ) (w : List ℕ) (o : Option ℕ) → ((k : ℕ) → o ≡ Some k → spell k ≡ w) → IfFine (known n w o) (λ k. atom (spell k) ≡ atom w)
known_stood spell n w None h = tt
known_stood spell n w (Some k) h = cond_fine (λ k. atom (spell k) ≡ atom w) (is_long w) (wrong Bound n) (fine k) tt (ap atom (h k refl))

pub use_stood : (names : List (List ℕ)) (spell : ℕ → List ℕ) → ((w : List ℕ) (k : ℕ) → place_of names w ≡ Some k → spell k ≡ w) → (n : ℕ) (t : Tree) → IfFine (use_reading names n t) (λ k. atom (spell k) ≡ t)
use_stood names spell h n (list ts) = tt
use_stood names spell h n (atom w) = cond_fine (λ k. atom (spell k) ≡ atom w) (is_name w) (known n w (place_of names w)) (wrong Shape n) (known_stood spell n w (place_of names w) (λ k e. h w k e)) tt
