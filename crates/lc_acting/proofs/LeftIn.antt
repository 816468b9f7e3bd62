-- What writes leave in cells, one after another.
use Rattle.std.proofs.Common.{◌≡◌, ◌⊎◌, inl, inr, ℕ, ◌<◌, ◌≤◌, ◌+◌, ◌==◌, Bool, true, false, ◌&&◌, List, [], ◌∷◌, ◌++◌, ℤ, map, take, length, get_or, zero, suc, refl, sym, ap, ◌∙◌, subst}
use Rattle.std.specs.Prelude.{Option, Some, None, if◌then◌else◌, slice_get}
use Rattle.std.specs.Ordering.{int_eq}
use Rattle.std.proofs.lemmas.Bool.Decides.{Decides-int_eq, Decides-eqb}
use Rattle.std.proofs.lemmas.List.{map_more, take_all, get_or_default}
use Rattle.std.proofs.lemmas.Option.{same_Some}
use Rattle.lc_lemmas.proofs.Booleans.{and_parts}
use Rattle.lc_cond.proofs.Sized.{every_at}
use Rattle.lc_term.specs.Lists.{Every}
use Rattle.lc_term.specs.Meaning.{State}
use Rattle.lc_term.specs.Updates.{Write, stored_all, AreWithin}
use Rattle.lc_term.proofs.Chained.{every_one_more}
use Rattle.lc_cells.specs.Cells.{is_cell}
use Rattle.lc_cells.proofs.After.{after, stored_is, after-append}
use Rattle.lc_acting.specs.Left.{LeaveCell, IsLeft, LeaveSame, SaysApart}
use Rattle.lc_acting.specs.Attempts.{SaysSo}
use Rattle.lc_acting.proofs.Viewed.{seen_at}

-- ---- of elements, one after another

module _ {A B : Type 0} (f : A → B) (xs : List A) (i : ℕ) where
  pub taken_more : (x : A) → i < length xs → x ≡ get_or xs i x → map f (take (i + 1) xs) ≡ map f (take i xs) ++ f x ∷ []
  taken_more x lt is = map_more f xs i x lt ∙ ap (λ (y : A). map f (take i xs) ++ f y ∷ []) (sym is)

  pub every_next : (P : B → Type 0) (x : A) → i < length xs → x ≡ get_or xs i x → P (f x) → Every P (map f (take i xs)) → Every P (map f (take (i + 1) xs))
  every_next P x lt is so all = subst (λ (l : List B). Every P l) (sym (taken_more x lt is)) (every_one_more P (map f (take i xs)) (f x) all so)

  pub every_all : (P : B → Type 0) → length xs ≤ i → Every P (map f (take i xs)) → Every P (map f xs)
  every_all P past all = subst (λ (l : List A). Every P (map f l)) (take_all i xs past) all

-- the same where an element is read
pub read_more : {A B : Type 0} (f : A → B) (xs : List A) (i : ℕ) (d : A) → i < length xs → map f (take (i + 1) xs) ≡ map f (take i xs) ++ f (get_or xs i d) ∷ []
read_more f xs i d lt = taken_more f xs i (get_or xs i d) lt (get_or_default xs i d (get_or xs i d) lt)

pub read_at : {A B : Type 0} (f : A → B) (xs : List A) (i : ℕ) (d : A) → i < length xs → slice_get (map f xs) i ≡ Some (f (get_or xs i d))
read_at f xs i d lt = seen_at f xs i (get_or xs i d) lt (get_or_default xs i d (get_or xs i d) lt)

-- ---- in a cell

after_left : (ws : List Write) (c : ℕ) (i x : ℤ) → LeaveCell ws c i → after ws c i x ≡ x
after_left [] c i x h = refl
after_left (w ∷ ws) c i x h = ap (λ b. after ws c i (if b then w.value else x)) h.0 ∙ after_left ws c i x h.1

-- a cell that no write is to stays
pub left_cell : (m : State) (ws : List Write) (c : ℕ) (i : ℤ) → LeaveCell ws c i → stored_all m ws c i ≡ m c i
left_cell m ws c i h = stored_is m ws c i ∙ after_left ws c i (m c i) h

pub left_here : (ws : List Write) (w : Write) (c : ℕ) (i : ℤ) → is_cell w c i ≡ true → IsLeft (ws ++ w ∷ []) c i (Some w)
left_here ws w c i here = λ m. stored_is m (ws ++ w ∷ []) c i ∙ (after-append ws (w ∷ []) c i (m c i) ∙ ap (λ b. if b then w.value else after ws c i (m c i)) here)

pub left_before : (ws : List Write) (w : Write) (c : ℕ) (i : ℤ) (o : Option Write) → is_cell w c i ≡ false → IsLeft ws c i o → IsLeft (ws ++ w ∷ []) c i o
left_before ws w c i None other h = every_one_more (λ (u : Write). is_cell u c i ≡ false) ws w h other
left_before ws w c i (Some u) other h =
    λ m. stored_is m (ws ++ w ∷ []) c i ∙ (after-append ws (w ∷ []) c i (m c i) ∙ (ap (λ b. if b then w.value else after ws c i (m c i)) other ∙ (sym (stored_is m ws c i) ∙ h m)))

-- ---- in all cells

-- no write is to a cell, or what is so of the cells of writes is so of it
cell_by : (P : ℕ → ℤ → Type 0) (ws : List Write) (c : ℕ) (i : ℤ) → Every (λ (w : Write). P w.column w.index) ws → LeaveCell ws c i ⊎ P c i
cell_by P [] c i h = inl tt
cell_by P (w ∷ ws) c i h = by (is_cell w c i) refl (cell_by P ws c i h.1)
  where
    by : (b : Bool) → is_cell w c i ≡ b → LeaveCell ws c i ⊎ P c i → LeaveCell (w ∷ ws) c i ⊎ P c i
    by true e rest =
        let p = and_parts (w.column == c) (int_eq w.index i) e in
        inr (subst (λ (j : ℤ). P c j) ((Decides-int_eq w.index i).0 p.1) (subst (λ (d : ℕ). P d w.index) ((Decides-eqb w.column c).0 p.0) h.0))
    by false e (inl away) = inl (e, away)
    by false e (inr so) = inr so

module _ (m : State) (xs ys : List Write) (here : LeaveSame m xs ys xs) (there : LeaveSame m ys xs ys) where
  same_cell : (c : ℕ) (i : ℤ) → stored_all m xs c i ≡ stored_all m ys c i
  same_cell c i =
      by (cell_by (λ d j. stored_all m xs d j ≡ stored_all m ys d j) xs c i here) (cell_by (λ d j. stored_all m ys d j ≡ stored_all m xs d j) ys c i there)
    where
      by : LeaveCell xs c i ⊎ (stored_all m xs c i ≡ stored_all m ys c i) → LeaveCell ys c i ⊎ (stored_all m ys c i ≡ stored_all m xs c i) → stored_all m xs c i ≡ stored_all m ys c i
      by (inr so) o = so
      by (inl away) (inr so) = sym so
      by (inl away) (inl gone) = left_cell m xs c i away ∙ sym (left_cell m ys c i gone)

  -- writes that leave the same in the cells of both leave the same columns
  pub same_columns : stored_all m xs ≡ stored_all m ys
  same_columns = λ k c i. same_cell c i k

-- ---- columns that are there

pub within_at : (n : ℕ) (ws : List Write) (k : ℕ) (w : Write) → AreWithin n ws → slice_get ws k ≡ Some w → w.column < n
within_at n [] k w h e = cc
within_at n (u ∷ ws) zero w h e = subst (λ (x : Write). x.column < n) (same_Some u w e) h.0
within_at n (u ∷ ws) (suc k) w h e = within_at n ws k w h.1 e

true_false : true ≡ false → ⊥
true_false e = cc

-- a write is to its own cell
is_own_cell : (w : Write) → is_cell w w.column w.index ≡ true
is_own_cell w = λ k. (Decides-eqb w.column w.column).1 refl k && (Decides-int_eq w.index w.index).1 refl k

-- writes are to the cell of each of them
pub is_written : (ws : List Write) (k : ℕ) (w : Write) → slice_get ws k ≡ Some w → LeaveCell ws w.column w.index → ⊥
is_written ws k w at away =
    let e : is_cell w w.column w.index ≡ false = every_at (λ (u : Write). is_cell u w.column w.index ≡ false) ws k w away at in
    true_false (sym (is_own_cell w) ∙ e)

-- whether writes leave other columns than others: their cells tell
pub apart_back : (b : Bool) (m : State) (xs ys : List Write) → LeaveSame m xs ys xs → SaysApart b m ys xs → SaysSo b (stored_all m xs ≡ stored_all m ys → ⊥)
apart_back true m xs ys here so = λ e. so (sym e)
apart_back false m xs ys here so = λ differ. differ (same_columns m xs ys here so)
