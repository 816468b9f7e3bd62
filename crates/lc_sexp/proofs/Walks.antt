-- A walk over a row of trees.
use Rattle.std.proofs.Common.{◌≡◌, List, [], ◌∷◌, ◌++◌, Result, Ok, Err, refl, sym, ap, ◌∙◌, subst}
use Rattle.lc_sexp.specs.Trees.{Tree, Trees, atom, list, none, ◌▸◌, row}
use Rattle.lc_sexp.specs.TreeCode.{joined_rows, joined-none}
use Rattle.lc_sexp.specs.Parts.{any_fit}
use Rattle.lc_sexp.specs.Shown.{rest_of, number_of, text_of, item_tree, ShowsItem, IsWithin, IsBehind, IsPart, GivesPart}
use Rattle.lc_sexp.specs.declared.cursor.Cursor.{Cursor}
use Rattle.lc_sexp.specs.declared.cursor.Item.{Item}
use Rattle.lc_sexp.specs.declared.cursor.Item.TheVariants.{Atom as AtomItem, List as ListItem}
use Rattle.lc_sexp.specs.declared.misfit.Misfit.{Misfit}

pub gives_list : (old new inner : Cursor) (a b : Trees) → rest_of old ≡ list a ▸ b → IsWithin (number_of old) a inner → IsBehind old (list a) b new
    → GivesPart any_fit ShowsItem old (Ok (ListItem inner)) new
gives_list old new inner a b e within behind = subst (λ ts. IsPart any_fit ShowsItem old ts (Ok (ListItem inner)) new) (sym e) ((a, refl, within), behind)

-- what was before the rest, if an item was given
pub gave_item : (r : Result Item Misfit) (old new : Cursor) (item : Item) → r ≡ Ok item → GivesPart any_fit ShowsItem old r new → rest_of old ≡ item_tree item ▸ rest_of new
gave_item r old new item e h = at (rest_of old) item (subst (λ x. GivesPart any_fit ShowsItem old x new) e h) where
  at : (ts : Trees) (item : Item) → IsPart any_fit ShowsItem old ts (Ok item) new → ts ≡ item_tree item ▸ rest_of new
  at none item h = absurd (let e = h.0 in cc)
  at (t ▸ ts) (AtomItem a) h = ap (λ x. x ▸ ts) h.0.1 ∙ ap (λ x. atom (text_of a) ▸ x) (sym h.1.rest)
  at (t ▸ ts) (ListItem c) h = ap (λ x. x ▸ ts) h.0.1 ∙ ap (λ x. list x ▸ ts) (sym h.0.2.rest) ∙ ap (λ x. list (rest_of c) ▸ x) (sym h.1.rest)

pub gave_none : (r : Result Item Misfit) (old new : Cursor) (m : Misfit) → r ≡ Err m → GivesPart any_fit ShowsItem old r new → rest_of old ≡ none
gave_none r old new m e h = at (rest_of old) (subst (λ x. GivesPart any_fit ShowsItem old x new) e h) where
  at : (ts : Trees) → IsPart any_fit ShowsItem old ts (Err m) new → ts ≡ none
  at none h = refl
  at (t ▸ ts) h = absurd h

row_push : (xs : List Tree) (t : Tree) (us : Trees) → joined_rows (row (xs ++ (t ∷ []))) us ≡ joined_rows (row xs) (t ▸ us)
row_push [] t us = refl
row_push (x ∷ xs) t us = ap (λ y. x ▸ y) (row_push xs t us)

-- one more of a row is handed over
pub handed_over : (xs xs' : List Tree) (t u : Tree) (us us' ts : Trees) → joined_rows (row xs) us ≡ ts → us ≡ t ▸ us' → u ≡ t → xs' ≡ xs ++ (u ∷ []) → joined_rows (row xs') us' ≡ ts
handed_over xs xs' t u us us' ts h e f g =
    ap (λ x. joined_rows (row x) us') (g ∙ ap (λ x. xs ++ (x ∷ [])) f) ∙ row_push xs t us' ∙ ap (joined_rows (row xs)) (sym e) ∙ h

pub all_handed_over : (xs : List Tree) (us ts : Trees) → joined_rows (row xs) us ≡ ts → us ≡ none → row xs ≡ ts
all_handed_over xs us ts h e = sym (joined-none (row xs)) ∙ ap (joined_rows (row xs)) (sym e) ∙ h
