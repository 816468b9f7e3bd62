-- Items that are read by their places.
use Rattle.std.proofs.Common.{◌≡◌, ℕ, ◌+◌, List, [], Bool, true, false, refl, sym, ap, ◌∙◌, cond}
use Rattle.lc_sexp.specs.Parts.{fits, misshapen, is_fitting, begins_form}
use Rattle.lc_sexp.specs.Trees.{Tree, Trees, atom, list, none, ◌▸◌, item_count}
use Rattle.lc_sexp.specs.Shown.{rest_of, number_of}
use Rattle.lc_sexp.specs.declared.cursor.Cursor.{Cursor}
use Rattle.lc_reading.specs.declared.part.Part.{Part}
use Rattle.lc_reading.specs.Parts.{IsBehind, begins, tree_of, place_of}
use Rattle.lc_reading.specs.Readings.{Reading, fine, both}
use Rattle.lc_reading.specs.Words.{is}
use Rattle.lc_object_text.specs.Rows.{cons, placed_reading, lists_reading}

placed_at : {X : Type 0} (read : ℕ → ℕ → Tree → Reading X) (i j n m p : ℕ) (t : Tree) (ts us : Trees) → us ≡ t ▸ ts → p ≡ n → m ≡ n + item_count t → j ≡ i + 1
    → placed_reading read i n us ≡ both cons (read i p t) (placed_reading read j m ts)
placed_at read i j n m p t ts us rest at number next = rw (rest, at, number, next) refl

-- after one item, the others are left
pub placed_more : {X : Type 0} (read : ℕ → ℕ → Tree → Reading X) (i j : ℕ) (l behind : Cursor) (part : Part) → place_of part ≡ number_of l → IsBehind l (tree_of part) behind → j ≡ i + 1
    → placed_reading read i (number_of l) (rest_of l) ≡ both cons (read i (place_of part) (tree_of part)) (placed_reading read j (number_of behind) (rest_of behind))
placed_more read i j l behind part at next later =
    placed_at read i j (number_of l) (number_of behind) (place_of part) (tree_of part) (rest_of behind) (rest_of l) next.rest at next.number later

pub fits_where : (b : Bool) (ts : Trees) → is_fitting (cond b (fits ts) misshapen) ≡ b
fits_where true ts = refl
fits_where false ts = refl

-- a list that begins with a word, or another
same_test : (word : List ℕ) (t : Tree) (ts : Trees) → begins_form word (t ▸ ts) ≡ begins word t
same_test word (atom w) ts = refl
same_test word (list none) ts = refl
same_test word (list (list us ▸ vs)) ts = refl
same_test word (list (atom w ▸ vs)) ts = fits_where (is w word) vs

lists_at : {X : Type 0} (word : List ℕ) (read : ℕ → ℕ → Tree → Reading X) (i j n m p : ℕ) (t : Tree) (ts us : Trees) → us ≡ t ▸ ts → p ≡ n → m ≡ n + item_count t → j ≡ i + 1
    → begins_form word us ≡ true → lists_reading word read i n us ≡ both cons (read i p t) (lists_reading word read j m ts)
lists_at word read i j n m p t ts us rest at number next test =
    let here : begins word t ≡ true = sym (same_test word t ts) ∙ ap (begins_form word) (sym rest) ∙ test in
    rw (rest, at, number, next, here) refl

pub lists_more : {X : Type 0} (word : List ℕ) (read : ℕ → ℕ → Tree → Reading X) (i j : ℕ) (l behind : Cursor) (part : Part) → begins_form word (rest_of l) ≡ true → place_of part ≡ number_of l
    → IsBehind l (tree_of part) behind → j ≡ i + 1
    → lists_reading word read i (number_of l) (rest_of l) ≡ both cons (read i (place_of part) (tree_of part)) (lists_reading word read j (number_of behind) (rest_of behind))
lists_more word read i j l behind part test at next later =
    lists_at word read i j (number_of l) (number_of behind) (place_of part) (tree_of part) (rest_of behind) (rest_of l) next.rest at next.number later test

-- the next item is no such list
pub lists_stop : {X : Type 0} (word : List ℕ) (read : ℕ → ℕ → Tree → Reading X) (i n : ℕ) (ts : Trees) → begins_form word ts ≡ false → lists_reading word read i n ts ≡ fine []
lists_stop word read i n none test = refl
lists_stop word read i n (t ▸ ts) test = rw (sym (same_test word t ts) ∙ test) refl
