-- Names of actions, and one that is none of them.
use Rattle.std.proofs.Common.{◌≡◌, ℕ, zero, suc, ◌+◌, true, false, List, [], ◌∷◌, ◌++◌, length, Ok, refl, sym, ap, ◌∙◌, append_assoc, arith}
use Rattle.std.specs.Prelude.{codes}
use Rattle.std.specs.List.{list_any}
use Rattle.std.proofs.lemmas.Bool.{and_from}
use Rattle.std.proofs.lemmas.List.Folds.{list_all-append}
use Rattle.lc_sexp.specs.Printed.{is_atom}
use Rattle.lc_sexp.specs.Text.{class_of, is_Letter, are_letters}
use Rattle.lc_sexp.specs.Trees.{Tree, Trees, atom, list, none, ◌▸◌}
use Rattle.lc_sexp.specs.declared.cursor.Cursor.{Cursor}
use Rattle.lc_reading.specs.Parts.{IsBehindWord, begins, tree_of}
use Rattle.lc_reading.specs.Rows.{second_name, all_declared}
use Rattle.lc_reading.specs.Words.{is}
use Rattle.lc_reading.specs.declared.part.Part.{Part}
use Rattle.lc_fill.specs.Acts.{Acts, action_name, unused, acts_of}
use Rattle.lc_fill.specs.Plan.{Plan}
use Rattle.lc_fill.proofs.Rows.{append_nil}

begins-at : (word w : List ℕ) (t : Tree) (ts : Trees) → t ≡ list (atom w ▸ ts) → is w word ≡ true → begins word t ≡ true
begins-at word w t ts e same = rw e same

pub begins-is : (word : List ℕ) (part : Part) (c : Cursor) → IsBehindWord word part (Ok c) → begins word (tree_of part) ≡ true
begins-is word part c (ts, w, tree, same, within) = begins-at word w (tree_of part) ts tree same

-- the names so far, by an item more
pub one_more : (names new : List (List ℕ)) (t : Tree) (us ts : Trees) (all : List (List ℕ)) → us ≡ t ▸ ts → new ≡ names ++ action_name t → names ++ all_declared action_name us ≡ all
    → new ++ all_declared action_name ts ≡ all
one_more names new t us ts all e more so_far =
    ap (λ xs. xs ++ all_declared action_name ts) more ∙ append_assoc names (action_name t) (all_declared action_name ts)
    ∙ ap (λ xs. names ++ all_declared action_name xs) (sym e) ∙ so_far

pub none_more : (names : List (List ℕ)) (us : Trees) (all : List (List ℕ)) → us ≡ none → names ++ all_declared action_name us ≡ all → names ≡ all
none_more names us all e so_far = sym (append_nil names) ∙ ap (λ xs. names ++ all_declared action_name xs) (sym e) ∙ so_far

pub unnamed : (names : List (List ℕ)) (t : Tree) → begins (codes "action") t ≡ false → names ≡ names ++ action_name t
unnamed names t h =
    let nothing : action_name t ≡ [] = rw h refl in
    sym (append_nil names) ∙ ap (λ xs. names ++ xs) (sym nothing)

pub named : (t : Tree) → begins (codes "action") t ≡ true → action_name t ≡ second_name t
named t h = rw h refl

pub unused-stop : (names : List (List ℕ)) (n : ℕ) (w : List ℕ) → list_any (is w) names ≡ false → unused names n w ≡ w
unused-stop names zero w h = refl
unused-stop names (suc n) w h = rw h refl

pub unused-none : (names : List (List ℕ)) (n : ℕ) (w : List ℕ) → n ≡ 0 → unused names n w ≡ w
unused-none names n w e = rw e refl

pub unused-more : (names : List (List ℕ)) (n m : ℕ) (w : List ℕ) → n ≡ m + 1 → list_any (is w) names ≡ true → unused names n w ≡ unused names m (w ++ codes "-")
unused-more names zero m w e h = absurd (omega (arith, e))
unused-more names (suc n) m w e h = let same : n ≡ m = omega (arith, e) in rw (h, same) refl

pub longer : (w : List ℕ) → is_atom w ≡ true → is_atom (w ++ codes "-") ≡ true
unfolding class_of
longer [] h = cc
longer (b ∷ w) h = list_all-append (λ x. is_Letter (class_of x)) (b ∷ w) (codes "-") ∙ and_from _ _ h refl

pub todo-atom : is_atom (codes "todo") ≡ true
unfolding class_of
todo-atom = refl

-- what they make
pub acts_made : (plan : Plan) (names : List (List ℕ)) (w : List ℕ) (ts : Trees) → names ≡ all_declared action_name ts → w ≡ unused names (length names) (codes "todo")
    → (let a : Acts = record { names = names; stand_in = w; plan = plan } in a) ≡ acts_of plan ts
acts_made plan names w ts e f = rw (f, e) refl
