-- Lists that begin with a word.
use Rattle.std.proofs.Common.{◌≡◌, ℕ, ◌+◌, true, false, List, [], ◌∷◌, length, Ok, refl, sym, ap, ◌∙◌, arith}
use Rattle.std.specs.Prelude.{◌==◌}
use Rattle.std.proofs.lemmas.Bool.{eqb-true}
use Rattle.lc_fill.specs.Files.{is_nil}
use Rattle.lc_sexp.specs.Trees.{Tree, Trees, atom, list, none, ◌▸◌, item_count}
use Rattle.lc_sexp.specs.Parts.{form_fit, is_fitting, begins_form}
use Rattle.lc_sexp.specs.Shown.{rest_of, number_of}
use Rattle.lc_sexp.specs.declared.cursor.Cursor.{Cursor}
use Rattle.lc_reading.specs.Parts.{IsBehindWord, begins, tree_of, place_of}
use Rattle.lc_reading.specs.Words.{is}
use Rattle.lc_reading.specs.declared.part.Part.{Part}
use Rattle.lc_fill.specs.Filled.{Filled, Filler, as_is, inside, kept, put, followed, past}
use Rattle.lc_fill.specs.Forms.{in_form, extended, section, while_forms}

-- another item stays as it is
pub in_form-other : (word : List ℕ) (next : Filler) (n : ℕ) (t : Tree) → begins word t ≡ false → in_form word next n t ≡ as_is t
in_form-other word next n (atom w) e = refl
in_form-other word next n (list none) e = refl
in_form-other word next n (list (list us ▸ ts)) e = refl
in_form-other word next n (list (atom w ▸ ts)) e = rw e refl

in_form-at : (word w : List ℕ) (next : Filler) (n m : ℕ) (t : Tree) (ts us : Trees) → t ≡ list (atom w ▸ ts) → is w word ≡ true → m ≡ n + 2 → us ≡ ts
    → in_form word next n t ≡ inside (λ us. list (atom word ▸ us)) (next m us)
in_form-at word w next n m t ts us tree same first rest = rw (tree, same, first, rest) refl

-- what comes after the word is filled
pub in_form-is : (word : List ℕ) (next : Filler) (part : Part) (c : Cursor) → IsBehindWord word part (Ok c)
    → in_form word next (place_of part) (tree_of part) ≡ inside (λ us. list (atom word ▸ us)) (next (number_of c) (rest_of c))
in_form-is word next part c (ts, w, tree, same, within) = in_form-at word w next (place_of part) (number_of c) (tree_of part) ts (rest_of c) tree same within.first within.rest

-- no list with this word is next
pub while_forms-end : (word : List ℕ) (next : Filler) (n : ℕ) (ts : Trees) → begins_form word ts ≡ false → while_forms word next n ts ≡ next n ts
while_forms-end word next n none e = refl
while_forms-end word next n (t ▸ ts) e = rw e refl

pub while_forms-more : (word : List ℕ) (next : Filler) (n m : ℕ) (t : Tree) (us ts : Trees) → us ≡ t ▸ ts → m ≡ n + item_count t → begins_form word us ≡ true
    → while_forms word next n us ≡ kept t (while_forms word next m ts)
while_forms-more word next n m t us ts e number h =
    let there : is_fitting (form_fit word t) ≡ true = ap (begins_form word) (sym e) ∙ h in
    rw (e, number, there) refl

pub section-there : (word : List ℕ) (more : Trees) (next : Filler) (n m o : ℕ) (t : Tree) (us ts : Trees) → us ≡ t ▸ ts → m ≡ n + item_count t → o ≡ n → begins_form word us ≡ true
    → section word more next n us ≡ followed (extended word more o t) (next m ts)
section-there word more next n m o t us ts e number at h =
    let there : is_fitting (form_fit word t) ≡ true = ap (begins_form word) (sym e) ∙ h in
    rw (e, number, at, there) refl

pub section-out : (word : List ℕ) (more : Trees) (next : Filler) (n : ℕ) (ts : Trees) → begins_form word ts ≡ false
    → section word more next n ts ≡ put n (list (atom word ▸ more)) (next n ts)
section-out word more next n none e = refl
section-out word more next n (t ▸ ts) e = rw e refl

pub past-is : (next : Filler) (n m : ℕ) (t : Tree) (us ts : Trees) → us ≡ t ▸ ts → m ≡ n + item_count t → past next n us ≡ kept t (next m ts)
past-is next n m t us ts e number = rw (e, number) refl

-- how it goes on after a part, if there was one
pub past-none : (next : Filler) (n : ℕ) (us : Trees) → us ≡ none → past next n us ≡ as_is none
past-none next n us e = rw e refl

pub none_begins : (word : List ℕ) (ts : Trees) → ts ≡ none → begins_form word ts ≡ true → ⊥
none_begins word ts e h = let there : begins_form word none ≡ true = ap (begins_form word) (sym e) ∙ h in cc

pub is_nil-true : (ns : List ℕ) → (length ns == 0) ≡ true → is_nil ns ≡ true
is_nil-true [] h = refl
is_nil-true (n ∷ ns) h = absurd (omega (arith, eqb-true (length (n ∷ ns)) 0 h))

pub is_nil-false : (ns : List ℕ) → (length ns == 0) ≡ false → is_nil ns ≡ false
is_nil-false [] h = cc
is_nil-false (n ∷ ns) h = refl
