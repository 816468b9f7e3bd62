-- Lists that begin with a word.
use Rattle.std.proofs.Common.{◌≡◌, ℕ, ◌+◌, List, true, false, Ok, refl}
use Rattle.lc_sexp.specs.Trees.{Tree, Trees, atom, list, none, ◌▸◌}
use Rattle.lc_sexp.specs.Shown.{rest_of, number_of, owner_of}
use Rattle.lc_sexp.specs.declared.cursor.Cursor.{Cursor}
use Rattle.lc_reading.specs.Parts.{IsBehindWord, begins, tree_of, place_of}
use Rattle.lc_reading.specs.Readings.{Reading, wrong, behind_reading}
use Rattle.lc_reading.specs.Words.{is}
use Rattle.lc_reading.specs.declared.part.Part.{Part}
use Rattle.lc_reading.specs.declared.pass.Pass.TheVariants.{Shape}

-- another list
pub behind_reading-other : {X : Type 0} (word : List ℕ) (read : ℕ → ℕ → Trees → Reading X) (n : ℕ) (t : Tree) → begins word t ≡ false → behind_reading word read n t ≡ wrong Shape n
behind_reading-other word read n (atom w) e = refl
behind_reading-other word read n (list none) e = refl
behind_reading-other word read n (list (list us ▸ ts)) e = refl
behind_reading-other word read n (list (atom w ▸ ts)) e = rw e refl

-- what is read of the item n at o, m and us, which come after the word
behind_reading-at : {X : Type 0} (word w : List ℕ) (read : ℕ → ℕ → Trees → Reading X) (n o m : ℕ) (t : Tree) (ts us : Trees)
    → t ≡ list (atom w ▸ ts) → is w word ≡ true → o ≡ n → m ≡ n + 2 → us ≡ ts → behind_reading word read n t ≡ read o m us
behind_reading-at word w read n o m t ts us tree same owner first rest = rw (tree, same, owner, first, rest) refl

-- what comes after the word
pub behind_reading-is : {X : Type 0} (word : List ℕ) (read : ℕ → ℕ → Trees → Reading X) (part : Part) (c : Cursor) → IsBehindWord word part (Ok c)
    → behind_reading word read (place_of part) (tree_of part) ≡ read (owner_of c) (number_of c) (rest_of c)
behind_reading-is word read part c (ts, w, tree, same, within) =
    behind_reading-at word w read (place_of part) (owner_of c) (number_of c) (tree_of part) ts (rest_of c) tree same within.owner within.first within.rest
