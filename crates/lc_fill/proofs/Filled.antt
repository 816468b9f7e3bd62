-- Lists and rows that are filled part by part.
use Rattle.std.proofs.Common.{◌≡◌, ℕ, ◌+◌, Bool, true, false, List, Ok, Err, refl, sym, ap, ◌∙◌, subst}
use Rattle.std.specs.Prelude.{Result, IfOk}
use Rattle.lc_base.specs.declared.memory.OutOfMemory.{OutOfMemory}
use Rattle.lc_sexp.specs.Trees.{Tree, Trees, atom, list, none, ◌▸◌, item_count}
use Rattle.lc_sexp.specs.Shown.{rest_of, number_of}
use Rattle.lc_sexp.specs.declared.cursor.Cursor.{Cursor}
use Rattle.lc_reading.specs.Parts.{IsBehindWord, IsBehind, begins, tree_of, place_of}
use Rattle.lc_reading.specs.declared.part.Part.{Part}
use Rattle.lc_fill.specs.Filled.{Filled, Filler, as_is, inside, kept, followed, past, each}
use Rattle.lc_fill.specs.Forms.{in_form}
use Rattle.lc_fill.specs.Seen.{onto, row_view, tree_view, after}
use Rattle.lc_fill.specs.declared.row.Row.{Row}
use Rattle.lc_fill.specs.declared.row.FilledTree.{FilledTree}
use Rattle.lc_fill.proofs.Lists.{in_form-is, in_form-other}

-- the list is what its parts make
pub list_filled : (word : List ℕ) (next : Filler) (part : Part) (c : Cursor) (row behind : Row) → IsBehindWord word part (Ok c) → ((r : Filled Trees) → onto row r ≡ kept (atom word) r)
    → row_view behind ≡ onto row (next (number_of c) (rest_of c)) → inside list (row_view behind) ≡ in_form word next (place_of part) (tree_of part)
list_filled word next part c row behind at begun made = ap (inside list) (made ∙ begun (next (number_of c) (rest_of c))) ∙ sym (in_form-is word next part c at)

-- after one part
pub passed : (next : Filler) (more : Bool) (c d : Cursor) (row behind end : Row) → more ≡ true
    → ((f : Filler) → onto behind (after more f (number_of d) (rest_of d)) ≡ onto row (past f (number_of c) (rest_of c)))
    → row_view end ≡ onto behind (next (number_of d) (rest_of d)) → row_view end ≡ onto row (past next (number_of c) (rest_of c))
passed next more c d row behind end h step made = made ∙ ap (λ b. onto behind (after b next (number_of d) (rest_of d))) (sym h) ∙ step next

-- or there is none
pub stopped : (next : Filler) (more : Bool) (c d : Cursor) (row behind : Row) → more ≡ false
    → ((f : Filler) → onto behind (after more f (number_of d) (rest_of d)) ≡ onto row (past f (number_of c) (rest_of c)))
    → row_view behind ≡ onto row (past next (number_of c) (rest_of c))
stopped next more c d row behind h step = ap (λ b. onto behind (after b next (number_of d) (rest_of d))) (sym h) ∙ step next

-- one item more
pub each-more : (fill : ℕ → Tree → Filled Tree) (last : ℕ → Filled Trees) (part : Part) (c d : Cursor) → place_of part ≡ number_of c → IsBehind c (tree_of part) d
    → each fill last (number_of c) (rest_of c) ≡ followed (fill (place_of part) (tree_of part)) (each fill last (number_of d) (rest_of d))
each-more fill last part c d at behind =
    ap (each fill last (number_of c)) behind.rest
    ∙ ap (λ m. followed (fill (number_of c) (tree_of part)) (each fill last m (rest_of d))) (sym behind.number)
    ∙ ap (λ n. followed (fill n (tree_of part)) (each fill last (number_of d) (rest_of d))) (sym at)

-- the row goes on by it
pub each-pushed : (fill : ℕ → Tree → Filled Tree) (last : ℕ → Filled Trees) (part : Part) (c d : Cursor) (f : FilledTree) (old row new : Row) (all : Filled Trees)
    → place_of part ≡ number_of c → IsBehind c (tree_of part) d → tree_view f ≡ fill (place_of part) (tree_of part)
    → ((r : Filled Trees) → onto new r ≡ onto row (followed (tree_view f) r))
    → onto row (each fill last (number_of c) (rest_of c)) ≡ all
    → onto new (each fill last (number_of d) (rest_of d)) ≡ all
each-pushed fill last part c d f old row new all at behind view pushed so_far =
    pushed (each fill last (number_of d) (rest_of d))
    ∙ ap (λ x. onto row (followed x (each fill last (number_of d) (rest_of d)))) view
    ∙ ap (onto row) (sym (each-more fill last part c d at behind))
    ∙ so_far
