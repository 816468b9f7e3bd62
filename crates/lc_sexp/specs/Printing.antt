-- How far a walk that prints has come.
use Rattle.std.specs.Prelude.{ℕ, ◌+◌, ◌*◌, Bool, true, false, List, [], ◌∷◌, ◌++◌}
use Rattle.lc_sexp.specs.Trees.{Trees, item_count_of_all}
use Rattle.lc_sexp.specs.Printed.{printed_items, printed_others}
use Rattle.lc_sexp.specs.Shown.{rest_of}
use Rattle.lc_sexp.specs.declared.cursor.Cursor.{Cursor}
use Rattle.lc_sexp.specs.declared.printing.Walk.{Walk}

-- the text of a row, part of which was printed already unless it is fresh
abbrev pub printed_rest : Bool → Trees → List ℕ
printed_rest true ts = printed_items ts
printed_rest false ts = printed_others ts

-- the text after the innermost row: its bracket, then the rest of the row around it, and so on
abbrev pub printed_around : List Cursor → List ℕ
printed_around [] = []
printed_around (c ∷ cs) = printed_around cs ++ (41 ∷ printed_others (rest_of c))

abbrev pub left_to_print : Walk → List ℕ
left_to_print w = printed_rest w.fresh (rest_of w.rest) ++ printed_around w.around.items

-- how many steps the rows around take
abbrev pub steps_around : List Cursor → ℕ
steps_around [] = 0
steps_around (c ∷ cs) = 2 * item_count_of_all (rest_of c) + 1 + steps_around cs

-- each item takes a step, and each list one more at its end
abbrev pub steps_left : Walk → ℕ
steps_left w = 2 * item_count_of_all (rest_of w.rest) + steps_around w.around.items
