-- How far a walk that lays out has come.
use Rattle.std.specs.Prelude.{ℕ, ◌+◌, ◌*◌, Bool, true, false, List, [], ◌∷◌, ◌++◌}
use Rattle.lc_sexp.specs.Trees.{item_count_of_all}
use Rattle.lc_sexp.specs.Shown.{rest_of}
use Rattle.lc_layout.specs.Layout.{laid_items}
use Rattle.lc_layout.specs.declared.walk.Row.{Row}
use Rattle.lc_layout.specs.declared.walk.Walk.{Walk}

-- the text of what is left of a row
abbrev pub row_text : Row → List ℕ
row_text r = laid_items r.stage r.column r.indent r.brackets (rest_of r.rest)

-- the text after the innermost row: the rest of the row around it, and so on
abbrev pub around_text : List Row → List ℕ
around_text [] = []
around_text (r ∷ rs) = around_text rs ++ row_text r

abbrev pub left_to_lay : Walk → List ℕ
left_to_lay w = row_text w.row ++ around_text w.around.items

-- how many steps the rows around take
abbrev pub steps_around : List Row → ℕ
steps_around [] = 0
steps_around (r ∷ rs) = 2 * item_count_of_all (rest_of r.rest) + 1 + steps_around rs

-- each item takes a step, and each list one more at its end
abbrev pub steps_left : Walk → ℕ
steps_left w = 2 * item_count_of_all (rest_of w.row.rest) + steps_around w.around.items

-- what is left if a walk goes on, and nothing if it has ended
abbrev pub left_if : Bool → List ℕ → List ℕ
left_if true s = s
left_if false s = []
