-- What is left of the cursors in a list, and of those in lists.
use Rattle.std.specs.Coded.{Coded-set, coded_list}
use Rattle.std.specs.Prelude.{◌≡◌, List, map, Vec}
use Rattle.std.specs.declared.alloc.Global.{Global}
use Rattle.lc_sexp.specs.Shown.{rest_of}
use Rattle.lc_sexp.specs.TreeCode.{trees_code}
use Rattle.lc_sexp.specs.Trees.{Trees}
use Rattle.lc_sexp.specs.declared.cursor.Cursor.{Cursor}

abbrev pub rests_of : List Cursor → List Trees
rests_of cursors = map rest_of cursors

abbrev pub lists_of_rests : List (Vec Cursor Global) → List (List Trees)
lists_of_rests lists = map (λ (cursors : Vec Cursor Global). rests_of cursors.items) lists

-- that lists of rows of trees are the same is known in one way at most
pub same_once : (xs ys : List (List Trees)) → IsProp (xs ≡ ys)
same_once = Coded-set (coded_list (coded_list trees_code))
