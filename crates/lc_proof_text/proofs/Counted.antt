-- A row has no fewer items than names.
use Rattle.std.proofs.Common.{◌≡◌, ℕ, ◌+◌, ◌<◌, ◌≤◌, ◌^◌, Bool, true, false, cond, List, [], length, length-append, Ok, Some, None, Option, IfSome, refl, ap, arith}
use Rattle.lc_sexp.specs.Shown.{rest_of}
use Rattle.lc_sexp.specs.Trees.{Tree, Trees, atom, list, none, ◌▸◌, item_count, item_count_of_all}
use Rattle.lc_sexp.specs.declared.cursor.Cursor.{Cursor}
use Rattle.lc_reading.proofs.Places.{place_below}
use Rattle.lc_reading.specs.Listed.{declared_by, names_among, place_of}
use Rattle.lc_reading.specs.Parts.{IsOne, tree_of}
use Rattle.lc_reading.specs.Words.{is}
use Rattle.lc_reading.specs.declared.part.Part.{Part}
use Rattle.lc_proof_text.specs.FileNames.{names_behind}

one_declared : (t : Tree) → length (declared_by t) ≤ item_count t
one_declared (atom w) = omega arith
one_declared (list ts) = omega arith

pub names_counted : (ts : Trees) → length (names_among ts) ≤ item_count_of_all ts
names_counted none = omega arith
names_counted (t ▸ ts) = omega (arith, length-append (declared_by t) (names_among ts), one_declared t, names_counted ts)

-- those of a section
pub behind_counted : (word : List ℕ) (t : Tree) → length (names_behind word t) ≤ item_count t
behind_counted word (atom w) = omega arith
behind_counted word (list none) = omega arith
behind_counted word (list (list us ▸ ts)) = omega arith
behind_counted word (list (atom w ▸ ts)) = if_word (is w word) where
  if_word : (b : Bool) → length (cond b (names_among ts) []) ≤ item_count (list (atom w ▸ ts))
  if_word true = omega (arith, names_counted ts)
  if_word false = omega arith

pub one_counted : (old new : Cursor) (part : Part) → IsOne old (Ok (part, new)) → item_count_of_all (rest_of old) ≡ item_count (tree_of part) + item_count_of_all (rest_of new)
one_counted old new part one = ap item_count_of_all one.0

-- a place has 32 bits if there are fewer than 2 ^ 32 names
pub place_fits : (vs : List (List ℕ)) (w : List ℕ) → length vs < 2 ^ 32 → IfSome (place_of vs w) (λ k. k < 2 ^ 32)
place_fits vs w few = of_place (place_of vs w) (λ k e. place_below vs w k e) where
  of_place : (o : Option ℕ) → ((k : ℕ) → o ≡ Some k → k < length vs) → IfSome o (λ k. k < 2 ^ 32)
  of_place None h = tt
  of_place (Some k) h = omega (arith, h k refl, few)
