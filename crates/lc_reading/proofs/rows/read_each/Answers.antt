use Rattle.std.proofs.Common.{◌≡◌, ℕ, ◌∷◌, sym, ap, ◌∙◌}
use Rattle.lc_sexp.specs.Trees.{Tree}
use Rattle.lc_sexp.specs.Shown.{rest_of, number_of}
use Rattle.lc_sexp.specs.declared.cursor.Cursor.{Cursor}
use Rattle.lc_reading.specs.declared.part.Part.{Part}
use Rattle.lc_reading.specs.Parts.{IsBehind, tree_of, place_of}
use Rattle.lc_reading.specs.Readings.{Reading, both}
use Rattle.lc_reading.specs.Rows.{each_reading}
use Rattle.lc_reading.proofs.SoFar.{so_far_push, each_end}
use Rattle.lc_reading.proofs.rows.read_each.Goals as goal

-- after one item, the others are left
one_more : {X : Type 0} (read : ℕ → Tree → Reading X) (l behind : Cursor) (part : Part) → place_of part ≡ number_of l → IsBehind l (tree_of part) behind
    → each_reading read (number_of l) (rest_of l) ≡ both (λ x xs. x ∷ xs) (read (place_of part) (tree_of part)) (each_reading read (number_of behind) (rest_of behind))
one_more read l behind part at next =
    ap (each_reading read (number_of l)) next.rest
    ∙ ap (λ m. both (λ x xs. x ∷ xs) (read (number_of l) (tree_of part)) (each_reading read m (rest_of behind))) (sym next.number)
    ∙ ap (λ n. both (λ x xs. x ∷ xs) (read n (tree_of part)) (each_reading read (number_of behind) (rest_of behind))) (sym at)

pub returns-in_default : goal.returns-in_default
returns-in_default g c =
    each_end g.R.Reads.meaning _ _ c.items.values (ap (each_reading (g.R.Reads.reading c.args.reader.now) (number_of c.items.rest)) c.in_default.ensures.1) c.items.invariant

pub items-preserved : goal.items-preserved
items-preserved g c =
    let (at, next) = c.in-Ok.ensures in
    let left = one_more (g.R.Reads.reading c.args.reader.now) c.items.rest c.next_part.new.list c.in-Ok.part at next in
    so_far_push g.R.Reads.meaning (λ x xs. x ∷ xs) _ _ _ c.items.values c.read-value.result c.pushed-values.result
    (rw left at c.items.invariant) c.read-value.ensures c.pushed-values.ensures
