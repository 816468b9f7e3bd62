-- A walk that lays out.
use Rattle.std.proofs.Common.{◌≡◌, ℕ, ◌+◌, ◌*◌, ◌<◌, List, [], ◌∷◌, ◌++◌, Option, Some, sym, ap, ◌∙◌, arith, append_assoc, append-nil}
use Rattle.std.specs.Option.{option_to_list}
use Rattle.lc_sexp.specs.Trees.{Tree, Trees, atom, list, none, ◌▸◌, item_count_of_all}
use Rattle.lc_sexp.specs.Shown.{rest_of}
use Rattle.lc_layout.specs.Layout.{spot_of, stage_within, right_of, indent_of, brackets_behind, gap_text, closing_gap, laid_items, laid_at}
use Rattle.lc_layout.specs.Walking.{row_text, around_text, steps_around}
use Rattle.lc_layout.specs.declared.stage.Stage.{Stage}
use Rattle.lc_layout.specs.declared.stage.Spot.{Spot}
use Rattle.lc_layout.specs.declared.stage.Gap.{Gap}
use Rattle.lc_layout.specs.declared.walk.Row.{Row}

-- the innermost of the rows around
pub around_push : (rs : List Row) (r : Row) → around_text (rs ++ (r ∷ [])) ≡ row_text r ++ around_text rs
around_push [] r = sym (append-nil (row_text r))
around_push (d ∷ rs) r = ap (λ x. x ++ row_text d) (around_push rs r) ∙ append_assoc (row_text r) (around_text rs) (row_text d)

pub steps_push : (rs : List Row) (r : Row) → steps_around (rs ++ (r ∷ [])) ≡ steps_around rs + 2 * item_count_of_all (rest_of r.rest) + 1
steps_push [] r = omega arith
steps_push (d ∷ rs) r = omega (arith, steps_push rs r)

-- what is left of a row, by its first item
row_item : (r : Row) (t : Tree) (ts : Trees) (b : ℕ) (s : Spot) → rest_of r.rest ≡ t ▸ ts → b ≡ brackets_behind r.brackets ts → s ≡ spot_of r.stage r.column r.indent b t
    → row_text r ≡ laid_at r.stage r.indent b t s ++ laid_items s.stage s.behind r.indent r.brackets ts
row_item r t ts b s e f g =
    let text : ℕ → Spot → List ℕ = λ k x. laid_at r.stage r.indent k t x ++ laid_items x.stage x.behind r.indent r.brackets ts in
    ap (laid_items r.stage r.column r.indent r.brackets) e
    ∙ ap (λ k. text k (spot_of r.stage r.column r.indent k t)) (sym f)
    ∙ ap (text b) (sym g)

list_parts : (out gap inner behind around : List ℕ) → ((out ++ gap) ++ (40 ∷ [])) ++ (inner ++ (behind ++ around)) ≡ out ++ (((gap ++ (40 ∷ inner)) ++ behind) ++ around)
list_parts out gap inner behind around = simp append_assoc

-- a list begins
pub told_list : (out out1 out2 : List ℕ) (r behind inner : Row) (us ts : Trees) (b : ℕ) (s : Spot) (stage : Stage) (around around' : List Row) → out1 ≡ out ++ gap_text s.gap r.indent
    → out2 ≡ out1 ++ (40 ∷ []) → rest_of r.rest ≡ list us ▸ ts → b ≡ brackets_behind r.brackets ts → s ≡ spot_of r.stage r.column r.indent b (list us)
    → row_text behind ≡ laid_items s.stage s.behind r.indent r.brackets ts → stage ≡ stage_within r.stage s.column b (list us)
    → row_text inner ≡ laid_items stage (right_of s.column 1) (indent_of s.column us) b us → around' ≡ around ++ (behind ∷ [])
    → out2 ++ (row_text inner ++ around_text around') ≡ out ++ (row_text r ++ around_text around)
told_list out out1 out2 r behind inner us ts b s stage around around' p q e f g h i j k =
    let within : row_text inner ≡ laid_items (stage_within r.stage s.column b (list us)) (right_of s.column 1) (indent_of s.column us) b us =
    j ∙ ap (λ x. laid_items x (right_of s.column 1) (indent_of s.column us) b us) i in
    ap (λ x. x ++ (row_text inner ++ around_text around')) (q ∙ ap (λ x. x ++ (40 ∷ [])) p)
    ∙ ap (λ x. ((out ++ gap_text s.gap r.indent) ++ (40 ∷ [])) ++ (row_text inner ++ x)) (ap around_text k ∙ around_push around behind)
    ∙ list_parts out (gap_text s.gap r.indent) (row_text inner) (row_text behind) (around_text around)
    ∙ ap (λ x. out ++ (((gap_text s.gap r.indent ++ (40 ∷ row_text inner)) ++ x) ++ around_text around)) h
    ∙ ap (λ x. out ++ (((gap_text s.gap r.indent ++ (40 ∷ x)) ++ laid_items s.stage s.behind r.indent r.brackets ts) ++ around_text around)) within
    ∙ ap (λ x. out ++ (x ++ around_text around)) (sym (row_item r (list us) ts b s e f g))

pub steps_list : (r behind inner : Row) (us ts : Trees) (around around' : List Row) → rest_of r.rest ≡ list us ▸ ts → rest_of behind.rest ≡ ts → rest_of inner.rest ≡ us → around' ≡ around ++ (behind ∷ [])
    → 2 * item_count_of_all (rest_of inner.rest) + steps_around around' < 2 * item_count_of_all (rest_of r.rest) + steps_around around
steps_list r behind inner us ts around around' e f g h =
    omega (arith, ap item_count_of_all e, ap item_count_of_all f, ap item_count_of_all g, ap steps_around h, steps_push around behind)

close_parts : (out gap rest around : List ℕ) → ((out ++ gap) ++ (41 ∷ [])) ++ (rest ++ around) ≡ out ++ ((gap ++ (41 ∷ [])) ++ (rest ++ around))
close_parts out gap rest around = simp append_assoc

-- a list in another one ends
pub told_close : (out out1 out2 : List ℕ) (r row : Row) (gap : Gap) (around around' : List Row) (o : Option Row) → out1 ≡ out ++ gap_text gap r.indent → out2 ≡ out1 ++ (41 ∷ [])
    → gap ≡ closing_gap r.stage r.brackets → rest_of r.rest ≡ none → around ≡ around' ++ option_to_list o → o ≡ Some row
    → out2 ++ (row_text row ++ around_text around') ≡ out ++ (row_text r ++ around_text around)
told_close out out1 out2 r row gap around around' o p q g e h k =
    ap (λ x. x ++ (row_text row ++ around_text around')) (q ∙ ap (λ x. x ++ (41 ∷ [])) p)
    ∙ close_parts out (gap_text gap r.indent) (row_text row) (around_text around')
    ∙ ap (λ x. out ++ ((gap_text gap r.indent ++ (41 ∷ [])) ++ x)) (sym (around_push around' row) ∙ ap around_text (sym (h ∙ ap (λ x. around' ++ option_to_list x) k)))
    ∙ ap (λ x. out ++ ((gap_text x r.indent ++ (41 ∷ [])) ++ around_text around)) g
    ∙ ap (λ x. out ++ (x ++ around_text around)) (sym (ap (laid_items r.stage r.column r.indent r.brackets) e))

pub steps_close : (r row : Row) (around around' : List Row) (o : Option Row) → around ≡ around' ++ option_to_list o → o ≡ Some row
    → 2 * item_count_of_all (rest_of row.rest) + steps_around around' < 2 * item_count_of_all (rest_of r.rest) + steps_around around
steps_close r row around around' o h k = omega (arith, ap steps_around (h ∙ ap (λ x. around' ++ option_to_list x) k), steps_push around' row)
