-- The text of a form, piece by piece.
use Rattle.std.proofs.Common.{◌≡◌, ℕ, List, [], ◌∷◌, ◌++◌, ◌-◌, ◌<◌, ◌≤◌, refl, sym, ap, ◌∙◌, map, length, get_or, append_assoc, append-nil}
use Rattle.std.specs.Prelude.{codes, Some, None, option_map, slice_get}
use Rattle.std.proofs.lemmas.List.{length-map}
use Rattle.std.proofs.lemmas.Option.{slice_get-map, slice_get_read, slice_get_past}
use Rattle.lc_base.specs.Name.{bytes_of}
use Rattle.lc_base.specs.declared.name.Name.{Name}
use Rattle.lc_object.specs.View.{column_view, names_of}
use Rattle.lc_object.specs.declared.parts.Column.{Column}
use Rattle.lc_sexp.specs.Trees.{Tree, Trees, atom, list, none, ◌▸◌, row}
use Rattle.lc_sexp.specs.Printed.{printed_tree, printed_others}
use Rattle.lc_tie.specs.Tie.{Conjunct}
use Rattle.lc_outline_print.specs.Beside.{conjunct_tree}
use Rattle.lc_outline_print.specs.Developments.{followed}
use Rattle.lc_outline_print.specs.Objects.{concrete_tree}
use Rattle.lc_outline_print.specs.Parts.{column_tree}
use Rattle.lc_outline_print.proofs.Printed.{followed_text}

-- a word, what comes after it, and a bracket
written_list : (old head r a b d : List ℕ) → a ≡ old ++ head → b ≡ a ++ r → d ≡ b ++ codes ")" → d ≡ old ++ (head ++ ((r ++ codes ")") ++ []))
written_list old head r a b d opened first closed =
    closed ∙ ap (λ w. w ++ codes ")") (first ∙ ap (λ w. w ++ r) opened ∙ append_assoc old head r)
    ∙ append_assoc old (head ++ r) (codes ")")
    ∙ ap (λ w. old ++ w) (append_assoc head r (codes ")") ∙ ap (λ w. head ++ w) (sym (append-nil (r ++ codes ")"))))

pub invariant_text : (names columns : List (List ℕ)) (cs ds : List Conjunct) (old a b d : List ℕ) → names ≡ columns → cs ≡ ds
    → a ≡ old ++ codes " (invariant" → b ≡ a ++ printed_others (row (map (conjunct_tree names) cs)) → d ≡ b ++ codes ")"
    → d ≡ old ++ printed_others (list (atom (codes "invariant") ▸ row (map (conjunct_tree columns) ds)) ▸ none)
invariant_text names columns cs ds old a b d named same opened first closed =
    written_list old (codes " (invariant") (printed_others (row (map (conjunct_tree columns) ds))) a b d opened
    (first ∙ ap (λ n. a ++ printed_others (row (map (conjunct_tree n) cs))) named ∙ ap (λ l. a ++ printed_others (row (map (conjunct_tree columns) l))) same)
    closed

-- trees, one tree after them, and others
pub tables_text : (rs : Trees) (x : Tree) (ss : Trees) (old a b d : List ℕ) → a ≡ old ++ printed_others rs → b ≡ a ++ printed_others (x ▸ none) → d ≡ b ++ printed_others ss
    → d ≡ old ++ printed_others (followed rs (x ▸ ss))
tables_text rs x ss old a b d first second third =
    let r = printed_others rs in
    let y = printed_others (x ▸ none) in
    let s = printed_others ss in
    third ∙ ap (λ w. w ++ s) (second ∙ ap (λ w. w ++ y) first ∙ append_assoc old r y)
    ∙ append_assoc old (r ++ y) s
    ∙ ap (λ w. old ++ w) (append_assoc r y s ∙ ap (λ w. r ++ (32 ∷ (w ++ s))) (append-nil (printed_tree x)) ∙ sym (followed_text rs (x ▸ ss)))

-- a name, and trees after it in two parts
pub object_text : (given name : List ℕ) (ts us : Trees) (old a b p q d : List ℕ) → given ≡ name → a ≡ old ++ codes "(object " → b ≡ a ++ given → p ≡ b ++ printed_others ts → q ≡ p ++ printed_others us
    → d ≡ q ++ codes ")" → d ≡ old ++ printed_tree (list (atom (codes "object") ▸ atom name ▸ followed ts us))
object_text given name ts us old a b p q d named opened first second third closed =
    let h = codes "(object " in
    let t = printed_others ts in
    let u = printed_others us in
    let f = printed_others (followed ts us) in
    closed ∙ ap (λ w. w ++ codes ")") (third ∙ ap (λ w. w ++ u) (second ∙ ap (λ w. w ++ t) (first ∙ ap (λ w. w ++ given) opened ∙ ap (λ n. (old ++ h) ++ n) named)))
    ∙ ap (λ w. w ++ codes ")") (append_assoc ((old ++ h) ++ name) t u ∙ ap (λ w. ((old ++ h) ++ name) ++ w) (sym (followed_text ts us)) ∙ append_assoc (old ++ h) name f ∙ append_assoc old h (name ++ f))
    ∙ append_assoc old (h ++ (name ++ f)) (codes ")")

-- two trees, each in a line
pub lines_text : (x y : Tree) (old a b c d : List ℕ) → old ≡ [] → a ≡ old ++ printed_tree x → b ≡ a ++ codes "\n" → c ≡ b ++ printed_tree y → d ≡ c ++ codes "\n"
    → d ≡ printed_tree x ++ (10 ∷ (printed_tree y ++ (10 ∷ [])))
lines_text x y old a b c d empty first ended second closed =
    let s = printed_tree x in
    let t = printed_tree y in
    closed ∙ ap (λ w. w ++ codes "\n") (second ∙ ap (λ w. w ++ t) (ended ∙ ap (λ w. w ++ codes "\n") (first ∙ ap (λ w. w ++ s) empty)))
    ∙ append_assoc (s ++ codes "\n") t (codes "\n") ∙ append_assoc s (codes "\n") (t ++ codes "\n")

-- the text of a concrete column that is there
pub concrete_there : (cs xs : List Column) (names : List Name) (column count place : ℕ) (c : Column) (old w : List ℕ) → place ≡ column - count → count ≡ length names → xs ≡ cs
    → place < length xs → c ≡ get_or xs place c → w ≡ old ++ codes " " ++ printed_tree (column_tree (bytes_of c.name) c.slope c.start)
    → w ≡ old ++ printed_others (concrete_tree (slice_get (map column_view cs) (column - length (names_of names))) none)
concrete_there cs xs names column count place c old w at counted same below is written =
    let x = printed_tree (column_tree (bytes_of c.name) c.slope c.start) in
    let found : slice_get (map column_view cs) (column - length (names_of names)) ≡ Some (column_view c) =
    ap (λ n. slice_get (map column_view cs) (column - n)) (length-map names bytes_of ∙ sym counted) ∙ ap (λ k. slice_get (map column_view cs) k) (sym at)
    ∙ ap (λ l. slice_get (map column_view l) place) (sym same) ∙ slice_get-map column_view xs place ∙ ap (option_map column_view) (slice_get_read xs (length xs) place c refl below is) in
    written ∙ append_assoc old (codes " ") x ∙ ap (λ w. old ++ (32 ∷ w)) (sym (append-nil x)) ∙ ap (λ o. old ++ printed_others (concrete_tree o none)) (sym found)

-- of one that is not there nothing is printed
pub concrete_past : (cs xs : List Column) (names : List Name) (column count place : ℕ) (old : List ℕ) → place ≡ column - count → count ≡ length names → xs ≡ cs → length xs ≤ place
    → old ≡ old ++ printed_others (concrete_tree (slice_get (map column_view cs) (column - length (names_of names))) none)
concrete_past cs xs names column count place old at counted same past =
    let missing : slice_get (map column_view cs) (column - length (names_of names)) ≡ None =
    ap (λ n. slice_get (map column_view cs) (column - n)) (length-map names bytes_of ∙ sym counted) ∙ ap (λ k. slice_get (map column_view cs) k) (sym at)
    ∙ ap (λ l. slice_get (map column_view l) place) (sym same) ∙ slice_get-map column_view xs place ∙ ap (option_map column_view) (slice_get_past xs place past) in
    sym (append-nil old) ∙ ap (λ o. old ++ printed_others (concrete_tree o none)) (sym missing)
