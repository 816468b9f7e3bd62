-- Trees that are put together item by item.
use Rattle.std.proofs.Common.{◌≡◌, ℕ, ◌+◌, ◌≤◌, Bool, true, false, cond, List, [], ◌∷◌, ◌++◌, length, take, drop, sym, ap, ◌∙◌, arith, append_assoc, append-nil, length-append}
use Rattle.std.proofs.Math.Seq.{drop-append_seam}
use Rattle.std.proofs.lemmas.Bool.Decides.{nat_tests}
use Rattle.std.proofs.lemmas.List.{map-append, take_all}
use Rattle.std.specs.List.{list_all}
use Rattle.std.proofs.lemmas.Bool.{and_from}
use Rattle.lc_lemmas.proofs.Booleans.{and_parts}
use Rattle.lc_sexp.specs.Trees.{Tree, Trees, list, none, ◌▸◌, item_count, item_count_of_all}
use Rattle.lc_sexp.specs.TreeCode.{head_tree}
use Rattle.lc_sexp.specs.Text.{are_letters, is_Letter, class_of}
use Rattle.lc_sexp.specs.Entries.{Entry, leaf, branch, entries_of, entries_of_all}
use Rattle.lc_sexp.specs.Flat.{entry_of, entries, is_within, trees_of, IsFlat, IsOne}
use Rattle.lc_sexp.specs.declared.node.Node.{Node}
use Rattle.lc_sexp.specs.declared.node.Node.TheVariants.{Atom}
use Rattle.lc_sexp.proofs.Nodes.{entries_more, within_more, within_push}
use Rattle.lc_sexp.proofs.Flats.{flat_from, flat_counted}

-- nodes that have the entries of one tree are this tree
pub one_from : (text : List ℕ) (nodes : List Node) (t : Tree) → entries text nodes ≡ entries_of t → list_all (is_within (length text)) nodes ≡ true → are_letters text ≡ true
    → IsOne text nodes × (head_tree (trees_of text nodes) ≡ t)
one_from text nodes t e w l =
    let h = flat_from text nodes (t ▸ none) (e ∙ sym (append-nil (entries_of t))) w l in
    let is : head_tree (trees_of text nodes) ≡ t = ap head_tree h.1 in
    (record { flat = h.0; one = h.1 ∙ ap (λ x. x ▸ none) (sym is) }, is)

pub one_counted : (text : List ℕ) (nodes : List Node) → IsOne text nodes → length nodes ≡ item_count (head_tree (trees_of text nodes))
one_counted text nodes h = omega (arith, flat_counted text nodes h.flat, ap item_count_of_all h.one)

-- a list's entry, and then those of its items
pub list_entries : (text : List ℕ) (nodes : List Node) (n : ℕ) (before middle behind : List Entry) → IsFlat text nodes → n ≡ length nodes
    → middle ≡ before ++ (branch n ∷ []) → behind ≡ middle ++ entries text nodes → behind ≡ before ++ entries_of (list (trees_of text nodes))
unfolding trees_of
list_entries text nodes n before middle behind h count e f =
    f ∙ ap (λ x. x ++ entries text nodes) e
    ∙ append_assoc before (branch n ∷ []) (entries text nodes)
    ∙ ap (λ x. before ++ (branch n ∷ x)) (sym h.whole)
    ∙ ap (λ k. before ++ (branch k ∷ entries_of_all (trees_of text nodes))) (count ∙ sym (flat_counted text nodes h))

pub list_built : (a b d : List Entry) (n : ℕ) (ts : Trees) → a ≡ [] → b ≡ a ++ (branch n ∷ []) → d ≡ b ++ entries_of_all ts → n ≡ item_count_of_all ts → d ≡ entries_of (list ts)
list_built a b d n ts e f g h =
    g ∙ ap (λ x. x ++ entries_of_all ts) (f ∙ ap (λ x. x ++ (branch n ∷ [])) e) ∙ ap (λ k. branch k ∷ entries_of_all ts) h

-- letters after letters
pub letters_append : (text w : List ℕ) → are_letters text ≡ true → are_letters w ≡ true → are_letters (text ++ w) ≡ true
letters_append [] w h k = k
letters_append (b ∷ text) w h k =
    let hs = and_parts (is_Letter (class_of b)) (are_letters text) h in
    and_from _ _ hs.0 (letters_append text w hs.1 k)

-- an atom after others
pub atom_put : (text text' w : List ℕ) (nodes nodes' : List Node) (start len : ℕ) → text' ≡ text ++ w → nodes' ≡ nodes ++ (Atom start len ∷ []) → start ≡ length text → len ≡ length w
    → list_all (is_within (length text)) nodes ≡ true → entries text' nodes' ≡ entries text nodes ++ (leaf w ∷ [])
atom_put text text' w nodes nodes' start len e f s l k =
    ap (λ t. entries t nodes') e
    ∙ ap (entries (text ++ w)) f
    ∙ map-append (entry_of (text ++ w)) nodes (Atom start len ∷ [])
    ∙ ap (λ es. es ++ (leaf (take len (drop start (text ++ w))) ∷ [])) (entries_more text w (length text) nodes (omega arith) k)
    ∙ ap (λ n. entries text nodes ++ (leaf (take len (drop n (text ++ w))) ∷ [])) s
    ∙ ap (λ x. entries text nodes ++ (leaf (take len x) ∷ [])) (drop-append_seam text w)
    ∙ ap (λ x. entries text nodes ++ (leaf x ∷ [])) (take_all len w (omega (arith, l)))

pub atom_put_within : (ok : Bool) (text text' w : List ℕ) (nodes nodes' : List Node) (start len : ℕ) → text' ≡ text ++ w → nodes' ≡ cond ok (nodes ++ (Atom start len ∷ [])) nodes → start ≡ length text → len ≡ length w
    → list_all (is_within (length text)) nodes ≡ true → list_all (is_within (length text')) nodes' ≡ true
atom_put_within true text text' w nodes nodes' start len e f s l k =
    let more : length text' ≡ length text + length w = ap length e ∙ length-append text w in
    let fits : start + len ≤ length text' = omega (arith, l, s, more) in
    ap (list_all (is_within (length text'))) f
    ∙ within_push (length text') nodes (Atom start len) (within_more (length text) (length text') nodes (omega (arith, more)) k) (grind (arith, nat_tests))
atom_put_within false text text' w nodes nodes' start len e f s l k =
    let more : length text' ≡ length text + length w = ap length e ∙ length-append text w in
    ap (list_all (is_within (length text'))) f ∙ within_more (length text) (length text') nodes (omega (arith, more)) k

-- the limit, however it is known
pub within_at : (n m : ℕ) (nodes : List Node) → n ≡ m → list_all (is_within n) nodes ≡ true → list_all (is_within m) nodes ≡ true
within_at n m nodes e h = ap (λ k. list_all (is_within k) nodes) (sym e) ∙ h
