-- A row of trees by its first node.
use Rattle.std.proofs.Common.{◌≡◌, ℕ, zero, suc, ◌+◌, ◌≤◌, ◌<◌, true, List, [], ◌∷◌, ◌++◌, length, take, drop, get_or, refl, sym, ap, ◌∙◌, subst, arith, length-append}
use Rattle.std.specs.Prelude.{◌==◌}
use Rattle.std.specs.List.{list_all}
use Rattle.std.proofs.lemmas.List.{length-map, take-append-drop, take-map, drop-map}
use Rattle.std.proofs.Math.Seq.{take-append_seam, drop-append_seam}
use Rattle.std.proofs.lemmas.Bool.Decides.{nat_tests}
use Rattle.std.proofs.lemmas.List.Folds.{list_all-append}
use Rattle.lc_lemmas.proofs.Booleans.{and_parts}
use Rattle.lc_sexp.specs.Trees.{Trees, list, none, ◌▸◌, item_count_of_all}
use Rattle.lc_sexp.specs.Text.{are_letters, is_Letter, class_of}
use Rattle.lc_sexp.specs.TreeCode.{tree_count}
use Rattle.lc_sexp.specs.Entries.{Entry, branch, entries_of_all, first_items, behind_items, first_row}
use Rattle.lc_sexp.specs.Flat.{entry_of, entries, is_within, trees_of, IsFlat}
use Rattle.lc_sexp.specs.declared.node.Node.{Node}
use Rattle.lc_sexp.specs.declared.node.Node.TheVariants.{Atom, List as ListOf, Open}
use Rattle.lc_sexp.proofs.Tokens.{Letter-from, letter_ascii}
use Rattle.lc_sexp.proofs.Rows.{entries_all_counted, first_whole, item_count_some}
use Rattle.lc_sexp.proofs.Nodes.{letters_take, letters_drop}

-- each node is an item
pub flat_counted : (text : List ℕ) (nodes : List Node) → IsFlat text nodes → item_count_of_all (trees_of text nodes) ≡ length nodes
unfolding trees_of
flat_counted text nodes h = sym (entries_all_counted (trees_of text nodes)) ∙ ap length h.whole ∙ length-map nodes (entry_of text)

-- no list of a row is open
pub no_open : (text : List ℕ) (nodes : List Node) → IsFlat text (Open ∷ nodes) → ⊥
unfolding trees_of
no_open text nodes h = let e = h.whole in cc

pub atom_letters : (text : List ℕ) (s l : ℕ) (nodes : List Node) → IsFlat text (Atom s l ∷ nodes) → are_letters (take l (drop s text)) ≡ true
atom_letters text s l nodes h = letters_take (drop s text) l (letters_drop text s h.letters)

-- A list is its number of nodes, and the others come after it.
pub record IsSplit (text : List ℕ) (n : ℕ) (nodes : List Node) : Type 0 where
  pub room : n ≤ length nodes
  pub inside : IsFlat text (take n nodes)
  pub behind : IsFlat text (drop n nodes)
  pub counted : item_count_of_all (trees_of text (take n nodes)) ≡ n
  pub trees : trees_of text (ListOf n ∷ nodes) ≡ list (trees_of text (take n nodes)) ▸ trees_of text (drop n nodes)

same_branch : (n m : ℕ) (es fs : List Entry) → branch n ∷ es ≡ branch m ∷ fs → (n ≡ m) × (es ≡ fs)
same_branch n m es fs e = (cc, cc)

pub flat_from : (text : List ℕ) (nodes : List Node) (ts : Trees) → entries text nodes ≡ entries_of_all ts → list_all (is_within (length text)) nodes ≡ true → are_letters text ≡ true
    → IsFlat text nodes × (trees_of text nodes ≡ ts)
unfolding trees_of
flat_from text nodes ts e w l =
    let is : trees_of text nodes ≡ ts = ap first_row e ∙ first_whole ts in
    (record { whole = ap entries_of_all is ∙ sym e; within = w; letters = l }, is)

pub list_split : (text : List ℕ) (n : ℕ) (nodes : List Node) → IsFlat text (ListOf n ∷ nodes) → IsSplit text n nodes
unfolding trees_of
list_split text n nodes h =
    let rest : Trees = first_row (entries text nodes) in
    let a : Trees = first_items n rest in
    let b : Trees = behind_items n rest in
    let parts = same_branch (item_count_of_all a) n (entries_of_all a ++ entries_of_all b) (entries text nodes) h.whole in
    let count : length (entries_of_all a) ≡ n = entries_all_counted a ∙ parts.0 in
    let front : entries text (take n nodes) ≡ entries_of_all a =
    sym (take-map (entry_of text) n nodes) ∙ ap (take n) (sym parts.1) ∙ ap (λ k. take k (entries_of_all a ++ entries_of_all b)) (sym count) ∙ take-append_seam (entries_of_all a) (entries_of_all b) in
    let back : entries text (drop n nodes) ≡ entries_of_all b =
    sym (drop-map (entry_of text) n nodes) ∙ ap (drop n) (sym parts.1) ∙ ap (λ k. drop k (entries_of_all a ++ entries_of_all b)) (sym count) ∙ drop-append_seam (entries_of_all a) (entries_of_all b) in
    let both = and_parts (list_all (is_within (length text)) (take n nodes)) (list_all (is_within (length text)) (drop n nodes))
    (sym (list_all-append (is_within (length text)) (take n nodes) (drop n nodes)) ∙ ap (list_all (is_within (length text))) (take-append-drop n nodes) ∙ h.within) in
    let f = flat_from text (take n nodes) a front both.0 h.letters in
    let g = flat_from text (drop n nodes) b back both.1 h.letters in
    record {
      room = omega (arith, count, length-append (entries_of_all a) (entries_of_all b), ap length parts.1, length-map nodes (entry_of text));
      inside = f.0;
      behind = g.0;
      counted = ap item_count_of_all f.1 ∙ parts.0;
      trees = ap (λ x. list x ▸ b) (sym f.1) ∙ ap (λ x. list (trees_of text (take n nodes)) ▸ x) (sym g.1);
    }

-- the same, if the nodes begin with a list
pub split_at_list : (text : List ℕ) (xs nodes : List Node) (x : Node) (n : ℕ) → xs ≡ x ∷ nodes → x ≡ ListOf n → IsFlat text xs → IsSplit text n nodes
split_at_list text xs nodes x n e f h = list_split text n nodes (subst (IsFlat text) (e ∙ ap (λ y. y ∷ nodes) f) h)

pub trees_at_list : (text : List ℕ) (xs nodes : List Node) (x : Node) (n : ℕ) → xs ≡ x ∷ nodes → x ≡ ListOf n → IsFlat text xs
    → trees_of text xs ≡ list (trees_of text (take n nodes)) ▸ trees_of text (drop n nodes)
trees_at_list text xs nodes x n e f h = ap (trees_of text) (e ∙ ap (λ y. y ∷ nodes) f) ∙ (split_at_list text xs nodes x n e f h).trees

pub count_at_list : (text : List ℕ) (xs nodes : List Node) (x : Node) (n : ℕ) → xs ≡ x ∷ nodes → x ≡ ListOf n → IsFlat text xs
    → item_count_of_all (trees_of text xs) ≡ n + 1 + item_count_of_all (trees_of text (drop n nodes))
count_at_list text xs nodes x n e f h =
    omega (arith, ap item_count_of_all (trees_at_list text xs nodes x n e f h), (split_at_list text xs nodes x n e f h).counted)

pub letters_at_atom : (text : List ℕ) (xs nodes : List Node) (x : Node) (s l : ℕ) (w : List ℕ) → xs ≡ x ∷ nodes → x ≡ Atom s l → w ≡ take l (drop s text) → IsFlat text xs → are_letters w ≡ true
letters_at_atom text xs nodes x s l w e f g h = ap are_letters g ∙ atom_letters text s l nodes (subst (IsFlat text) (e ∙ ap (λ y. y ∷ nodes) f) h)

-- letters are text
letter_small : (b : ℕ) → is_Letter (class_of b) ≡ true → b < 128
letter_small b h = letter_ascii b (sym (Letter-from (class_of b) h))

pub letters_ascii : (text : List ℕ) → are_letters text ≡ true → (i : ℕ) → get_or text i 0 < 128
letters_ascii [] h i = omega arith
letters_ascii (b ∷ text) h zero = letter_small b (and_parts (is_Letter (class_of b)) (are_letters text) h).0
letters_ascii (b ∷ text) h (suc i) = letters_ascii text (and_parts (is_Letter (class_of b)) (are_letters text) h).1 i

-- a row without nodes has no tree
pub none_left : (text : List ℕ) (nodes : List Node) → IsFlat text nodes → (length nodes == 0) ≡ (tree_count (trees_of text nodes) == 0)
unfolding trees_of
none_left text [] h = refl
none_left text (Atom s l ∷ nodes) h = grind (arith, nat_tests)
none_left text (ListOf n ∷ nodes) h = grind (arith, nat_tests)
none_left text (Open ∷ nodes) h = absurd (no_open text nodes h)

-- each tree has an item
pub parts_le_items : (ts : Trees) → tree_count ts ≤ item_count_of_all ts
parts_le_items none = omega arith
parts_le_items (t ▸ ts) = omega (arith, item_count_some t, parts_le_items ts)
