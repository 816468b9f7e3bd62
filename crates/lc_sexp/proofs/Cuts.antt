-- Items that are taken out of the nodes.
use Rattle.std.proofs.Common.{◌≡◌, ◌≢◌, ℕ, zero, suc, ◌+◌, ◌-◌, ◌≤◌, ◌<◌, true, false, List, [], ◌∷◌, ◌++◌, length, get_or, set, take, drop, refl, sym, ap, ◌∙◌, subst, arith, append_assoc, append-nil, length-append, length-drop}
use Rattle.std.specs.List.{list_all}
use Rattle.std.proofs.Math.Seq.{take-append_seam, drop-append_seam}
use Rattle.std.proofs.lemmas.List.{length-map, take-append-drop, take-map, drop-map, drop_all, take_all}
use Rattle.std.proofs.lemmas.List.Folds.{list_all-append}
use Rattle.lc_lemmas.proofs.Booleans.{and_parts}
use Rattle.lc_sexp.specs.Trees.{Trees, list, item_count_of_all, Token, open_list, close_list, word, tokens_of, tokens_of_all}
use Rattle.lc_sexp.specs.Text.{are_letters, begins_word, lexed}
use Rattle.lc_sexp.specs.Entries.{Entry, branch, hole, entries_of_all, first_row, later_rows, laid, holes_from, rows_tokens}
use Rattle.lc_sexp.specs.TreeCode.{head_tree}
use Rattle.lc_sexp.specs.Flat.{entry_of, entries, is_within, is_rooted, trees_of, IsFlat, IsOne, IsUnderWay}
use Rattle.lc_sexp.specs.Progress.{told, told_tokens}
use Rattle.lc_sexp.specs.declared.node.Node.{Node}
use Rattle.lc_sexp.specs.declared.node.Node.TheVariants.{Atom, List as ListOf, Open}
use Rattle.lc_sexp.proofs.Rows.{entries_all_counted, first_laid, later_laid, place_least}
use Rattle.lc_sexp.proofs.Nodes.{within_more, word_lexed}
use Rattle.lc_sexp.proofs.Flats.{flat_from}
use Rattle.lc_sexp.proofs.Builds.{one_from}

-- when there are no nodes
pub told_none : (text : List ℕ) (nodes : List Node) (tokens : List Token) → nodes ≡ [] → told_tokens text nodes tokens ≡ tokens
told_none text nodes tokens e = ap (λ ns. told_tokens text ns tokens) e

-- the word that has begun is forgotten
pub later_under_way : (text : List ℕ) (start end : ℕ) (nodes : List Node) (holes : List ℕ) → start ≤ end → IsUnderWay text start nodes holes → IsUnderWay text end nodes holes
later_under_way text start end nodes holes le h = record { whole = h.whole; within = within_more start end nodes le h.within; places = h.places }

-- after a word that has ended
pub told_ended_at : (text : List ℕ) (start : ℕ) (nodes : List Node) (rest : List ℕ) → start ≡ length text → told text start nodes rest ≡ told_tokens text nodes (lexed rest)
told_ended_at text start nodes rest e = ap (λ x. told_tokens text nodes (lexed (x ++ rest))) (drop_all start text (omega (arith, e)))

pub told_bracket_at : (text : List ℕ) (start : ℕ) (nodes : List Node) (tok : Token) (b : ℕ) (rest : List ℕ) → start ≡ length text → lexed (b ∷ rest) ≡ tok ∷ lexed rest
    → told text start nodes (b ∷ rest) ≡ told_tokens text nodes (tok ∷ lexed rest)
told_bracket_at text start nodes tok b rest e l = told_ended_at text start nodes (b ∷ rest) e ∙ ap (told_tokens text nodes) l

-- a word, when there are no nodes
pub told_cut_word : (text text' : List ℕ) (start start' : ℕ) (nodes nodes' : List Node) (w rest : List ℕ) → nodes ≡ [] → nodes' ≡ nodes → w ≡ drop start text → length w ≢ 0 → are_letters w ≡ true
    → start' ≡ length text' → begins_word rest ≡ false → told text start nodes rest ≡ word w ∷ told text' start' nodes' rest
told_cut_word text text' start start' nodes nodes' w rest e f d some letters end b =
    told_none text nodes (lexed (drop start text ++ rest)) e
    ∙ ap (λ x. lexed (x ++ rest)) (sym d)
    ∙ sym (word_lexed w rest some letters b)
    ∙ ap (λ ts. word w ∷ ts) (sym (told_ended_at text' start' nodes' rest end ∙ told_none text' nodes' (lexed rest) (f ∙ e)))

-- nodes that begin with no item that has ended
pub rooted_none : (text : List ℕ) (start : ℕ) (nodes : List Node) (holes : List ℕ) → holes ≡ [] → is_rooted nodes ≡ true → IsUnderWay text start nodes holes → nodes ≡ []
rooted_none text start [] holes e r h = refl
rooted_none text start (Open ∷ nodes) holes e r h =
    let k : [] ≡ holes_from 0 (first_row (entries text (Open ∷ nodes))) (later_rows (entries text (Open ∷ nodes))) = sym e ∙ h.places in
    absurd (cc)
rooted_none text start (Atom s l ∷ nodes) holes e r h = absurd (cc)
rooted_none text start (ListOf n ∷ nodes) holes e r h = absurd (cc)

pub rooted_take : (k : ℕ) (nodes : List Node) → is_rooted nodes ≡ true → is_rooted (take k nodes) ≡ true
rooted_take zero nodes r = refl
rooted_take (suc k) [] r = refl
rooted_take (suc k) (Open ∷ nodes) r = refl
rooted_take (suc k) (Atom s l ∷ nodes) r = absurd (cc)
rooted_take (suc k) (ListOf n ∷ nodes) r = absurd (cc)

pub rooted_open : (nodes nodes' : List Node) → nodes' ≡ nodes ++ (Open ∷ []) → is_rooted nodes ≡ true → is_rooted nodes' ≡ true
rooted_open [] nodes' e r = ap is_rooted e
rooted_open (Open ∷ nodes) nodes' e r = ap is_rooted e
rooted_open (Atom s l ∷ nodes) nodes' e r = absurd (cc)
rooted_open (ListOf n ∷ nodes) nodes' e r = absurd (cc)

pub rooted_more : (text : List ℕ) (start : ℕ) (nodes nodes' : List Node) (holes : List ℕ) (x : Node) → nodes' ≡ nodes ++ (x ∷ []) → 0 < length holes → is_rooted nodes ≡ true → IsUnderWay text start nodes holes
    → is_rooted nodes' ≡ true
rooted_more text start [] nodes' holes x e some r h = absurd (omega (arith, some, ap length h.places))
rooted_more text start (Open ∷ nodes) nodes' holes x e some r h = ap is_rooted e
rooted_more text start (Atom s l ∷ nodes) nodes' holes x e some r h = absurd (cc)
rooted_more text start (ListOf n ∷ nodes) nodes' holes x e some r h = absurd (cc)

-- the innermost of several open lists is not at the first node
inner_place : (t : Trees) (us : List Trees) (front : List ℕ) (at : ℕ) → 0 < length front → holes_from 0 t us ≡ front ++ (at ∷ []) → 0 < at
inner_place t us [] at some e = absurd (omega (arith, some))
inner_place t [] (x ∷ front) at some e = absurd (cc)
inner_place t (u ∷ us) (x ∷ front) at some e =
    let inner : holes_from (0 + item_count_of_all t + 1) u us ≡ front ++ (at ∷ []) = cc in
    omega (arith, place_least (0 + item_count_of_all t + 1) u us front at inner)

rooted_set : (nodes : List Node) (i : ℕ) (x : Node) → 0 < i → is_rooted nodes ≡ true → is_rooted (set nodes i x) ≡ true
rooted_set [] i x lt r = refl
rooted_set (Open ∷ nodes) zero x lt r = absurd (omega (arith, lt))
rooted_set (Open ∷ nodes) (suc i) x lt r = refl
rooted_set (Atom s l ∷ nodes) i x lt r = absurd (cc)
rooted_set (ListOf n ∷ nodes) i x lt r = absurd (cc)

pub rooted_closed : (text : List ℕ) (start : ℕ) (nodes nodes' : List Node) (holes front : List ℕ) (at : ℕ) (x : Node) → nodes' ≡ set nodes at x → holes ≡ front ++ (at ∷ []) → 1 < length holes
    → is_rooted nodes ≡ true → IsUnderWay text start nodes holes → is_rooted nodes' ≡ true
rooted_closed text start nodes nodes' holes front at x e f some r h =
    let more : 0 < length front = omega (arith, some, ap length f ∙ length-append front (at ∷ [])) in
    ap is_rooted e ∙ rooted_set nodes at x (inner_place _ _ front at more (sym h.places ∙ f)) r

-- if one list is open
one_hole : (t : Trees) (us : List Trees) (at : ℕ) → at ∷ [] ≡ holes_from 0 t us → (u : Trees) × (us ≡ u ∷ []) × (at ≡ item_count_of_all t)
one_hole t [] at e = absurd (cc)
one_hole t (u ∷ []) at e = (u, refl, (let k : at ≡ 0 + item_count_of_all t = cc in omega (arith, k)))
one_hole t (u ∷ (v ∷ vs)) at e = absurd (cc)

-- The list that is open, and the nodes in it and before it.
pub record IsCut (text : List ℕ) (start at : ℕ) (nodes : List Node) : Type 0 where
  pub trees : Trees
  pub room : at < length nodes
  pub inside : IsFlat text (drop (at + 1) nodes)
  pub shown : entries text (drop (at + 1) nodes) ≡ entries_of_all trees
  pub counted : item_count_of_all trees + at + 1 ≡ length nodes
  pub under_way : IsUnderWay text start (take at nodes) []
  pub told : (tokens : List Token) → told_tokens text (take at nodes) (tokens_of (list trees) ++ tokens) ≡ told_tokens text nodes (close_list ∷ tokens)

regroup : {A : Type 0} (t u x : List A) (o c : A) → (t ++ []) ++ ((o ∷ (u ++ (c ∷ []))) ++ x) ≡ (t ++ ((o ∷ u) ++ [])) ++ (c ∷ x)
regroup t u x o c = simp (append_assoc, append-nil)

pub list_cut : (text : List ℕ) (start at : ℕ) (nodes : List Node) (holes : List ℕ) → holes ≡ at ∷ [] → start ≡ length text → are_letters text ≡ true → IsUnderWay text start nodes holes → IsCut text start at nodes
list_cut text start at nodes holes e end letters h =
    let es : List Entry = entries text nodes in
    let t : Trees = first_row es in
    let one = one_hole t (later_rows es) at (sym e ∙ h.places) in
    let u : Trees = one.0 in
    let whole : es ≡ entries_of_all t ++ (hole ∷ entries_of_all u) = sym h.whole ∙ ap (laid t) one.1 in
    let first : length (entries_of_all t) ≡ at = entries_all_counted t ∙ sym one.2 in
    let count : length nodes ≡ at + 1 + item_count_of_all u =
    omega (arith, first, ap length whole ∙ length-append (entries_of_all t) (hole ∷ entries_of_all u), length-map nodes (entry_of text), entries_all_counted u) in
    let seam : length (entries_of_all t ++ (hole ∷ [])) ≡ at + 1 = length-append (entries_of_all t) (hole ∷ []) ∙ ap (λ n. n + 1) first in
    let back : entries text (drop (at + 1) nodes) ≡ entries_of_all u =
    sym (drop-map (entry_of text) (at + 1) nodes) ∙ ap (drop (at + 1)) (whole ∙ sym (append_assoc (entries_of_all t) (hole ∷ []) (entries_of_all u)))
    ∙ ap (λ k. drop k ((entries_of_all t ++ (hole ∷ [])) ++ entries_of_all u)) (sym seam) ∙ drop-append_seam (entries_of_all t ++ (hole ∷ [])) (entries_of_all u) in
    let before : entries text (take at nodes) ≡ entries_of_all t =
    sym (take-map (entry_of text) at nodes) ∙ ap (take at) whole ∙ ap (λ k. take k (entries_of_all t ++ (hole ∷ entries_of_all u))) (sym first) ∙ take-append_seam (entries_of_all t) (hole ∷ entries_of_all u) in
    let within_back = and_parts (list_all (is_within start) (take (at + 1) nodes)) (list_all (is_within start) (drop (at + 1) nodes))
    (sym (list_all-append (is_within start) (take (at + 1) nodes) (drop (at + 1) nodes)) ∙ ap (list_all (is_within start)) (take-append-drop (at + 1) nodes) ∙ h.within) in
    let within_front = and_parts (list_all (is_within start) (take at nodes)) (list_all (is_within start) (drop at nodes))
    (sym (list_all-append (is_within start) (take at nodes) (drop at nodes)) ∙ ap (list_all (is_within start)) (take-append-drop at nodes) ∙ h.within) in
    let row : first_row (entries text (take at nodes)) ≡ t = ap first_row before ∙ first_laid t [] in
    let rows : later_rows (entries text (take at nodes)) ≡ [] = ap later_rows before ∙ later_laid t [] in
    record {
      trees = u;
      room = omega (arith, count);
      inside = (flat_from text (drop (at + 1) nodes) u back (within_more start (length text) (drop (at + 1) nodes) (omega (arith, end)) within_back.1) letters).0;
      shown = back;
      counted = omega (arith, count);
      under_way = record {
        whole = ap (λ x. laid x (later_rows (entries text (take at nodes)))) row ∙ ap (laid t) rows ∙ sym before;
        within = within_front.0;
        places = sym (ap (λ x. holes_from 0 (first_row (entries text (take at nodes))) x) rows);
      };
      told = λ tokens.
          ap (λ x. rows_tokens x (later_rows (entries text (take at nodes))) ++ (tokens_of (list u) ++ tokens)) row
          ∙ ap (λ x. rows_tokens t x ++ (tokens_of (list u) ++ tokens)) rows
          ∙ regroup (tokens_of_all t) (tokens_of_all u) tokens open_list close_list
          ∙ sym (ap (λ x. rows_tokens t x ++ (close_list ∷ tokens)) one.1);
    }

-- the nodes of the list that is open, if it is the first node, and ends
one_given : (text : List ℕ) (start : ℕ) (nodes : List Node) (n : ℕ) (cut : IsCut text start 0 nodes) → n + 1 ≡ length nodes → are_letters text ≡ true
    → IsOne text (set nodes 0 (ListOf n)) × (head_tree (trees_of text (set nodes 0 (ListOf n))) ≡ list cut.trees)
one_given text start [] n cut e l = absurd (omega (arith, e))
one_given text start (x ∷ nodes) n cut e l =
    let count : n ≡ item_count_of_all cut.trees = omega (arith, e, cut.counted) in
    one_from text (ListOf n ∷ nodes) (list cut.trees) (ap (λ es. branch n ∷ es) cut.shown ∙ ap (λ k. branch k ∷ entries_of_all cut.trees) count) cut.inside.within l

pub list_given : (text text' : List ℕ) (start : ℕ) (nodes nodes' : List Node) (n : ℕ) (cut : IsCut text start 0 nodes) → text' ≡ text → nodes' ≡ nodes → n + 1 ≡ length nodes → are_letters text ≡ true
    → IsOne text' (set nodes' 0 (ListOf n)) × (head_tree (trees_of text' (set nodes' 0 (ListOf n))) ≡ list cut.trees)
list_given text text' start nodes nodes' n cut e f count l =
    subst (λ t. IsOne t (set nodes' 0 (ListOf n)) × (head_tree (trees_of t (set nodes' 0 (ListOf n))) ≡ list cut.trees)) (sym e)
    (subst (λ ns. IsOne text (set ns 0 (ListOf n)) × (head_tree (trees_of text (set ns 0 (ListOf n))) ≡ list cut.trees)) (sym f) (one_given text start nodes n cut count l))

-- the nodes of a part of a slice
pub flat_slice : (text text' : List ℕ) (nodes nodes' : List Node) (n : ℕ) → text' ≡ text → nodes' ≡ nodes → IsFlat text (drop n nodes) → IsFlat text' (take (length nodes' - n) (drop n nodes'))
flat_slice text text' nodes nodes' n e f h =
    let all : take (length nodes' - n) (drop n nodes') ≡ drop n nodes' = take_all (length nodes' - n) (drop n nodes') (omega (arith, length-drop n nodes')) in
    subst (λ t. IsFlat t (take (length nodes' - n) (drop n nodes'))) (sym e) (subst (IsFlat text) (sym (all ∙ ap (drop n) f)) h)

pub entries_slice : (text text' : List ℕ) (nodes nodes' : List Node) (n : ℕ) → text' ≡ text → nodes' ≡ nodes → entries text' (take (length nodes' - n) (drop n nodes')) ≡ entries text (drop n nodes)
entries_slice text text' nodes nodes' n e f =
    ap (λ t. entries t (take (length nodes' - n) (drop n nodes'))) e
    ∙ ap (entries text) (take_all (length nodes' - n) (drop n nodes') (omega (arith, length-drop n nodes')) ∙ ap (drop n) f)

pub under_way_at : (text : List ℕ) (start : ℕ) (nodes nodes' : List Node) (holes holes' : List ℕ) → nodes' ≡ nodes → holes' ≡ holes → IsUnderWay text start nodes holes → IsUnderWay text start nodes' holes'
under_way_at text start nodes nodes' holes holes' e f h = subst (λ ns. IsUnderWay text start ns holes') (sym e) (subst (IsUnderWay text start nodes) (sym f) h)

pub one_item : (xs : List ℕ) (a : ℕ) → length xs ≡ 1 → a ≡ get_or xs 0 a → xs ≡ a ∷ []
one_item [] a n e = absurd (omega (arith, n))
one_item (x ∷ []) a n e = ap (λ y. y ∷ []) (sym e)
one_item (x ∷ (y ∷ xs)) a n e = absurd (omega (arith, n))
