-- Nodes as rows of trees.
use Rattle.std.proofs.Common.{◌≡◌, ◌≢◌, ℕ, zero, suc, ◌+◌, ◌-◌, ◌≤◌, ◌<◌, Bool, true, false, List, [], ◌∷◌, ◌++◌, length, set, take, drop, refl, sym, ap, ◌∙◌, subst, arith, append_assoc, append-nil, length-drop, Option, Some, cond, not}
use Rattle.std.specs.Prelude.{nat_le}
use Rattle.std.specs.List.{list_all}
use Rattle.std.specs.Option.{option_to_list}
use Rattle.std.proofs.Math.Nat.{zero-add}
use Rattle.std.proofs.lemmas.Bool.Decides.{nat_tests}
use Rattle.std.proofs.lemmas.List.{map-append, map-set, length-map, take-append-le, drop-append-le, drop_all, take_all}
use Rattle.std.proofs.lemmas.List.Folds.{list_all-append}
use Rattle.std.proofs.lemmas.Bool.{and_from}
use Rattle.lc_lemmas.proofs.Booleans.{and_parts}
use Rattle.lc_sexp.specs.Trees.{Trees, Token, open_list, close_list, word, tokens_of_all}
use Rattle.lc_sexp.specs.Text.{is_Letter, class_of, are_letters, begins_word, lexed, before}
use Rattle.lc_sexp.specs.declared.class.Class.TheVariants.{Open as OpenClass, Close as CloseClass}
use Rattle.lc_sexp.specs.Entries.{Entry, leaf, branch, hole, first_row, later_rows, laid, holes_from, rows_tokens}
use Rattle.lc_sexp.specs.Flat.{entry_of, entries, is_within, trees_of, IsFlat, node_tokens, IsUnderWay}
use Rattle.lc_sexp.specs.Progress.{told, told_tokens}
use Rattle.lc_sexp.specs.declared.node.Node.{Node}
use Rattle.lc_sexp.specs.declared.node.Node.TheVariants.{Atom, List as ListOf, Open}
use Rattle.lc_sexp.proofs.Tokens.{lexed_word}
use Rattle.lc_sexp.proofs.Rows.{AreRows, rows_from, atom_behind, hole_behind, close_behind, place_most}

-- letters after those of nodes change no entry
take_drop_more : (s l : ℕ) (text more : List ℕ) → s + l ≤ length text → take l (drop s (text ++ more)) ≡ take l (drop s text)
take_drop_more s l text more h =
    ap (take l) (drop-append-le s text more (omega arith)) ∙ take-append-le l (drop s text) more (omega (arith, length-drop s text))

pub within_reads : (s l k : ℕ) → nat_le (s + l) k ≡ true → s + l ≤ k
within_reads s l k h = grind (arith, nat_tests)

pub entries_more : (text more : List ℕ) (k : ℕ) (nodes : List Node) → k ≤ length text → list_all (is_within k) nodes ≡ true → entries (text ++ more) nodes ≡ entries text nodes
entries_more text more k [] le h = refl
entries_more text more k (Atom s l ∷ nodes) le h =
    let hs = and_parts (nat_le (s + l) k) (list_all (is_within k) nodes) h in
    let near : s + l ≤ length text = omega (arith, within_reads s l k hs.0) in
    ap (λ w. leaf w ∷ entries (text ++ more) nodes) (take_drop_more s l text more near) ∙ ap (λ es. leaf (take l (drop s text)) ∷ es) (entries_more text more k nodes le hs.1)
entries_more text more k (ListOf n ∷ nodes) le h = ap (λ es. branch n ∷ es) (entries_more text more k nodes le h)
entries_more text more k (Open ∷ nodes) le h = ap (λ es. hole ∷ es) (entries_more text more k nodes le h)

pub within_more : (k m : ℕ) (nodes : List Node) → k ≤ m → list_all (is_within k) nodes ≡ true → list_all (is_within m) nodes ≡ true
within_more k m [] le h = refl
within_more k m (Atom s l ∷ nodes) le h =
    let hs = and_parts (nat_le (s + l) k) (list_all (is_within k) nodes) h in
    let near = within_reads s l k hs.0 in
    and_from (nat_le (s + l) m) (list_all (is_within m) nodes) (grind (arith, nat_tests)) (within_more k m nodes le hs.1)
within_more k m (ListOf n ∷ nodes) le h = within_more k m nodes le h
within_more k m (Open ∷ nodes) le h = within_more k m nodes le h

pub within_push : (k : ℕ) (nodes : List Node) (x : Node) → list_all (is_within k) nodes ≡ true → is_within k x ≡ true → list_all (is_within k) (nodes ++ (x ∷ [])) ≡ true
within_push k nodes x h e = list_all-append (is_within k) nodes (x ∷ []) ∙ and_from _ _ h (and_from (is_within k x) true e refl)

within_set : (k : ℕ) (nodes : List Node) (i n : ℕ) → list_all (is_within k) nodes ≡ true → list_all (is_within k) (set nodes i (ListOf n)) ≡ true
within_set k [] i n h = refl
within_set k (x ∷ nodes) zero n h = (and_parts (is_within k x) _ h).1
within_set k (x ∷ nodes) (suc i) n h = let hs = and_parts (is_within k x) _ h in and_from _ _ hs.0 (within_set k nodes i n hs.1)

-- more letters at the end of the text
pub under_way_letters : (text text' : List ℕ) (start : ℕ) (more : List ℕ) (nodes : List Node) (holes : List ℕ) → text' ≡ text ++ more → start ≤ length text
    → IsUnderWay text start nodes holes → IsUnderWay text' start nodes holes
under_way_letters text text' start more nodes holes e le h =
    let same : entries text nodes ≡ entries text' nodes = sym (ap (λ x. entries x nodes) e ∙ entries_more text more start nodes le h.within) in
    record {
      whole = subst (λ es. laid (first_row es) (later_rows es) ≡ es) same h.whole;
      within = h.within;
      places = subst (λ es. holes ≡ holes_from 0 (first_row es) (later_rows es)) same h.places;
    }

pub told_letters : (text text' : List ℕ) (start : ℕ) (more : List ℕ) (nodes : List Node) (holes rest : List ℕ) → text' ≡ text ++ more → start ≤ length text
    → IsUnderWay text start nodes holes → told text' start nodes rest ≡ told text start nodes (more ++ rest)
told_letters text text' start more nodes holes rest e le h =
    let same = ap (λ x. entries x nodes) e ∙ entries_more text more start nodes le h.within in
    ap (λ es. rows_tokens (first_row es) (later_rows es) ++ lexed (drop start text' ++ rest)) same
    ∙ ap (λ x. node_tokens text nodes ++ lexed (x ++ rest)) (ap (drop start) e ∙ drop-append-le start text more le)
    ∙ ap (λ x. node_tokens text nodes ++ lexed x) (append_assoc (drop start text) more rest)

-- nodes that have become others
record IsNext (text : List ℕ) (start start' : ℕ) (nodes nodes' : List Node) (holes' : List ℕ) (tokens : List Token) : Type 0 where
  pub under_way : IsUnderWay text start' nodes' holes'
  pub told : node_tokens text nodes' ≡ node_tokens text nodes ++ tokens

pushed : (text : List ℕ) (start start' : ℕ) (nodes nodes' : List Node) (holes' : List ℕ) (tokens : List Token)
    → list_all (is_within start') nodes' ≡ true → AreRows (entries text nodes') holes' (node_tokens text nodes ++ tokens) → IsNext text start start' nodes nodes' holes' tokens
pushed text start start' nodes nodes' holes' tokens w r = record {
  under_way = record { whole = r.whole; within = w; places = r.holes };
  told = r.told;
}

-- the word that has begun ends
ended : (text : List ℕ) (start : ℕ) (nodes nodes' : List Node) (holes : List ℕ) → start ≤ length text → nodes' ≡ nodes ++ (Atom start (length text - start) ∷ [])
    → IsUnderWay text start nodes holes → IsNext text start (length text) nodes nodes' holes (word (drop start text) ∷ [])
ended text start nodes nodes' holes le e h =
    let es : List Entry = entries text nodes in
    let rest : List ℕ = drop start text in
    let all : take (length text - start) rest ≡ rest = take_all (length text - start) rest (omega (arith, length-drop start text)) in
    let more : entries text nodes' ≡ laid (first_row es) (later_rows es) ++ (leaf rest ∷ []) =
    ap (entries text) e ∙ map-append (entry_of text) nodes (Atom start (length text - start) ∷ []) ∙ ap (λ w. es ++ (leaf w ∷ [])) all ∙ ap (λ x. x ++ (leaf rest ∷ [])) (sym h.whole) in
    let rows = rows_from _ _ _ (atom_behind 0 (first_row es) (later_rows es) rest) in
    let end : is_within (length text) (Atom start (length text - start)) ≡ true = (let s : start + (length text - start) ≤ length text = omega arith in grind (arith, nat_tests)) in
    pushed text start (length text) nodes nodes' holes (word rest ∷ [])
    (ap (list_all (is_within (length text))) e ∙ within_push (length text) nodes _ (within_more start (length text) nodes le h.within) end)
    (subst (λ x. AreRows x holes (node_tokens text nodes ++ (word rest ∷ []))) (sym more)
    (subst (λ p. AreRows (laid (first_row es) (later_rows es) ++ (leaf rest ∷ [])) p (node_tokens text nodes ++ (word rest ∷ []))) (sym h.places) rows))

pub ended_under_way : (text : List ℕ) (start : ℕ) (nodes nodes' : List Node) (holes : List ℕ) → start ≤ length text → nodes' ≡ nodes ++ (Atom start (length text - start) ∷ [])
    → IsUnderWay text start nodes holes → IsUnderWay text (length text) nodes' holes
ended_under_way text start nodes nodes' holes le e h = (ended text start nodes nodes' holes le e h).under_way

pub letters_drop : (text : List ℕ) (start : ℕ) → are_letters text ≡ true → are_letters (drop start text) ≡ true
letters_drop text zero h = h
letters_drop [] (suc start) h = refl
letters_drop (b ∷ text) (suc start) h = letters_drop text start (and_parts (is_Letter (class_of b)) (are_letters text) h).1

pub letters_take : (text : List ℕ) (n : ℕ) → are_letters text ≡ true → are_letters (take n text) ≡ true
letters_take text zero h = refl
letters_take [] (suc n) h = refl
letters_take (b ∷ text) (suc n) h = let hs = and_parts (is_Letter (class_of b)) (are_letters text) h in and_from _ _ hs.0 (letters_take text n hs.1)

-- a word before a text that begins none
pub word_lexed : (w rest : List ℕ) → length w ≢ 0 → are_letters w ≡ true → begins_word rest ≡ false → word w ∷ lexed rest ≡ lexed (w ++ rest)
word_lexed [] rest some h e = absurd (some refl)
word_lexed (b ∷ w) rest some h e = sym (lexed_word b w rest h e)

pub told_ended : (text : List ℕ) (start : ℕ) (nodes nodes' : List Node) (holes rest : List ℕ) → start ≤ length text → start ≢ length text → are_letters text ≡ true
    → nodes' ≡ nodes ++ (Atom start (length text - start) ∷ []) → IsUnderWay text start nodes holes → begins_word rest ≡ false
    → told text (length text) nodes' rest ≡ told text start nodes rest
told_ended text start nodes nodes' holes rest le some letters e h b =
    let n = ended text start nodes nodes' holes le e h in
    let w : List ℕ = drop start text in
    let nonempty : length w ≢ 0 = omega (arith, length-drop start text) in
    ap (λ ts. ts ++ lexed (drop (length text) text ++ rest)) n.told
    ∙ ap (λ x. (node_tokens text nodes ++ (word w ∷ [])) ++ lexed (x ++ rest)) (drop_all (length text) text (omega arith))
    ∙ append_assoc (node_tokens text nodes) (word w ∷ []) (lexed rest)
    ∙ ap (λ ts. node_tokens text nodes ++ ts) (word_lexed w rest nonempty (letters_drop text start letters) b)

-- a list begins
begun : (text : List ℕ) (start : ℕ) (nodes nodes' : List Node) (holes holes' : List ℕ) → nodes' ≡ nodes ++ (Open ∷ []) → holes' ≡ holes ++ (length nodes ∷ [])
    → IsUnderWay text start nodes holes → IsNext text start start nodes nodes' holes' (open_list ∷ [])
begun text start nodes nodes' holes holes' e f h =
    let es : List Entry = entries text nodes in
    let more : entries text nodes' ≡ laid (first_row es) (later_rows es) ++ (hole ∷ []) =
    ap (entries text) e ∙ map-append (entry_of text) nodes (Open ∷ []) ∙ ap (λ x. x ++ (hole ∷ [])) (sym h.whole) in
    let count : 0 + length (laid (first_row es) (later_rows es)) ≡ length nodes = zero-add _ ∙ ap length h.whole ∙ length-map nodes (entry_of text) in
    let rows = rows_from _ _ _ (hole_behind 0 (first_row es) (later_rows es)) in
    let place : holes' ≡ holes_from 0 (first_row es) (later_rows es) ++ ((0 + length (laid (first_row es) (later_rows es))) ∷ []) =
    f ∙ ap (λ x. x ++ (length nodes ∷ [])) h.places ∙ ap (λ n. holes_from 0 (first_row es) (later_rows es) ++ (n ∷ [])) (sym count) in
    pushed text start start nodes nodes' holes' (open_list ∷ [])
    (ap (list_all (is_within start)) e ∙ within_push start nodes Open h.within refl)
    (subst (λ x. AreRows x holes' (node_tokens text nodes ++ (open_list ∷ []))) (sym more)
    (subst (λ p. AreRows (laid (first_row es) (later_rows es) ++ (hole ∷ [])) p (node_tokens text nodes ++ (open_list ∷ []))) (sym place) rows))

pub begun_under_way : (text : List ℕ) (start : ℕ) (nodes nodes' : List Node) (holes holes' : List ℕ) → nodes' ≡ nodes ++ (Open ∷ []) → holes' ≡ holes ++ (length nodes ∷ [])
    → IsUnderWay text start nodes holes → IsUnderWay text start nodes' holes'
begun_under_way text start nodes nodes' holes holes' e f h = (begun text start nodes nodes' holes holes' e f h).under_way

pub told_begun : (text : List ℕ) (start : ℕ) (nodes nodes' : List Node) (holes holes' : List ℕ) (tokens : List Token) → nodes' ≡ nodes ++ (Open ∷ []) → holes' ≡ holes ++ (length nodes ∷ [])
    → IsUnderWay text start nodes holes → told_tokens text nodes' tokens ≡ told_tokens text nodes (open_list ∷ tokens)
told_begun text start nodes nodes' holes holes' tokens e f h =
    ap (λ ts. ts ++ tokens) (begun text start nodes nodes' holes holes' e f h).told ∙ append_assoc (node_tokens text nodes) (open_list ∷ []) tokens

-- the innermost list ends
pub list_place : (text : List ℕ) (start : ℕ) (nodes : List Node) (holes holes' : List ℕ) (at : ℕ) (o : Option ℕ) → holes ≡ holes' ++ option_to_list o → o ≡ Some at
    → IsUnderWay text start nodes holes → at < length nodes
list_place text start nodes holes holes' at o f p h =
    let es : List Entry = entries text nodes in
    let most = place_most 0 (first_row es) (later_rows es) holes' at (sym h.places ∙ f ∙ ap (λ x. holes' ++ option_to_list x) p) in
    omega (arith, most, ap length h.whole, length-map nodes (entry_of text))

closed : (text : List ℕ) (start : ℕ) (nodes nodes' : List Node) (holes holes' : List ℕ) (at n : ℕ) → nodes' ≡ set nodes at (ListOf n) → holes ≡ holes' ++ (at ∷ []) → n + at + 1 ≡ length nodes
    → IsUnderWay text start nodes holes → IsNext text start start nodes nodes' holes' (close_list ∷ [])
closed text start nodes nodes' holes holes' at n e f c h =
    let es : List Entry = entries text nodes in
    let there : at - 0 ≡ at = omega arith in
    let more : entries text nodes' ≡ set (laid (first_row es) (later_rows es)) (at - 0) (branch n) =
    ap (entries text) e ∙ map-set (entry_of text) nodes at (ListOf n) ∙ ap (λ x. set x at (branch n)) (sym h.whole) ∙ ap (λ i. set (laid (first_row es) (later_rows es)) i (branch n)) (sym there) in
    let count : n + at + 1 ≡ 0 + length (laid (first_row es) (later_rows es)) = omega (arith, c, ap length h.whole, length-map nodes (entry_of text)) in
    let rows = rows_from _ _ _ (close_behind 0 (first_row es) (later_rows es) holes' at n (sym h.places ∙ f) count) in
    pushed text start start nodes nodes' holes' (close_list ∷ [])
    (ap (list_all (is_within start)) e ∙ within_set start nodes at n h.within)
    (subst (λ x. AreRows x holes' (node_tokens text nodes ++ (close_list ∷ []))) (sym more) rows)

pub closed_under_way : (text : List ℕ) (start : ℕ) (nodes nodes' : List Node) (holes holes' : List ℕ) (at n : ℕ) (o : Option ℕ) → nodes' ≡ set nodes at (ListOf n) → holes ≡ holes' ++ option_to_list o → o ≡ Some at → n ≡ length nodes - at - 1
    → IsUnderWay text start nodes holes → IsUnderWay text start nodes' holes'
closed_under_way text start nodes nodes' holes holes' at n o e f p c h =
    let l = list_place text start nodes holes holes' at o f p h in
    (closed text start nodes nodes' holes holes' at n e (f ∙ ap (λ x. holes' ++ option_to_list x) p) (omega (arith, c, l)) h).under_way

pub told_closed : (text : List ℕ) (start : ℕ) (nodes nodes' : List Node) (holes holes' : List ℕ) (at n : ℕ) (o : Option ℕ) (tokens : List Token) → nodes' ≡ set nodes at (ListOf n) → holes ≡ holes' ++ option_to_list o → o ≡ Some at → n ≡ length nodes - at - 1
    → IsUnderWay text start nodes holes → told_tokens text nodes' tokens ≡ told_tokens text nodes (close_list ∷ tokens)
told_closed text start nodes nodes' holes holes' at n o tokens e f p c h =
    let l = list_place text start nodes holes holes' at o f p h in
    ap (λ ts. ts ++ tokens) (closed text start nodes nodes' holes holes' at n e (f ∙ ap (λ x. holes' ++ option_to_list x) p) (omega (arith, c, l)) h).told
    ∙ append_assoc (node_tokens text nodes) (close_list ∷ []) tokens

-- if no list is open, the nodes are a row of trees
later_none : (k : ℕ) (t : Trees) (us : List Trees) → [] ≡ holes_from k t us → us ≡ []
later_none k t [] e = refl
later_none k t (u ∷ us) e = absurd (cc)

pub flat_whole : (text : List ℕ) (start : ℕ) (nodes : List Node) (holes : List ℕ) → start ≡ length text → are_letters text ≡ true → holes ≡ [] → IsUnderWay text start nodes holes → IsFlat text nodes
unfolding trees_of
flat_whole text start nodes holes e letters none_open h =
    let es : List Entry = entries text nodes in
    let no = later_none 0 (first_row es) (later_rows es) (sym none_open ∙ h.places) in
    record {
      whole = ap (laid (first_row es)) (sym no) ∙ h.whole;
      within = ap (λ k. list_all (is_within k) nodes) (sym e) ∙ h.within;
      letters = letters;
    }

pub tokens_whole : (text : List ℕ) (start : ℕ) (nodes : List Node) (holes : List ℕ) → start ≡ length text → holes ≡ [] → IsUnderWay text start nodes holes → tokens_of_all (trees_of text nodes) ≡ told text start nodes []
unfolding trees_of
tokens_whole text start nodes holes e none_open h =
    let es : List Entry = entries text nodes in
    let no = later_none 0 (first_row es) (later_rows es) (sym none_open ∙ h.places) in
    sym (ap (λ n. node_tokens text nodes ++ lexed (drop n text ++ [])) e
    ∙ ap (λ x. node_tokens text nodes ++ lexed (x ++ [])) (drop_all (length text) text (omega arith))
    ∙ append-nil (node_tokens text nodes)
    ∙ ap (rows_tokens (first_row es)) no
    ∙ append-nil (tokens_of_all (first_row es)))

-- what a push left that was not refused
pub not_refused : {A : Type 0} (ok err : Bool) (xs ys zs : List A) → err ≡ false → ok ≡ not err → xs ≡ cond ok ys zs → xs ≡ ys
not_refused true err xs ys zs e f h = h
not_refused false err xs ys zs e f h = absurd (cc)

pub word_under_way : (text : List ℕ) (start end : ℕ) (nodes nodes' : List Node) (holes : List ℕ) → end ≡ length text → start ≤ end → nodes' ≡ nodes ++ (Atom start (end - start) ∷ [])
    → IsUnderWay text start nodes holes → IsUnderWay text end nodes' holes
word_under_way text start end nodes nodes' holes at le e h =
    subst (λ n. start ≤ n → nodes' ≡ nodes ++ (Atom start (n - start) ∷ []) → IsUnderWay text n nodes' holes) (sym at)
    (λ le e. ended_under_way text start nodes nodes' holes le e h) le e

pub told_word : (text : List ℕ) (start end : ℕ) (nodes nodes' : List Node) (holes rest : List ℕ) → end ≡ length text → start ≤ end → start ≢ end → are_letters text ≡ true
    → nodes' ≡ nodes ++ (Atom start (end - start) ∷ []) → IsUnderWay text start nodes holes → begins_word rest ≡ false
    → told text end nodes' rest ≡ told text start nodes rest
told_word text start end nodes nodes' holes rest at le some letters e h b =
    subst (λ n. start ≤ n → start ≢ n → nodes' ≡ nodes ++ (Atom start (n - start) ∷ []) → told text n nodes' rest ≡ told text start nodes rest) (sym at)
    (λ le some e. told_ended text start nodes nodes' holes rest le some letters e h b) le some e

-- a bracket after a word that has ended
pub told_bracket : (text text' text'' : List ℕ) (start start' start'' : ℕ) (nodes nodes' nodes'' : List Node) (tok : Token) (b : ℕ) (rest : List ℕ)
    → ((more : List ℕ) → begins_word more ≡ false → told text' start' nodes' more ≡ told text start nodes more)
    → ((tokens : List Token) → told_tokens text'' nodes'' tokens ≡ told_tokens text' nodes' (tok ∷ tokens))
    → start' ≡ length text' → text'' ≡ text' → start'' ≡ start' → begins_word (b ∷ rest) ≡ false → lexed (b ∷ rest) ≡ tok ∷ lexed rest
    → told text'' start'' nodes'' rest ≡ told text start nodes (b ∷ rest)
told_bracket text text' text'' start start' start'' nodes nodes' nodes'' tok b rest word_told bracket_told end same_text same_start wordless lexes =
    let empty : drop start' text' ≡ [] = drop_all start' text' (omega (arith, end)) in
    ap (λ x. told_tokens text'' nodes'' (lexed (x ++ rest))) (ap (drop start'') same_text ∙ ap (λ n. drop n text') same_start ∙ empty)
    ∙ bracket_told (lexed rest)
    ∙ ap (told_tokens text' nodes') (sym lexes)
    ∙ ap (λ x. told_tokens text' nodes' (lexed (x ++ (b ∷ rest)))) (sym empty)
    ∙ word_told (b ∷ rest) wordless

pub lexed_open : (b : ℕ) (rest : List ℕ) → class_of b ≡ OpenClass → lexed (b ∷ rest) ≡ open_list ∷ lexed rest
lexed_open b rest e = ap (λ k. before k b (begins_word rest) (lexed rest)) e

pub lexed_close : (b : ℕ) (rest : List ℕ) → class_of b ≡ CloseClass → lexed (b ∷ rest) ≡ close_list ∷ lexed rest
lexed_close b rest e = ap (λ k. before k b (begins_word rest) (lexed rest)) e

-- the same, with what an allocation that may have failed leaves
pub under_way_extended : (ok : Bool) (text text' : List ℕ) (start : ℕ) (more : List ℕ) (nodes : List Node) (holes : List ℕ) → text' ≡ cond ok (text ++ more) text → start ≤ length text
    → IsUnderWay text start nodes holes → IsUnderWay text' start nodes holes
under_way_extended true text text' start more nodes holes e le h = under_way_letters text text' start more nodes holes e le h
under_way_extended false text text' start more nodes holes e le h = subst (λ x. IsUnderWay x start nodes holes) (sym e) h

pub refused_or_more : (ok : Bool) (n m k : ℕ) → n ≡ cond ok (m + k) m → (m ≤ n) × (n ≤ m + k)
refused_or_more true n m k e = (omega (arith, e), omega (arith, e))
refused_or_more false n m k e = (omega (arith, e), omega (arith, e))
