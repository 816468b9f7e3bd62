-- The parts of a whole file.
use Rattle.std.proofs.Common.{◌≡◌, ℕ, ◌+◌, Bool, true, false, List, [], ◌∷◌, ◌++◌, flat_map, length, arith, refl, sym, ap, ◌∙◌, append_assoc, append-nil, ◌⊎◌, inl, inr}
use Rattle.lc_sexp.specs.Trees.{Trees, atom, list, none, ◌▸◌, item_count_of_all, Token, open_list, close_list, tokens_of_all}
use Rattle.lc_sexp.specs.TreeCode.{joined_rows, tree_count}
use Rattle.lc_sexp.specs.Text.{uncommented, lexed, are_letters}
use Rattle.lc_sexp.specs.Reads.{ReadsAs, IsFirstFault}
use Rattle.lc_sexp.specs.Takes.{parts_in, parts_from, parts_of, parts_ended}
use Rattle.lc_sexp.specs.Begins.{AreAllParts}
use Rattle.lc_sexp.specs.Reading.{IsAfterTaking}
use Rattle.lc_sexp.specs.Splitting.{opened, front}
use Rattle.lc_sexp.specs.declared.part.Part.{Part}
use Rattle.lc_sexp.specs.declared.reader.Reader.{Reader}
use Rattle.lc_sexp.proofs.Tokens.{lexed_word}
use Rattle.lc_sexp.proofs.Unique.{first_trees_of, same_by_tokens}
use Rattle.lc_sexp.proofs.Takings.{in_at, in_joined, from_joined}
use Rattle.lc_sexp.proofs.Faults.{no_fault_lem}

-- the tree of a word at the end, if there is one
abbrev last_word : List ℕ → Trees
last_word [] = none
last_word (b ∷ w) = atom (b ∷ w) ▸ none

last_tokens : (w : List ℕ) → are_letters w ≡ true → lexed (w ++ []) ≡ tokens_of_all (last_word w)
last_tokens [] h = refl
last_tokens (b ∷ w) h = lexed_word b w [] h refl

no_parts : (f i : ℕ) (w : List ℕ) → parts_from f i (last_word w) ≡ []
no_parts f i [] = refl
no_parts f i (b ∷ w) = refl

-- no tree begins with the end of a list
no_close : (vs : Trees) (y : List Token) → close_list ∷ y ≡ tokens_of_all vs ++ [] → ⊥
no_close none y e = absurd (cc)
no_close (atom w ▸ vs) y e = absurd (cc)
no_close (list us ▸ vs) y e = absurd (cc)

-- the tokens of lists that are open
abbrev open_rows : List Trees → List Token
open_rows us = flat_map (λ u. open_list ∷ tokens_of_all u) us

regroup_open : {A : Type 0} (o : A) (a b c : List A) → ((o ∷ a) ++ b) ++ c ≡ o ∷ (a ++ (b ++ c))
regroup_open o a b c = simp append_assoc

regroup_parts : {A : Type 0} (a b c d : List A) → a ++ ((b ++ c) ++ d) ≡ (a ++ b) ++ (c ++ d)
regroup_parts a b c d = simp append_assoc

regroup_list : {A : Type 0} (o c : A) (a b d : List A) → ((o ∷ (a ++ (c ∷ []))) ++ b) ++ d ≡ o ∷ (a ++ (c ∷ (b ++ d)))
regroup_list o c a b d = simp append_assoc

behind_open : (o : Token) (x y : List Token) → o ∷ x ≡ o ∷ y → x ≡ y
behind_open o x y e = cc

-- the items of an open list begin the list at that place
inside_open : (u : Trees) (rest y : List Token) (ts : Trees) → open_list ∷ (tokens_of_all u ++ rest) ≡ tokens_of_all ts ++ y → ((z : List Token) → y ≡ open_list ∷ z → ⊥)
    → (us : Trees) × (vs : Trees) × (ts ≡ list (joined_rows u us) ▸ vs) × (rest ≡ tokens_of_all us ++ (close_list ∷ (tokens_of_all vs ++ y)))
inside_open u rest y none e stops = absurd (stops (tokens_of_all u ++ rest) (sym e))
inside_open u rest y (atom w ▸ ts) e stops = absurd (cc)
inside_open u rest y (list us ▸ ts) e stops =
    let inner = behind_open open_list _ _ (e ∙ regroup_list open_list close_list (tokens_of_all us) (tokens_of_all ts) y) in
    let found = first_trees_of u us rest (close_list ∷ (tokens_of_all ts ++ y)) tt inner in
    (found.0, ts, ap (λ x. list x ▸ ts) found.1, found.2)

-- a list that is open does not end
stays_open : (us : List Trees) (w : List ℕ) (ts : Trees) (y : List Token) → are_letters w ≡ true → open_rows us ++ lexed (w ++ []) ≡ tokens_of_all ts ++ (close_list ∷ y) → ⊥
stays_open [] w ts y h e =
    let found = first_trees_of ts (last_word w) (close_list ∷ y) [] tt (sym e ∙ last_tokens w h ∙ sym (append-nil (tokens_of_all (last_word w)))) in
    no_close found.0 y found.2
stays_open (u ∷ us) w ts y h e =
    let found = inside_open u (open_rows us ++ lexed (w ++ [])) (close_list ∷ y) ts (sym (regroup_open open_list (tokens_of_all u) (open_rows us) (lexed (w ++ []))) ∙ e) (λ z d. absurd (cc)) in
    stays_open us w found.0 (tokens_of_all found.1 ++ (close_list ∷ y)) h found.3

-- what has begun is the whole
ended_whole : (forms : Trees) (rows : List Trees) (w : List ℕ) (ts : Trees) → are_letters w ≡ true → (tokens_of_all forms ++ open_rows rows) ++ lexed (w ++ []) ≡ tokens_of_all ts → parts_ended forms rows ≡ parts_of ts
ended_whole forms rows w ts h e =
    let found = first_trees_of forms ts (open_rows rows ++ lexed (w ++ [])) [] tt (sym (append_assoc (tokens_of_all forms) (open_rows rows) (lexed (w ++ []))) ∙ e ∙ sym (append-nil (tokens_of_all ts))) in
    by_rows rows found.0 found.2 ∙ ap parts_of (sym found.1) where
      by_rows : (rows : List Trees) (vs : Trees) → open_rows rows ++ lexed (w ++ []) ≡ tokens_of_all vs ++ [] → parts_ended forms rows ≡ parts_of (joined_rows forms vs)
      by_rows [] vs e =
          let same : vs ≡ last_word w = same_by_tokens vs (last_word w) (sym (append-nil (tokens_of_all vs)) ∙ sym e ∙ last_tokens w h) in
          sym (ap (λ x. parts_of (joined_rows forms x)) same
          ∙ from_joined 0 0 forms (last_word w)
          ∙ ap (λ ps. parts_of forms ++ ps) (no_parts (0 + tree_count forms) (0 + item_count_of_all forms) w)
          ∙ append-nil (parts_of forms))
      by_rows (u ∷ us) vs e =
          let found = inside_open u (open_rows us ++ lexed (w ++ [])) [] vs (sym (regroup_open open_list (tokens_of_all u) (open_rows us) (lexed (w ++ []))) ∙ e) (λ z d. absurd (cc)) in
          absurd (stays_open us w found.0 (tokens_of_all found.1 ++ []) h found.3)

-- all parts of a file that reads as trees
pub whole_parts : (bytes : List ℕ) (ts : Trees) (parts : List Part) → ReadsAs bytes ts → AreAllParts bytes parts → parts ≡ parts_of ts
whole_parts bytes ts parts r a =
    let same : a.read ++ [] ≡ bytes = sym (a.joined ∙ ap (λ x. a.read ++ x) (to_end a.stops)) in
    a.all ∙ ended_whole a.forms a.rows a.begins.word ts a.begins.letters (a.begins.tokens [] ∙ ap (λ x. lexed (uncommented false x)) same ∙ r.tokens) where
      to_end : (a.unread ≡ []) ⊎ IsFirstFault bytes (length a.read) → a.unread ≡ []
      to_end (inl e) = e
      to_end (inr f) = absurd (no_fault_lem bytes ts (length a.read) r f)

-- parts of forms and of the list that is open, before others
more_forms : (forms vs : Trees) (taken ready : List Part) → taken ++ ready ≡ parts_of forms → (others : List Part) × (parts_of (joined_rows forms vs) ≡ taken ++ others)
more_forms forms vs taken ready e =
    let more : List Part = parts_from (0 + tree_count forms) (0 + item_count_of_all forms) vs in
    (ready ++ more, from_joined 0 0 forms vs ∙ ap (λ ps. ps ++ more) (sym e) ∙ append_assoc taken ready more)

more_items : (forms items us vs : Trees) (taken ready : List Part) → taken ++ ready ≡ parts_of forms ++ parts_in (tree_count forms) (item_count_of_all forms + 1) items
    → (others : List Part) × (parts_of (joined_rows forms (list (joined_rows items us) ▸ vs)) ≡ taken ++ others)
more_items forms items us vs taken ready e =
    let f : ℕ = 0 + tree_count forms in
    let i : ℕ = 0 + item_count_of_all forms + 1 in
    let inner : List Part = parts_in f (i + item_count_of_all items) us in
    let outer : List Part = parts_from (f + 1) (i + item_count_of_all (joined_rows items us)) vs in
    let same : parts_in f i items ≡ parts_in (tree_count forms) (item_count_of_all forms + 1) items = in_at f (tree_count forms) i (item_count_of_all forms + 1) items (omega arith) (omega arith) in (
      ready ++ (inner ++ outer),
      from_joined 0 0 forms (list (joined_rows items us) ▸ vs)
          ∙ ap (λ ps. parts_of forms ++ (ps ++ outer)) (in_joined f i items us ∙ ap (λ ps. ps ++ inner) same)
          ∙ regroup_parts (parts_of forms) (parts_in (tree_count forms) (item_count_of_all forms + 1) items) inner outer
          ∙ ap (λ ps. ps ++ (inner ++ outer)) (sym e)
          ∙ append_assoc taken ready (inner ++ outer),
    )

-- what was set aside of a file that reads as trees
pub aside_first : (b : Bool) (forms items : Trees) (rest : List Token) (ts : Trees) (taken ready : List Part) → front b forms items ++ rest ≡ tokens_of_all ts → taken ++ ready ≡ parts_ended forms (opened b items)
    → (others : List Part) × (parts_of ts ≡ taken ++ others)
aside_first false forms items rest ts taken ready e p =
    let found = first_trees_of forms ts rest [] tt (e ∙ sym (append-nil (tokens_of_all ts))) in
    let more = more_forms forms found.0 taken ready p in
    (more.0, ap parts_of found.1 ∙ more.1)
aside_first true forms items rest ts taken ready e p =
    let found = first_trees_of forms ts ((open_list ∷ tokens_of_all items) ++ rest) [] tt (sym (append_assoc (tokens_of_all forms) (open_list ∷ tokens_of_all items) rest) ∙ e ∙ sym (append-nil (tokens_of_all ts))) in
    let inner = inside_open items rest [] found.0 found.2 (λ z d. absurd (cc)) in
    let more = more_items forms items inner.0 inner.1 taken ready p in
    (more.0, ap parts_of (found.1 ∙ ap (joined_rows forms) inner.2) ∙ more.1)

-- the parts that were taken are the first of the whole
pub taken_first : (fed more : List ℕ) (taken : List Part) (r : Reader) (ts : Trees) → IsAfterTaking fed taken r → ReadsAs (fed ++ more) ts → (others : List Part) × (parts_of ts ≡ taken ++ others)
taken_first fed more taken r ts h reads =
    let aside = h.splits.aside in
    let same : h.read ++ (h.unread ++ more) ≡ fed ++ more = sym (append_assoc h.read h.unread more) ∙ ap (λ x. x ++ more) (sym h.joined) in
    aside_first r.splitter.in_list aside.forms aside.items _ ts taken r.splitter.ready.items (aside.tokens (h.unread ++ more) ∙ ap (λ x. lexed (uncommented false x)) same ∙ reads.tokens) aside.parts
