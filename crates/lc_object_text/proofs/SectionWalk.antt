-- Steps of a walk over the sections of a development file.
use Rattle.std.proofs.Common.{◌≡◌, ℕ, ◌+◌, ◌<◌, ◌≤◌, true, false, List, [], ◌∷◌, ◌++◌, Option, Some, Ok, Err, map, length, refl, sym, ap, ap₂, ◌∙◌, arith, cond, append_assoc, length-append, append-nil}
use Rattle.lc_sexp.specs.Trees.{Tree, Trees, none, ◌▸◌, item_count, item_count_of_all}
use Rattle.lc_sexp.specs.TreeCode.{tree_count}
use Rattle.lc_sexp.specs.Parts.{any_fit, begins_form}
use Rattle.lc_sexp.specs.Shown.{rest_of, number_of, IsPart, GivesPart, ShowsItem}
use Rattle.lc_sexp.specs.declared.misfit.Misfit.{Misfit}
use Rattle.lc_sexp.specs.declared.cursor.Cursor.{Cursor}
use Rattle.lc_sexp.specs.declared.cursor.Item.{Item}
use Rattle.lc_sexp.specs.declared.cursor.Item.TheVariants.{Atom as AtomItem, List as ListItem}
use Rattle.lc_object_text.specs.Sections.{behind_lists, behind_forms, forms_in, parts_in}
use Rattle.lc_object_text.specs.Seen.{items_of, size, IsNextForm}
use Rattle.lc_object_text.specs.ObjectNames.{first_text, items_within, within_first, names_of_columns, columns_of_arrays, spans_from, span_of, Span, Body, later}
use Rattle.lc_object_text.specs.ObjectNames.{Call, Declared, body_of, bodies_from, labels_of_bodies, points_in, parts_in_first}
use Rattle.std.specs.Prelude.{codes, zero, suc}
use Rattle.lc_object_text.proofs.ObjectHolds.{names_counted}

-- how many items an item has, with itself
abbrev size_of : Item → ℕ
size_of (AtomItem a) = 1
size_of (ListItem c) = item_count_of_all (rest_of c) + 1

size_of_shown : (n : ℕ) (t : Tree) (item : Item) → ShowsItem n t item → size_of item ≡ item_count t
size_of_shown n t (AtomItem a) h = sym (ap item_count h.1)
size_of_shown n t (ListItem c) (ts, e, w) = ap (λ us. item_count_of_all us + 1) w.rest ∙ sym (ap item_count e)

taken_from : (c c' : Cursor) (item : Item) (ts : Trees) → IsPart any_fit ShowsItem c ts (Ok item) c' → size_of item + item_count_of_all (rest_of c') ≡ item_count_of_all ts
taken_from c c' item none h = absurd (let e : Ok item ≡ Err _ = h.0 in cc)
taken_from c c' item (t ▸ ts) h = omega (arith, size_of_shown (number_of c) t item h.0, ap item_count_of_all h.1.rest)

-- the rest after an item
taken : (c c' : Cursor) (item : Item) → GivesPart any_fit ShowsItem c (Ok item) c' → size_of item + item_count_of_all (rest_of c') ≡ item_count_of_all (rest_of c)
taken c c' item h = taken_from c c' item (rest_of c) h

passed_from : (word : List ℕ) (c c' : Cursor) (item : Item) (ts : Trees) → begins_form word ts ≡ true → IsPart any_fit ShowsItem c ts (Ok item) c' →
    behind_lists word (number_of c) ts ≡ behind_lists word (number_of c') (rest_of c')
passed_from word c c' item none e h = cc
passed_from word c c' item (t ▸ ts) e h =
    ap (λ b. cond b (behind_lists word (number_of c + item_count t) ts) (record { number = number_of c; trees = t ▸ ts })) e ∙ ap₂ (behind_lists word) (sym h.1.number) (sym h.1.rest)

-- after a list that begins with the word
pub passed_form : (word : List ℕ) (c c' : Cursor) (item : Item) → begins_form word (rest_of c) ≡ true → GivesPart any_fit ShowsItem c (Ok item) c' →
    behind_forms word (items_of c) ≡ behind_forms word (items_of c')
passed_form word c c' item e h = passed_from word c c' item (rest_of c) e h

stopped_from : (word : List ℕ) (n : ℕ) (ts : Trees) → begins_form word ts ≡ false → behind_lists word n ts ≡ record { number = n; trees = ts }
stopped_from word n none e = refl
stopped_from word n (t ▸ ts) e = ap (λ b. cond b (behind_lists word (n + item_count t) ts) (record { number = n; trees = t ▸ ts })) e

-- no such list is left
pub stopped_form : (word : List ℕ) (c : Cursor) → begins_form word (rest_of c) ≡ false → items_of c ≡ behind_forms word (items_of c)
stopped_form word c e = sym (stopped_from word (number_of c) (rest_of c) e)

some_size : (item : Item) → 1 ≤ size_of item
some_size (AtomItem a) = omega arith
some_size (ListItem c) = omega arith

-- one item fewer is left
pub size_after_item : (c c' : Cursor) (item : Item) → GivesPart any_fit ShowsItem c (Ok item) c' → size c' < size c
size_after_item c c' item h = omega (arith, taken c c' item h, some_size item)

columns_from : (c c' : Cursor) (item : Item) (ts : Trees) → IsPart any_fit ShowsItem c ts (Ok item) c' → names_of_columns ts ≡ first_text (within_first ts) ∷ names_of_columns (rest_of c')
columns_from c c' item none h = absurd (let e : Ok item ≡ Err _ = h.0 in cc)
columns_from c c' item (t ▸ ts) h = ap (λ us. first_text (items_within t) ∷ names_of_columns us) (sym h.1.rest)

-- the name of a column, and those after it
pub columns_more : (c c' : Cursor) (item : Item) (names more : List (List ℕ)) (name : List ℕ) → GivesPart any_fit ShowsItem c (Ok item) c' → name ≡ first_text (within_first (rest_of c)) →
    more ≡ names ++ name ∷ [] → names ++ names_of_columns (rest_of c) ≡ more ++ names_of_columns (rest_of c')
columns_more c c' item names more name h is e =
    ap (λ xs. names ++ xs) (columns_from c c' item (rest_of c) h ∙ ap (λ w. w ∷ names_of_columns (rest_of c')) (sym is))
    ∙ sym (append_assoc names (name ∷ []) (names_of_columns (rest_of c'))) ∙ ap (λ xs. xs ++ names_of_columns (rest_of c')) (sym e)

-- one more array, and those after it
pub array_columns : (word : List ℕ) (old new parts : Cursor) (xs more : List (List ℕ)) → IsNextForm false word old (Some parts) new → more ≡ xs ++ names_of_columns (later (rest_of parts)) →
    more ++ columns_of_arrays (forms_in word (rest_of new)) ≡ xs ++ columns_of_arrays (forms_in word (rest_of old))
array_columns word old new parts xs more h e =
    ap (λ m. m ++ columns_of_arrays (forms_in word (rest_of new))) e ∙ append_assoc xs (names_of_columns (later (rest_of parts))) (columns_of_arrays (forms_in word (rest_of new)))
    ∙ ap (λ f. xs ++ columns_of_arrays f) (sym h.0)

pub array_names : (word : List ℕ) (old new parts : Cursor) (xs more : List (List ℕ)) → IsNextForm false word old (Some parts) new → more ≡ xs ++ first_text (rest_of parts) ∷ [] →
    more ++ map first_text (forms_in word (rest_of new)) ≡ xs ++ map first_text (forms_in word (rest_of old))
array_names word old new parts xs more h e =
    ap (λ m. m ++ map first_text (forms_in word (rest_of new))) e ∙ append_assoc xs (first_text (rest_of parts) ∷ []) (map first_text (forms_in word (rest_of new)))
    ∙ ap (λ f. xs ++ map first_text f) (sym h.0)

pub array_spans : (word : List ℕ) (old new parts : Cursor) (k l : ℕ) (xs more : List Span) → IsNextForm false word old (Some parts) new → more ≡ xs ++ span_of k (rest_of parts) ∷ [] →
    l ≡ k + tree_count (later (rest_of parts)) → more ++ spans_from l (forms_in word (rest_of new)) ≡ xs ++ spans_from k (forms_in word (rest_of old))
array_spans word old new parts k l xs more h e next =
    ap₂ (λ m j. m ++ spans_from j (forms_in word (rest_of new))) e next
    ∙ append_assoc xs (span_of k (rest_of parts) ∷ []) (spans_from (k + tree_count (later (rest_of parts))) (forms_in word (rest_of new)))
    ∙ ap (λ f. xs ++ spans_from k f) (sym h.0)

-- how many names there are then
pub columns_then : (xs more : List (List ℕ)) (ts : Trees) → more ≡ xs ++ names_of_columns ts → length more ≡ length xs + tree_count ts
columns_then xs more ts e = omega (arith, ap length e, length-append xs (names_of_columns ts), names_counted ts)

abbrev the_body : List ℕ → ℕ → List (List ℕ) → Option ℕ → List (List ℕ) → List (List ℕ) → Body
the_body operation first arguments replies locals labels = record { operation = operation; first = first; call = record { arguments = arguments; replies = replies }; locals = locals; labels = labels }

-- bodies with the same parts
pub same_body : {o o' : List ℕ} {first : ℕ} {a a' : List (List ℕ)} {r r' : Option ℕ} {l l' b b' : List (List ℕ)} → o ≡ o' → a ≡ a' → r ≡ r' → l ≡ l' → b ≡ b' → the_body o first a r l b ≡ the_body o' first a' r' l' b'
same_body e1 e2 e3 e4 e5 = rw (e1, e2, e3, e4, e5) refl

pub mapped_length : {A B : Type 0} (f : A → B) (xs : List A) → length (map f xs) ≡ length xs
mapped_length f [] = refl
mapped_length f (x ∷ xs) = omega (arith, mapped_length f xs)

body_from : (names : List (List ℕ)) (calls : List Call) (k p n : ℕ) (c c' : Cursor) (item : Item) (ts : Trees) → IsPart any_fit ShowsItem c ts (Ok item) c' →
    bodies_from names calls k p (suc n) ts
    ≡ body_of names calls k p (parts_in_first (codes "body") ts) ∷ bodies_from names calls (k + 1) (p + length (points_in (parts_in_first (codes "body") ts))) n (rest_of c')
body_from names calls k p n c c' item none h = absurd (let e : Ok item ≡ Err _ = h.0 in cc)
body_from names calls k p n c c' item (t ▸ ts) h =
    ap (λ us. body_of names calls k p (parts_in (codes "body") t) ∷ bodies_from names calls (k + 1) (p + length (points_in (parts_in (codes "body") t))) n us) (sym h.1.rest)

-- one more body, and those after it
pub bodies_more : (names : List (List ℕ)) (calls : List Call) (k p p' m n : ℕ) (c c' : Cursor) (item : Item) (parts : Trees) (body : Body) (xs more : List Body) → GivesPart any_fit ShowsItem c (Ok item) c' →
    parts ≡ parts_in_first (codes "body") (rest_of c) → body ≡ body_of names calls k p parts → more ≡ xs ++ body ∷ [] → p' ≡ p + length (points_in parts) → m ≡ suc n →
    more ++ bodies_from names calls (k + 1) p' n (rest_of c') ≡ xs ++ bodies_from names calls k p m (rest_of c)
bodies_more names calls k p p' m n c c' item parts body xs more h own is e next left =
    let behind = bodies_from names calls (k + 1) p' n (rest_of c') in
    let whole = parts_in_first (codes "body") (rest_of c) in
    ap (λ ys. ys ++ behind) e ∙ append_assoc xs (body ∷ []) behind
    ∙ ap₂ (λ x q. xs ++ x ∷ bodies_from names calls (k + 1) q n (rest_of c')) (is ∙ ap (body_of names calls k p) own) (next ∙ ap (λ us. p + length (points_in us)) own)
    ∙ ap (λ ys. xs ++ ys) (sym (ap (λ j. bodies_from names calls k p j (rest_of c)) left ∙ body_from names calls k p n c c' item (rest_of c) h))

no_bodies : (names : List (List ℕ)) (calls : List Call) (k p n : ℕ) → bodies_from names calls k p n none ≡ []
no_bodies names calls k p zero = refl
no_bodies names calls k p (suc n) = refl

bodies_end : (names : List (List ℕ)) (calls : List Call) (k p n : ℕ) (c c' : Cursor) (m : Misfit) (ts : Trees) → IsPart any_fit ShowsItem c ts (Err m) c' → bodies_from names calls k p n ts ≡ []
bodies_end names calls k p n c c' m none h = no_bodies names calls k p n
bodies_end names calls k p n c c' m (t ▸ ts) h = absurd h

-- no item is left, or no body is expected
pub bodies_ended : (names : List (List ℕ)) (calls : List Call) (k p n : ℕ) (c c' : Cursor) (m : Misfit) (xs whole : List Body) → GivesPart any_fit ShowsItem c (Err m) c' →
    xs ++ bodies_from names calls k p n (rest_of c) ≡ whole → xs ≡ whole
bodies_ended names calls k p n c c' m xs whole h e = sym (append-nil xs) ∙ ap (λ ys. xs ++ ys) (sym (bodies_end names calls k p n c c' m (rest_of c) h)) ∙ e

pub bodies_done : (names : List (List ℕ)) (calls : List Call) (k p n : ℕ) (ts : Trees) (xs whole : List Body) → n ≡ 0 → xs ++ bodies_from names calls k p n ts ≡ whole → xs ≡ whole
bodies_done names calls k p n ts xs whole z e = sym (append-nil xs) ∙ ap (λ ys. xs ++ ys) (sym (ap (λ j. bodies_from names calls k p j ts) z)) ∙ e

-- the labels of one more body
pub labels_last : (bs : List Body) (b : Body) → labels_of_bodies (bs ++ b ∷ []) ≡ labels_of_bodies bs ++ b.labels
labels_last [] b = append-nil b.labels
labels_last (x ∷ bs) b = ap (λ ys. x.labels ++ ys) (labels_last bs b) ∙ sym (append_assoc x.labels (labels_of_bodies bs) b.labels)

abbrev the_declared : List (List ℕ) → ℕ → ℕ → List (List ℕ) → List Span → List (List ℕ) → List Call → List (List ℕ) → List Body → Declared
the_declared columns abstracts auxiliaries arrays spans operations calls points bodies =
    record { columns = columns; abstracts = abstracts; auxiliaries = auxiliaries; arrays = arrays; spans = spans; operations = operations; calls = calls; points = points; bodies = bodies }

-- the same names
pub same_declared : {c c' : List (List ℕ)} {m m' n n' : ℕ} {a a' : List (List ℕ)} {s s' : List Span} {o o' : List (List ℕ)} {k k' : List Call} {p p' : List (List ℕ)} {b b' : List Body} →
    c ≡ c' → m ≡ m' → n ≡ n' → a ≡ a' → s ≡ s' → o ≡ o' → k ≡ k' → p ≡ p' → b ≡ b' → the_declared c m n a s o k p b ≡ the_declared c' m' n' a' s' o' k' p' b'
same_declared e1 e2 e3 e4 e5 e6 e7 e8 e9 = rw (e1, e2, e3, e4, e5, e6, e7, e8, e9) refl
