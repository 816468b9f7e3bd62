-- What holds of items that are read by their places.
use Rattle.std.proofs.Common.{◌≡◌, ℕ, zero, suc, ◌+◌, ◌≤◌, ◌<◌, Bool, true, false, cond, List, [], ◌∷◌, take, length, Option, Some, None, refl, ap, ◌∙◌, arith}
use Rattle.std.proofs.lemmas.Bool.Decides.{nat_tests}
use Rattle.std.specs.Prelude.{nat_le, nat_lt, ◌||◌}
use Rattle.std.specs.List.{list_any}
use Rattle.lc_lemmas.proofs.Numbers.{at_least_from_test}
use Rattle.lc_base.specs.NameText.{is_name}
use Rattle.lc_sexp.specs.Parts.{fits, misshapen, form_fit}
use Rattle.lc_sexp.specs.TreeCode.{tree_count}
use Rattle.lc_sexp.specs.Trees.{Tree, Trees, atom, list, none, ◌▸◌, item_count}
use Rattle.lc_reading.proofs.Holding.{Holds, holds_weaker, and_holds, both_holds, ended_holds}
use Rattle.lc_reading.specs.Listed.{declared_by, names_among}
use Rattle.lc_reading.specs.Naming.{name_reading}
use Rattle.lc_reading.specs.Readings.{Reading, fine, flawed, wrong, mapped, limited, behind_reading}
use Rattle.lc_reading.specs.Reserved.{is_reserved}
use Rattle.lc_reading.specs.Words.{is, is_long}
use Rattle.lc_reading.specs.declared.pass.Pass.TheVariants.{Shape, Repeated, Bound}
use Rattle.lc_object_text.specs.Counts.{count_reading, ended_behind, row_reading, second}
use Rattle.lc_object_text.specs.Declaring.{kth_name_reading, listed_name_reading, names_reading, column_name_reading, section_parts, section_reading}
use Rattle.lc_object_text.specs.ObjectNames.{items_within, text_in}
use Rattle.lc_object_text.specs.Rows.{cons, placed_reading}
use Rattle.lc_object_text.specs.Sections.{before_others, parts_of_fit, parts_in, forms_in, some_forms_in}

-- what is below its limit
below_of : (k limit : ℕ) → nat_le limit k ≡ false → k < limit
below_of k limit e = grind (arith, nat_tests)

pub limited_below : {X : Type 0} (limit k n : ℕ) (r : Reading X) → Holds (λ x. k < limit) (limited (nat_le limit k) n r)
limited_below {X} limit k n r = by_test (nat_le limit k) refl r where
  by_test : (b : Bool) → nat_le limit k ≡ b → (r : Reading X) → Holds (λ x. k < limit) (limited b n r)
  by_test true e (fine x) = tt
  by_test true e (flawed f) = tt
  by_test false e (fine x) = below_of k limit e
  by_test false e (flawed f) = tt

-- items in a row, each with what it reads as
abbrev pub Each : {X : Type 0} → (ℕ → Tree → X → Type 0) → ℕ → Trees → List X → Type 0
Each P i none [] = Unit {0}
Each P i none (x ∷ xs) = ⊥
Each P i (t ▸ ts) [] = ⊥
Each P i (t ▸ ts) (x ∷ xs) = P i t x × Each P (i + 1) ts xs

pub placed_holds : {X : Type 0} (P : ℕ → Tree → X → Type 0) (read : ℕ → ℕ → Tree → Reading X) → ((i n : ℕ) (t : Tree) → Holds (P i t) (read i n t)) → (i m : ℕ) (ts : Trees) → Holds (Each P i ts) (placed_reading read i m ts)
placed_holds P read h i m none = tt
placed_holds P read h i m (t ▸ ts) =
    both_holds (P i t) (Each P (i + 1) ts) (Each P i (t ▸ ts)) cons (read i m t) (placed_reading read (i + 1) (m + item_count t) ts) (h i m t) (placed_holds P read h (i + 1) (m + item_count t) ts) (λ x xs p q. (p, q))

pub each_counted : {X : Type 0} (P : ℕ → Tree → X → Type 0) (i : ℕ) (ts : Trees) (xs : List X) → Each P i ts xs → length xs ≡ tree_count ts
each_counted P i none [] h = refl
each_counted P i none (x ∷ xs) h = absurd h
each_counted P i (t ▸ ts) [] h = absurd h
each_counted P i (t ▸ ts) (x ∷ xs) h = ap suc (each_counted P (i + 1) ts xs h.1)

-- there are no more than their limit
pub each_few : {X : Type 0} (P : ℕ → Tree → X → Type 0) (limit : ℕ) → ((i : ℕ) (t : Tree) (x : X) → P i t x → i < limit) → (i : ℕ) (ts : Trees) (xs : List X) → i ≤ limit → Each P i ts xs → i + length xs ≤ limit
each_few P limit f i none [] few h = omega (arith, few)
each_few P limit f i none (x ∷ xs) few h = absurd h
each_few P limit f i (t ▸ ts) [] few h = absurd h
each_few P limit f i (t ▸ ts) (x ∷ xs) few h =
    let below : i < limit = f i t x h.0 in
    omega (arith, each_few P limit f (i + 1) ts xs (omega (arith, below)) h.1)

-- lists that begin with a word
pub form_holds : {X : Type 0} (P : Trees → X → Type 0) (word : List ℕ) (read : ℕ → ℕ → Trees → Reading X) (n : ℕ) (t : Tree) → ((n m : ℕ) (ts : Trees) → Holds (P ts) (read n m ts))
    → Holds (λ x. (form_fit word t ≡ fits (parts_in word t)) × P (parts_in word t) x) (behind_reading word read n t)
form_holds P word read n (atom w) h = tt
form_holds P word read n (list none) h = tt
form_holds P word read n (list (list us ▸ ts)) h = tt
form_holds {X} P word read n (list (atom w ▸ ts)) h = by_test (is w word) where
  by_test : (b : Bool) → Holds (λ x. (cond b (fits ts) misshapen ≡ fits (parts_of_fit (cond b (fits ts) misshapen))) × P (parts_of_fit (cond b (fits ts) misshapen)) x) (cond b (read n (n + 2) ts) (wrong Shape n))
  by_test true = holds_weaker (P ts) (λ x. (fits ts ≡ fits ts) × P ts x) (read n (n + 2) ts) (λ x p. (refl, p)) (h n (n + 2) ts)
  by_test false = tt

abbrev pub AllForms : List ℕ → Trees → Type 0
AllForms word none = Unit {0}
AllForms word (t ▸ ts) = (form_fit word t ≡ fits (parts_in word t)) × AllForms word ts

pub each_form : {X : Type 0} (P : ℕ → Tree → X → Type 0) (word : List ℕ) → ((i : ℕ) (t : Tree) (x : X) → P i t x → form_fit word t ≡ fits (parts_in word t)) → (i : ℕ) (ts : Trees) (xs : List X) → Each P i ts xs → AllForms word ts
each_form P word f i none [] h = tt
each_form P word f i none (x ∷ xs) h = absurd h
each_form P word f i (t ▸ ts) [] h = absurd h
each_form P word f i (t ▸ ts) (x ∷ xs) h = (f i t x h.0, each_form P word f (i + 1) ts xs h.1)

abbrev pub parts_of_all : List ℕ → Trees → List Trees
parts_of_all word none = []
parts_of_all word (t ▸ ts) = parts_in word t ∷ parts_of_all word ts

all_forms : (word : List ℕ) (ts : Trees) → AllForms word ts → forms_in word ts ≡ parts_of_all word ts
all_forms word none h = refl
all_forms word (t ▸ ts) h = ap (λ f. before_others f (forms_in word ts)) h.0 ∙ ap (λ rest. parts_in word t ∷ rest) (all_forms word ts h.1)

pub some_forms : (word : List ℕ) (ts : Trees) → AllForms word ts → some_forms_in word ts ≡ parts_of_all word ts
some_forms word none h = refl
some_forms word (t ▸ ts) h = ap (λ rest. parts_in word t ∷ rest) (all_forms word ts h.1)

pub parts_counted : (word : List ℕ) (ts : Trees) → length (parts_of_all word ts) ≡ tree_count ts
parts_counted word none = refl
parts_counted word (t ▸ ts) = ap suc (parts_counted word ts)

-- as many parts as are expected, if their number is known
abbrev pub Counted : Option ℕ → ℕ → Type 0
Counted None n = Unit {0}
Counted (Some m) n = n ≡ m

none_behind : (k m : ℕ) (ts : Trees) → k ≤ tree_count ts → Holds (λ (u : Unit {0}). tree_count ts ≡ k) (ended_behind k m ts (fine tt))
none_behind zero m none h = refl
none_behind zero m (t ▸ ts) h = tt
none_behind (suc k) m none h = absurd (omega (arith, h))
none_behind (suc k) m (t ▸ ts) h =
    holds_weaker (λ (u : Unit {0}). tree_count ts ≡ k) (λ (u : Unit {0}). suc (tree_count ts) ≡ suc k) (ended_behind k (m + item_count t) ts (fine tt)) (λ u e. ap suc e) (none_behind k (m + item_count t) ts (omega (arith, h)))

pub counted_holds : (due : Option ℕ) (n m : ℕ) (ts : Trees) → Holds (λ u. Counted due (tree_count ts)) (count_reading due n m ts)
counted_holds None n m ts = tt
counted_holds (Some due) n m ts = by_test (nat_lt (tree_count ts) due) refl where
  by_test : (b : Bool) → nat_lt (tree_count ts) due ≡ b → Holds (λ (u : Unit {0}). tree_count ts ≡ due) (cond b (wrong Shape n) (ended_behind due m ts (fine tt)))
  by_test true e = tt
  by_test false e = none_behind due m ts (at_least_from_test (tree_count ts) due e)

pub row_holds : {X : Type 0} (P : Trees → X → Type 0) (due : Option ℕ) (R : X → Type 0) (read : ℕ → Trees → Reading X) (n : ℕ) (t : Tree) → ((m : ℕ) (ts : Trees) → Holds (P ts) (read m ts))
    → ((ts : Trees) (x : X) → Counted due (tree_count ts) → P ts x → R x) → Holds R (row_reading due read n t)
row_holds P due R read n (atom w) h f = tt
row_holds P due R read n (list ts) h f =
    both_holds (λ (u : Unit {0}). Counted due (tree_count ts)) (P ts) R second (count_reading due n (n + 1) ts) (read (n + 1) ts) (counted_holds due n (n + 1) ts) (h (n + 1) ts) (λ u x c p. f ts x c p)

-- k parts, and no other
pub behind_holds : {X : Type 0} (P : X → Type 0) (k m : ℕ) (ts : Trees) (r : Reading X) → Holds P r → Holds P (ended_behind k m ts r)
behind_holds P zero m ts r h = ended_holds P m ts r h
behind_holds P (suc k) m none r h = h
behind_holds P (suc k) m (t ▸ ts) r h = behind_holds P k (m + item_count t) ts r h

-- names that are declared
abbrev pub IsName : List (List ℕ) → Tree → List ℕ → Type 0
IsName before t w = (declared_by t ≡ w ∷ []) × (list_any (is w) before ≡ false)

pub text_of : (t : Tree) (w : List ℕ) → declared_by t ≡ w ∷ [] → text_in t ≡ w
text_of (atom v) w e = cc
text_of (list ts) w e = cc

pub name_holds : (before : List (List ℕ)) (n : ℕ) (t : Tree) → Holds (IsName before t) (name_reading None before n t)
name_holds before n (list ts) = tt
name_holds before n (atom w) = by_tests (is_name w) (is_reserved w) (list_any (is w) before) (is_long w) refl where
  by_tests : (a b c e : Bool) → list_any (is w) before ≡ c → Holds (IsName before (atom w)) (mapped (λ (u : Unit {0}). w) (cond a (cond (b || c) (wrong Repeated n) (cond e (wrong Bound n) (fine tt))) (wrong Shape n)))
  by_tests false b c e h = tt
  by_tests true true c e h = tt
  by_tests true false true e h = tt
  by_tests true false false true h = tt
  by_tests true false false false h = (refl, h)

pub kth_name_holds : (names : List (List ℕ)) (k n : ℕ) (t : Tree) → Holds (IsName (take k names) t) (kth_name_reading names k n t)
kth_name_holds names k n t = name_holds (take k names) n t

-- names in a list, up to a limit
abbrev IsListed : ℕ → ℕ → Tree → List ℕ → Type 0
IsListed limit i t w = (i < limit) × (declared_by t ≡ w ∷ [])

listed_name_holds : (limit : ℕ) (names : List (List ℕ)) (base i n : ℕ) (t : Tree) → Holds (IsListed limit i t) (listed_name_reading limit names base i n t)
listed_name_holds limit names base i n t =
    and_holds (λ w. i < limit) (λ w. declared_by t ≡ w ∷ []) (listed_name_reading limit names base i n t) (limited_below limit i n (kth_name_reading names (base + i) n t))
    (only (nat_le limit i) (kth_name_reading names (base + i) n t) (kth_name_holds names (base + i) n t)) where
      only : (b : Bool) (r : Reading (List ℕ)) → Holds (IsName (take (base + i) names) t) r → Holds (λ w. declared_by t ≡ w ∷ []) (limited b n r)
      only true (fine w) h = tt
      only true (flawed f) h = tt
      only false (fine w) h = h.0
      only false (flawed f) h = tt

listed_counted : (limit i : ℕ) (ts : Trees) (ws : List (List ℕ)) → Each (IsListed limit) i ts ws → length ws ≡ length (names_among ts)
listed_counted limit i none [] h = refl
listed_counted limit i none (w ∷ ws) h = absurd h
listed_counted limit i (t ▸ ts) [] h = absurd h
listed_counted limit i (list us ▸ ts) (w ∷ ws) h = absurd (let e : [] ≡ w ∷ [] = h.0.1 in cc)
listed_counted limit i (atom v ▸ ts) (w ∷ ws) h = ap suc (listed_counted limit (i + 1) ts ws h.1)

pub names_hold : (limit : ℕ) (names : List (List ℕ)) (base n : ℕ) (t : Tree) → Holds (λ ws. (length ws ≡ length (names_among (items_within t))) × (length ws ≤ limit)) (names_reading limit names base n t)
names_hold limit names base n (atom w) = tt
names_hold limit names base n (list ts) =
    holds_weaker (Each (IsListed limit) 0 ts) (λ ws. (length ws ≡ length (names_among ts)) × (length ws ≤ limit)) (placed_reading (listed_name_reading limit names base) 0 (n + 1) ts)
    (λ ws h. (listed_counted limit 0 ts ws h, omega (arith, each_few (IsListed limit) limit (λ i t w p. p.0) 0 ts ws (omega arith) h)))
    (placed_holds (IsListed limit) (listed_name_reading limit names base) (listed_name_holds limit names base) 0 (n + 1) ts)

-- as many names of columns as items
pub section_holds : (word : List ℕ) (names : List (List ℕ)) (base n : ℕ) (t : Tree) → Holds (λ ws. length ws ≡ tree_count (parts_in word t)) (section_reading word names base n t)
section_holds word names base n t =
    holds_weaker (λ ws. (form_fit word t ≡ fits (parts_in word t)) × (length ws ≡ tree_count (parts_in word t))) (λ ws. length ws ≡ tree_count (parts_in word t)) (section_reading word names base n t) (λ ws h. h.1)
    (form_holds (λ ts ws. length ws ≡ tree_count ts) word (section_parts names base) n t
    (λ n m ts. holds_weaker (Each (λ i t w. Unit {0}) 0 ts) (λ ws. length ws ≡ tree_count ts) (section_parts names base n m ts) (λ ws h. each_counted (λ i t w. Unit {0}) 0 ts ws h)
    (placed_holds (λ i t w. Unit {0}) (column_name_reading names base) (λ i n t. any (column_name_reading names base i n t)) 0 m ts))) where
      any : {X : Type 0} (r : Reading X) → Holds (λ x. Unit {0}) r
      any (fine x) = tt
      any (flawed f) = tt
